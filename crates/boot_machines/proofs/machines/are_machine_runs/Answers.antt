use Rattle.std.proofs.Common.{◌+◌, ◌≤◌, ◌∷◌, [], take, take_all, refl, inl, inr, arith}
use Rattle.page_ranges.proofs.Members.{all_append}
use Rattle.page_ranges.proofs.RunLists.{EndBy-higher, runs-append}
use Rattle.boot_machines.specs.MachineRuns.{IsMachineRun}
use Rattle.boot_machines.proofs.MachineRunLists.{valid_machine, run_of_machine, begins_after, taken, ends_at}
use Rattle.boot_machines.proofs.machines.are_machine_runs.Goals.{then-run-end-via-then-run-end, then-run-end-via-else-run-end+then-not-is_machine_run}
use Rattle.boot_machines.proofs.machines.are_machine_runs.Goals as goal

pub returns-then-run-end : goal.returns-then-run-end
returns-then-run-end c = (
  λ e. absurd (cc),
  λ v. absurd (elim c.then-run-end.branch [
    | then-run-end-via-then-run-end w ↦ elim c.loop-run.invariant.last [
      | inl e ↦ omega (arith, w.if-run-end.true)
      | inr (j, l, e) ↦ let h = begins_after _ _ _ c.loop-run-test.true c.run-item.is j l v in omega (arith, w.if-run-end.true, e c.run-item.result)
    ]
    | then-run-end-via-else-run-end+then-not-is_machine_run w ↦ let h = w.is_machine_run.ensures.1 (run_of_machine _ _ _ c.loop-run-test.true c.run-item.is v) in cc
  ]),
)

pub loop-run-preserved : goal.loop-run-preserved
loop-run-preserved c =
    let run = c.if-not-is_machine_run.ensures.0 refl in
    let item = c.run-item.result in
    let end = item.range.first + item.range.pages in
    let front = take c.loop-run.run-index c.args.runs.now in
    let more = taken c.args.runs.now c.loop-run.run-index item c.loop-run-test.true c.run-item.is in
    record {
      runs = rw more (runs-append c.loop-run.end front (item ∷ []) c.loop-run.invariant.runs c.loop-run.invariant.ends (run.some, tt, tt) (c.if-run-end.false, tt));
      ends = rw more (all_append (λ r. r.range.first + r.range.pages ≤ end) front (item ∷ []) (EndBy-higher c.loop-run.end end front (omega arith) c.loop-run.invariant.ends) (omega arith, tt));
      each = rw more (all_append IsMachineRun front (item ∷ []) c.loop-run.invariant.each (run, tt));
      last = inr (c.loop-run.run-index, omega arith, ends_at c.args.runs.now c.loop-run.run-index item c.loop-run-test.true c.run-item.is);
    }

pub returns : goal.returns
returns c =
    let whole = take_all c.loop-run.run-index c.args.runs.now c.loop-run-test.false in
    (λ e. valid_machine c.args.runs.now (rw whole at c.loop-run.invariant.runs) (rw whole at c.loop-run.invariant.each), λ v. refl)
