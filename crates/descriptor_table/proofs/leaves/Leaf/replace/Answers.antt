use Rattle.std.proofs.Common.{rules, ◌≡◌, ◌<◌, ◌++◌, length, get_or, take, drop, ap, ◌∙◌, arith}
use Rattle.descriptor_table.proofs.ChangedRuns.{allows_changed, first_run}
use Rattle.descriptor_table.proofs.LeafSplices.{replaced_length}
use Rattle.descriptor_table.proofs.leaves.Leaf.replace.Goals as goal

pub invariant_of-self : goal.invariant_of-self
invariant_of-self g c =
    let old = c.self.inside.runs.value.items in
    let was = ap length c.self.view_is in
    let put : c.replace_runs.new.runs.items ≡ take c.args.low old ++ (c.args.parts.now ++ drop c.args.high old) = rw c.deref_mut.ensures.value at c.replace_runs.ensures in
    let same : c.as_slice-runs-2.result.now ≡ c.replace_runs.new.runs.items = search rules in
    let here : c.deref-3.result.now ≡ c.replace_runs.new.runs.items = search rules in
    let near = rw (same, put) at c.summary_changed.ensures in
    let some : 0 < length c.replace_runs.new.runs.items = omega (arith, was, ap length put, replaced_length old c.args.parts.now c.args.low c.args.high c.requires.order (omega (arith, was))) in (
      ap (λ rs. (get_or rs 0 c.index-deref-0.result).range.first) here ∙ first_run c.replace_runs.new.runs.items c.index-deref-0.result some,
      search rules,
      search rules,
      rw put (allows_changed old c.args.parts.now c.args.low c.args.high c.requires.order (omega (arith, was)) c.self.inside.summary c.summary_changed.result.0 c.self.invariant.3 near),
      ap length same,
      rw put (c.marks_changed-self-inside.ensures old c.self.invariant.5 (omega (arith, was, c.requires.bound)) (omega (arith, was, c.requires.fits))),
    )

pub marks_changed-self-inside-requires-clause-bound : goal.marks_changed-self-inside-requires-clause-bound
marks_changed-self-inside-requires-clause-bound g c =
    let here : c.as_slice-runs.result.now ≡ c.self.inside.runs.value.items = search rules in
    omega (arith, c.requires.bound, ap length c.self.view_is, ap length here, c.as_slice-runs.ensures.fits)
