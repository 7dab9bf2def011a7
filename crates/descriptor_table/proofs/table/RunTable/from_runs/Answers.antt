use Rattle.std.proofs.Common.{sym, ap, subst, ◌∙◌, arith}
use Rattle.std.proofs.lemmas.List.{take_all}
use Rattle.page_ranges.specs.Memory.{IsProperMemory}
use Rattle.page_ranges.specs.Runs.{pages_of}
use Rattle.page_ranges.proofs.RunLists.{some_pages_at}
use Rattle.page_ranges.proofs.MaximalRuns.{maximal_are_runs}
use Rattle.descriptor_table.proofs.CutRuns.{run_put_behind, up_to_next}
use Rattle.descriptor_table.proofs.TableFacts.{proper_end_at, proper_ends}
use Rattle.descriptor_table.proofs.table.RunTable.from_runs.Goals as goal

pub push_joined-requires-clause-order : goal.push_joined-requires-clause-order
push_joined-requires-clause-order g c = c.loop-run.invariant.next c.run-item.result (omega arith) c.run-item.is

pub push_joined-requires-clause-some : goal.push_joined-requires-clause-some
push_joined-requires-clause-some g c = rw c.run-item.is (some_pages_at c.args.runs.now c.loop-run.run-index c.run-item.result c.requires.runs (omega arith))

pub push_joined-requires-clause-within : goal.push_joined-requires-clause-within
push_joined-requires-clause-within g c = proper_end_at c.args.runs.now c.loop-run.run-index c.run-item.result c.requires.runs c.requires.proper (omega arith) c.run-item.is

pub loop-run-preserved : goal.loop-run-preserved
loop-run-preserved g c =
    record {
      pages = run_put_behind c.args.runs.now c.loop-run.run-index c.run-item.result (omega arith) c.run-item.is (pages_of c.loop-run.joined.items) (pages_of c.push_joined.new.runs.items) c.in_ok-push_joined.ensures.ok.pages c.loop-run.invariant.pages;
      order = c.in_ok-push_joined.ensures.ok.order.0;
      next = λ s h e. up_to_next c.args.runs.now c.push_joined.new.runs.items c.loop-run.run-index c.run-item.result s c.requires.runs c.run-item.is h e c.in_ok-push_joined.ensures.ok.order;
    }

pub from_runs-requires-clause-runs : goal.from_runs-requires-clause-runs
from_runs-requires-clause-runs g c = rw c.as_slice.ensures.value (maximal_are_runs c.loop-run.joined.items c.loop-run.invariant.order)

pub from_runs-requires-clause-ends : goal.from_runs-requires-clause-ends
from_runs-requires-clause-ends g c =
    let joined = c.loop-run.joined.items in
    let all = c.loop-run.invariant.pages ∙ ap pages_of (take_all c.loop-run.run-index c.args.runs.now (omega arith)) in
    rw c.as_slice.ensures.value (proper_ends joined (maximal_are_runs joined c.loop-run.invariant.order) (subst IsProperMemory (sym all) c.requires.proper))
