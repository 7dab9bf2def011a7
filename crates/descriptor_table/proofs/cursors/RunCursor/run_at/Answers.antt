use Rattle.std.proofs.Common.{◌+◌, ◌-◌, ◌≤◌, ◌∙◌, sym, ap, subst, arith}
use Rattle.page_ranges.specs.Memory.{page_at}
use Rattle.page_ranges.specs.MemoryTypes.{page_count}
use Rattle.page_ranges.specs.Runs.{pages_of, AreRuns}
use Rattle.page_ranges.proofs.MaximalRuns.{maximal_are_runs}
use Rattle.descriptor_table.specs.Leaves.{runs_in}
use Rattle.descriptor_table.specs.Tables.{EndBy}
use Rattle.descriptor_table.proofs.LeafLists.{leaf_runs, leaf_all, page_at_leaf, page_at_no_leaf, found_in_leaf}
use Rattle.descriptor_table.proofs.TableFacts.{proper_ends, cursor_table, holds_page}
use Rattle.descriptor_table.proofs.cursors.RunCursor.run_at.Goals as goal

pub count_leaves_by_from-count-requires-clause-runs : goal.count_leaves_by_from-count-requires-clause-runs
count_leaves_by_from-count-requires-clause-runs g c = maximal_are_runs (runs_in c.self.inside.leaves.now) c.self.invariant.1

pub count_ending_by_from-index-requires-clause-runs : goal.count_ending_by_from-index-requires-clause-runs
count_ending_by_from-index-requires-clause-runs g c =
    let ls = c.self.inside.leaves.now in
    subst AreRuns (sym (c.runs-runs.ensures ∙ c.index-leaves-count.is)) (leaf_runs ls (c.count_leaves_by_from-count.result - 1) c.index-leaves-count.result (maximal_are_runs (runs_in ls) c.self.invariant.1) (omega arith))

pub count_ending_by_from-index-requires-clause-ends : goal.count_ending_by_from-index-requires-clause-ends
count_ending_by_from-index-requires-clause-ends g c =
    let ls = c.self.inside.leaves.now in
    let ends = proper_ends (runs_in ls) (maximal_are_runs (runs_in ls) c.self.invariant.1) c.self.invariant.2 in
    subst (EndBy page_count) (sym (c.runs-runs.ensures ∙ c.index-leaves-count.is)) (leaf_all (λ r. r.range.first + r.range.pages ≤ page_count) ls (c.count_leaves_by_from-count.result - 1) c.index-leaves-count.result ends (omega arith))

pub returns-then-count-eq0-clause-page : goal.returns-then-count-eq0-clause-page
returns-then-count-eq0-clause-page g c =
    let ls = c.self.inside.leaves.now in
    rw (← c.self.view_is) (page_at_no_leaf ls c.args.page (maximal_are_runs (runs_in ls) c.self.invariant.1) (λ j e h. c.count_leaves_by_from-count.ensures.above j e (omega arith) h))

pub returns-then-count-eq0-clause-maximal : goal.returns-then-count-eq0-clause-maximal
returns-then-count-eq0-clause-maximal g c = returns-then-count-eq0-clause-page g c

pub run_from-requires-clause-runs : goal.run_from-requires-clause-runs
run_from-requires-clause-runs g c =
    let ls = c.self.inside.leaves.now in
    subst AreRuns (sym (c.runs-runs.ensures ∙ c.index-leaves-count.is)) (leaf_runs ls (c.count_leaves_by_from-count.result - 1) c.index-leaves-count.result (maximal_are_runs (runs_in ls) c.self.invariant.1) (omega arith))

pub returns-clause-page : goal.returns-clause-page
returns-clause-page g c =
    let ls = c.self.inside.leaves.now in
    let count = c.count_leaves_by_from-count in
    let leaf = c.index-leaves-count.result in
    rw (← c.self.view_is)
    (page_at_leaf ls (count.result - 1) c.args.page leaf c.self.invariant.0 (maximal_are_runs (runs_in ls) c.self.invariant.1) (omega arith) (count.ensures.by (count.result - 1) leaf (omega arith) (omega arith)) (λ j e m u. count.ensures.above j e (omega arith) u)
    ∙ sym (ap (λ rs. page_at (pages_of rs) c.args.page) (c.runs-runs.ensures ∙ c.index-leaves-count.is)) ∙ c.run_from.ensures.page)

pub returns-clause-maximal : goal.returns-clause-maximal
returns-clause-maximal g c =
    let ls = c.self.inside.leaves.now in
    let count = c.count_leaves_by_from-count in
    let leaf = c.index-leaves-count.result in
    let page =
    page_at_leaf ls (count.result - 1) c.args.page leaf c.self.invariant.0 (maximal_are_runs (runs_in ls) c.self.invariant.1) (omega arith) (count.ensures.by (count.result - 1) leaf (omega arith) (omega arith)) (λ j e m u. count.ensures.above j e (omega arith) u)
    ∙ sym (ap (λ rs. page_at (pages_of rs) c.args.page) (c.runs-runs.ensures ∙ c.index-leaves-count.is)) ∙ c.run_from.ensures.page in
    let member = found_in_leaf ls (count.result - 1) c.args.page leaf _ c.run_from.result (omega arith) (c.runs-runs.ensures ∙ c.index-leaves-count.is) c.run_from.ensures.member in
    rw (← c.self.view_is) (holds_page (runs_in ls) _ c.args.page c.run_from.result (cursor_table (runs_in ls) c.self.invariant.1 c.self.invariant.2) page member)

pub runs-runs-requires : goal.runs-runs-requires
runs-runs-requires g c = λ κs low. low
