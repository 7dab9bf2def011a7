use Rattle.page_ranges.specs.declared.ranges.Run.{Run}
use borrow.Author.Count.{below_more}
use Rattle.std.proofs.Common.{ap, arith, List, ◌≤◌, get_or}
use Rattle.std.proofs.lemmas.List.{get_or_default}
use Rattle.descriptor_table.specs.Leaves.{first_page}
use Rattle.descriptor_table.proofs.LeafLists.{leaf_firsts_rise}
use Rattle.descriptor_table.proofs.cursors.count_leaves_by_from.Goals as goal

pub loop-index-init : goal.loop-index-init
loop-index-init g c =
    let ls = c.args.leaves.now in
    let leaf = c.index-leaves-start.result in
    λ k d z l.
    omega (arith, leaf_firsts_rise ls c.requires.leaves c.requires.runs k c.args.start d (omega arith) (omega arith), ap first_page c.index-leaves-start.is, ap first_page (get_or_default ls c.args.start d leaf (omega arith)), c.first.ensures)

pub returns-then-page-first-clause-above : goal.returns-then-page-first-clause-above
returns-then-page-first-clause-above g c =
    let ls = c.args.leaves.now in
    let leaf = c.index-leaves-index.result in
    λ k d low high.
    omega (arith, leaf_firsts_rise ls c.requires.leaves c.requires.runs c.loop-index.index k d low high, ap first_page c.index-leaves-index.is, ap first_page (get_or_default ls c.loop-index.index d leaf (omega arith)))

pub returns-clause-above : goal.returns-clause-above
returns-clause-above g c = c.count_leaves_by.ensures.above

pub returns-clause-by : goal.returns-clause-by
returns-clause-by g c = c.count_leaves_by.ensures.by

pub returns-clause-bound : goal.returns-clause-bound
returns-clause-bound g c = c.count_leaves_by.ensures.bound

pub returns-then-page-first-clause-by : goal.returns-then-page-first-clause-by
returns-then-page-first-clause-by g c = c.loop-index.invariant

pub loop-index-preserved : goal.loop-index-preserved
loop-index-preserved g c =
    let ls = c.args.leaves.now in
    let i = c.loop-index.index in
    let leaf = c.index-leaves-index.result in
    λ k d z l.
    below_more (λ j. (e : List Run) → first_page (get_or ls j e) ≤ c.args.page) i (λ j h e. c.loop-index.invariant j e (omega arith) h)
    (λ e. omega (arith, ap first_page c.index-leaves-index.is, ap first_page (get_or_default ls i e leaf (omega arith)), c.first-in-loop-index.ensures, c.if-page-first.false)) k l d

pub first-requires : goal.first-requires
first-requires g c = λ κs low. low

pub first-requires-in-loop-index : goal.first-requires-in-loop-index
first-requires-in-loop-index g c = λ κs low. low

pub bounds-leaves-index : goal.bounds-leaves-index
bounds-leaves-index g c = omega arith

pub bounds-leaves-start : goal.bounds-leaves-start
bounds-leaves-start g c = omega arith

pub loop-index-smaller : goal.loop-index-smaller
loop-index-smaller g c = omega arith

pub offset_bounds-leaves-index : goal.offset_bounds-leaves-index
offset_bounds-leaves-index g c = omega arith

pub offset_bounds-leaves-start : goal.offset_bounds-leaves-start
offset_bounds-leaves-start g c = omega arith

pub overflow_add-index-end : goal.overflow_add-index-end
overflow_add-index-end g c = omega arith

pub overflow_step-index : goal.overflow_step-index
overflow_step-index g c = omega arith

pub overflow_sub-leaves : goal.overflow_sub-leaves
overflow_sub-leaves g c = omega arith

pub returns-then-page-first-clause-bound : goal.returns-then-page-first-clause-bound
returns-then-page-first-clause-bound g c = omega arith
