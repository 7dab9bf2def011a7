use Rattle.std.proofs.Common.{◌≡◌, false, ◌+◌, ◌<◌, ◌≤◌, [], length, ap, sym, subst, ◌∙◌, arith}
use Rattle.std.proofs.Math.ListN.{set}
use Rattle.std.proofs.lemmas.List.{get_or_default, get_or-set_same, length-set}
use Rattle.page_ranges.specs.MemoryTypes.{page_count}
use Rattle.page_ranges.specs.Runs.{AreRuns}
use Rattle.descriptor_table.specs.LeafBorders.{HasEndsOf}
use Rattle.descriptor_table.specs.Leaves.{entry_count, runs_in}
use Rattle.descriptor_table.specs.Tables.{EndBy}
use Rattle.descriptor_table.proofs.CutCounts.{two_cuts}
use Rattle.descriptor_table.proofs.LeafChanged.{changed_bound, changed_ends, changed_entries, changed_excess, changed_leaves, changed_runs, IsRetyped}
use Rattle.descriptor_table.proofs.LeafLists.{leaf_ends, leaf_runs}
use Rattle.descriptor_table.proofs.LeafRows.{few_in_row}
use Rattle.descriptor_table.proofs.SplitLeaves.{excess_at}
use Rattle.descriptor_table.proofs.leaf_row.LeafRow.retype.Given.{Over}
use Rattle.descriptor_table.proofs.leaf_row.LeafRow.retype.Goals as goal
use Rattle.descriptor_table.proofs.leaf_row.LeafRow.retype.Goals.{After-index-leaf, After-retype-less, After-continued_beside-after}

-- ---- the leaf as it was

bound : (g : Over) (c : After-index-leaf g) → c.args.at < length c.self.inside.leaves.items
bound g c = rw (← c.self.view_is) at c.requires.bound

pub window_of-window-requires-clause-runs : goal.window_of-window-requires-clause-runs
window_of-window-requires-clause-runs g c =
    let h = bound g (goal.at.window_of-window-requires-clause-runs g c).After-index-leaf in
    subst AreRuns (sym (c.runs.ensures ∙ c.index-leaf.ensures)) (leaf_runs c.self.inside.leaves.items c.args.at _ c.self.invariant.runs h)

pub retype-less-requires-clause-ends : goal.retype-less-requires-clause-ends
retype-less-requires-clause-ends g c =
    let h = bound g (goal.at.retype-less-requires-clause-ends g c).After-index-leaf in
    subst (EndBy page_count) (sym c.index_mut.ensures.value) (leaf_ends page_count c.self.inside.leaves.items c.args.at _ c.self.invariant.ends h)

pub retype-less-requires-clause-fits : goal.retype-less-requires-clause-fits
retype-less-requires-clause-fits g c =
    let h = bound g (goal.at.retype-less-requires-clause-fits g c).After-index-leaf in
    let old = c.index_mut.ensures.value ∙ get_or_default c.self.inside.leaves.items c.args.at c.index_mut.result.now [] h in
    let runs = subst AreRuns (sym c.index_mut.ensures.value) (leaf_runs c.self.inside.leaves.items c.args.at _ c.self.invariant.runs h) in
    omega (arith, ap length old, rw (← c.self.view_is) at c.requires.fits, two_cuts c.args.retyping.now.range c.index_mut.result.now runs)

-- ---- the leaf as it is

new : (g : Over) (c : After-retype-less g) → IsRetyped c.args.retyping.now c.self.inside.leaves.items c.args.at c.index_mut.result.now c.retype-less.new.self
new g c =
    let h : c.args.at < length c.self.inside.leaves.items = rw (← c.self.view_is) at c.requires.bound in
    let is = c.index_mut.ensures.value ∙ get_or_default c.self.inside.leaves.items c.args.at c.index_mut.result.now [] h in
    let fits : length c.index_mut.result.now ≤ 30 = rw is (rw (← c.self.view_is) at c.requires.fits) in
    let was = c.self.invariant in
    let made = c.retype-less.ensures in
    record { bound = h; is = is; leaves = was.are_leaves; runs = was.runs; ends = was.ends; fits = fits; pages = made.pages; order = made.order; more = made.few }

pub continued_beside-after-requires : goal.continued_beside-after-requires
continued_beside-after-requires g c =
    let w = new g (goal.at.continued_beside-after-requires g c).After-retype-less in
    rw c.as_slice-4.ensures.value record { leaves = changed_leaves w; runs = changed_runs w; ends = changed_ends w; bound = changed_bound w }

entries : (g : Over) (c : After-continued_beside-after g) → IsRetyped c.args.retyping.now c.self.inside.leaves.items c.args.at c.index_mut.result.now c.retype-less.new.self
    → c.self.inside.entries + c.continued_beside-before.result + c.retype-less.result.1
    ≡ entry_count (runs_in (set c.self.inside.leaves.items c.args.at c.retype-less.new.self)) + c.continued_beside-after.result + c.retype-less.result.0
entries g c w =
    let leaf = c.index-leaf.ensures ∙ get_or_default c.self.inside.leaves.items c.args.at c.index-leaf.result.now [] w.bound in
    let ends : c.meets_border-meets.result ≡ false → HasEndsOf c.index_mut.result.now c.retype-less.new.self = λ f.
    let inside = c.meets_border-meets.ensures f in
    c.retype-less.ensures.ends inside.0 (omega (arith, inside.1, c.len-2.ensures.value, ap length leaf, ap length w.is)) in
    let before = c.continued_beside-before.ensures in
    let after = c.continued_beside-after.ensures in
    let all = changed_entries w c.meets_border-meets.result _ _ c.retype-less.result.0 c.retype-less.result.1 c.retype-less.ensures.entries ends before.none after.none
    (rw c.as_slice.ensures.value at before.entries) (rw c.as_slice-4.ensures.value at after.entries) in
    omega (arith, all, c.self.invariant.entries)

pub overflow_add-self : goal.overflow_add-self
overflow_add-self g c = omega (arith, (few_in_row c.self.invariant).0, c.continued_beside-before.ensures.few)

pub overflow_add-self-2 : goal.overflow_add-self-2
overflow_add-self-2 g c = omega (arith, (few_in_row c.self.invariant).0, c.continued_beside-before.ensures.few, c.retype-less.ensures.few_entries)

pub overflow_sub-self : goal.overflow_sub-self
overflow_sub-self g c = omega (arith, entries g c (new g (goal.at.overflow_sub-self g c).After-retype-less))

pub overflow_sub-self-2 : goal.overflow_sub-self-2
overflow_sub-self-2 g c = let s = goal.at.overflow_sub-self-2 g c in omega (arith, entries g s.After-continued_beside-after (new g s.After-retype-less))

pub overflow_sub-self-3 : goal.overflow_sub-self-3
overflow_sub-self-3 g c =
    omega (arith, c.self.invariant.excess, rw c.as_slice-2.ensures.value at c.excess_in-less_excess.ensures.value, excess_at c.self.inside.leaves.items c.args.at)

pub overflow_add-self-3 : goal.overflow_add-self-3
overflow_add-self-3 g c = omega (arith, (few_in_row c.self.invariant).1, c.excess_in-more_excess.ensures.few)

pub invariant_of-self : goal.invariant_of-self
invariant_of-self g c =
    let s = goal.at.invariant_of-self g c in
    let w = new g s.After-retype-less in
    let ls = c.self.inside.leaves.items in
    let less = rw c.as_slice-2.ensures.value at c.excess_in-less_excess.ensures.value in
    let more = rw (c.as_slice-3.ensures.value, get_or-set_same ls c.args.at c.retype-less.new.self [] w.bound) at c.excess_in-more_excess.ensures.value in
    record {
      are_leaves = changed_leaves w;
      runs = changed_runs w;
      ends = changed_ends w;
      entries = omega (arith, entries g s.After-continued_beside-after w);
      excess = omega (arith, c.self.invariant.excess, changed_excess w, less, more, ap length w.is, excess_at ls c.args.at);
      fits = omega (arith, c.self.invariant.fits, length-set ls c.args.at c.retype-less.new.self);
      spare_fit = omega (arith, c.self.invariant.spare_fit, length-set ls c.args.at c.retype-less.new.self);
      parts_fit = c.retype-less.ensures.room;
    }

pub returns-clause-room : goal.returns-clause-room
returns-clause-room g c =
    let w = new g (goal.at.returns-clause-room g c).After-retype-less in
    rw (← c.self.view_is) (omega (arith, rw w.is at w.more, rw w.is at (changed_excess w)))
