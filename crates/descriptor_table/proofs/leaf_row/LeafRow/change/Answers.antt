use Rattle.std.proofs.Common.{◌+◌, ◌≤◌, [], length, length-append, take, drop, ap, sym, refl, subst, ◌∙◌, arith}
use Rattle.page_ranges.specs.Runs.{AreMaximalRuns}
use Rattle.std.specs.List.{AllWithin}
use Rattle.std.proofs.lemmas.List.{length-set}
use Rattle.descriptor_table.specs.Leaves.{first_page, leaf_at, runs_in}
use Rattle.descriptor_table.proofs.ChangedLeaves.{few_cuts, first_leaf, leaf_maximal, parts_at, same_pages, so_far_all, so_far_none, step_back, step_cuts, step_left, step_pages}
use Rattle.descriptor_table.proofs.LeafLists
use Rattle.descriptor_table.proofs.Meetings.{maximal-left, maximal-right}
use Rattle.descriptor_table.proofs.SplitLeaves.{excess_at}
use Rattle.descriptor_table.proofs.leaf_row.LeafRow.change.Goals as goal

pub loop-hint-init : goal.loop-hint-init
loop-hint-init g c =
    let ls = c.args.self.now.leaves in
    let n = c.saturating_sub-at.result in
    let r = c.args.retyping.now in
    let runs = rw c.leaves.ensures.value at c.leaves.ensures.runs in
    let all = rw c.leaves.ensures.value at c.leaves.ensures.leaves in
    let bound = rw c.leaves.ensures.value at c.count_leaves_by_from-count.ensures.bound in
    let by : AllWithin (λ l. first_page l ≤ r.range.first) ls 0 c.count_leaves_by_from-count.result = rw c.leaves.ensures.value at c.count_leaves_by_from-count.ensures.by in
    let before = first_leaf ls c.count_leaves_by_from-count.result n r.range.first c.saturating_sub-at.ensures bound by all runs in
    let parts = subst AreMaximalRuns (parts_at ls n) c.requires.order in
    record {
      bound = omega (arith, bound, c.saturating_sub-at.ensures);
      done = maximal-left (runs_in (take n ls)) (runs_in (drop n ls)) parts;
      left = maximal-right (runs_in (take n ls)) (runs_in (drop n ls)) parts;
      pages = so_far_none r.range r.mtype r.owner ls n before;
      room = omega (arith, few_cuts r.range ls n runs);
    }

pub make_room-requires-clause-spare : goal.make_room-requires-clause-spare
make_room-requires-clause-spare g c = λ full. omega (arith, c.loop-hint.invariant.room, c.requires.room, excess_at c.loop-hint.self.leaves c.loop-hint.at, full)

pub retype-requires-clause-order : goal.retype-requires-clause-order
retype-requires-clause-order g c = leaf_maximal c.make_room.new.self.leaves c.loop-hint.at (subst AreMaximalRuns (sym c.make_room.ensures.runs) c.loop-hint.invariant.left)

pub loop-hint-smaller : goal.loop-hint-smaller
loop-hint-smaller g c =
    let ls = c.loop-hint.self.leaves in
    let ms = c.make_room.new.self.leaves in
    let at = c.loop-hint.at in
    let qs = c.settle-at.new.self.leaves in
    let k = c.settle-at.result in
    let back = step_back ls ms c.retype.new.self.leaves qs at k c.make_room.ensures.bound c.make_room.ensures.before c.make_room.ensures.runs c.retype.ensures.leaves c.settle-at.ensures.rest in
    omega (arith, ap length back, length-append (leaf_at ms at) (runs_in (drop k qs)), (LeafLists.leaf_at ms at [] c.make_room.ensures.leaves c.make_room.ensures.bound).0)

pub loop-hint-preserved : goal.loop-hint-preserved
loop-hint-preserved g c =
    let ls = c.loop-hint.self.leaves in
    let ms = c.make_room.new.self.leaves in
    let ns = c.retype.new.self.leaves in
    let qs = c.settle-at.new.self.leaves in
    let at = c.loop-hint.at in
    let k = c.settle-at.result in
    let r = c.args.retyping.now in
    let made = c.make_room.ensures in
    let new = c.retype.ensures in
    let settled = c.settle-at.ensures in
    let was = c.loop-hint.invariant in
    record {
      bound = settled.bound (omega (arith, made.bound, ap length new.leaves, length-set ms at (leaf_at ns at)));
      done = settled.passed;
      left = step_left ls ms ns qs at k made.bound made.before made.runs new.leaves settled.rest was.left;
      pages = step_pages ls ms ns qs at k made.bound made.before made.runs new.leaves settled.rest r.range r.mtype r.owner new.pages settled.pages ∙ was.pages;
      room = omega (arith, was.room, made.takes, new.room, settled.takes, step_cuts ls ms ns qs at k made.bound made.before made.runs new.leaves settled.rest r.range);
    }

pub settle-next-requires-clause-order : goal.settle-next-requires-clause-order
settle-next-requires-clause-order g c = leaf_maximal c.loop-hint.self.leaves c.loop-hint.at c.loop-hint.invariant.left

pub returns-clause-pages : goal.returns-clause-pages
returns-clause-pages g c =
    let ls = c.loop-hint.self.leaves in
    let at = c.loop-hint.at in
    let r = c.args.retyping.now in
    c.settle_few.ensures.pages ∙ same_pages ls c.settle-next.new.self.leaves (at + 1) c.settle-next.result c.settle-next.ensures.pages c.settle-next.ensures.rest ∙ sym (so_far_all r.range r.mtype r.owner ls at (c.loop-hint-test.ensures.none refl)) ∙ c.loop-hint.invariant.pages
