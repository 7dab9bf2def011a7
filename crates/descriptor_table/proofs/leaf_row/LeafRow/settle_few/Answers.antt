use Rattle.std.proofs.Common.{◌+◌, drop, take, subst}
use Rattle.page_ranges.specs.Runs.{AreMaximalRuns}
use Rattle.descriptor_table.specs.Leaves.{runs_in}
use Rattle.descriptor_table.proofs.ChangedLeaves.{leaf_maximal, parts_at, same_pages}
use Rattle.descriptor_table.proofs.Meetings.{maximal-left, maximal-right}
use Rattle.descriptor_table.proofs.leaf_row.LeafRow.settle_few.Goals as goal

pub settle-next-requires-clause-below : goal.settle-next-requires-clause-below
settle-next-requires-clause-below g c =
    let ls = c.args.self.now.leaves in
    let at = c.args.at in
    maximal-left (runs_in (take at ls)) (runs_in (drop at ls)) (subst AreMaximalRuns (parts_at ls at) c.requires.order)

pub settle-next-requires-clause-order : goal.settle-next-requires-clause-order
settle-next-requires-clause-order g c =
    let ls = c.args.self.now.leaves in
    let at = c.args.at in
    leaf_maximal ls at (maximal-right (runs_in (take at ls)) (runs_in (drop at ls)) (subst AreMaximalRuns (parts_at ls at) c.requires.order))

pub returns-then-are_few-clause-order : goal.returns-then-are_few-clause-order
returns-then-are_few-clause-order g c =
    let ls = c.args.self.now.leaves in
    let at = c.args.at in
    c.settle-next.ensures.order (maximal-right (runs_in (take at ls)) (runs_in (drop at ls)) (subst AreMaximalRuns (parts_at ls at) c.requires.order))

pub returns-then-are_few-clause-pages : goal.returns-then-are_few-clause-pages
returns-then-are_few-clause-pages g c =
    same_pages c.args.self.now.leaves c.settle-next.new.self.leaves (c.args.at + 1) c.settle-next.result c.settle-next.ensures.pages c.settle-next.ensures.rest
