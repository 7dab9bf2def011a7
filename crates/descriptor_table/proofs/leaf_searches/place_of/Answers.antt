use Rattle.std.proofs.Common.{◌-◌, ◌∙◌, sym, subst, arith}
use Rattle.page_ranges.specs.Runs.{AreRuns}
use Rattle.descriptor_table.proofs.LeafLists.{leaf_runs}
use Rattle.descriptor_table.proofs.leaf_searches.place_of.Goals as goal

pub count_beginning_by-index-requires : goal.count_beginning_by-index-requires
count_beginning_by-index-requires g c =
    subst AreRuns (sym (c.runs.ensures ∙ c.index-leaves-count.is)) (leaf_runs c.args.leaves.now (c.count_leaves_by-count.result - 1) c.index-leaves-count.result c.requires.runs (omega arith))
