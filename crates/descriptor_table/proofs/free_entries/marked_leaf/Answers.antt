use Rattle.std.proofs.Common.{[], subst, ◌∙◌, arith}
use Rattle.std.proofs.lemmas.List.{get_or_default}
use Rattle.descriptor_table.specs.LeafSummaries.{MarksFree}
use Rattle.descriptor_table.proofs.Upward.{leaf_passed}
use Rattle.descriptor_table.proofs.free_entries.marked_leaf.Goals as goal

pub loop-leaf-preserved : goal.loop-leaf-preserved
loop-leaf-preserved g c =
    let ls = c.args.leaves.now in
    let j = c.loop-leaf.leaf in
    let l = c.index-leaves-leaf.result in
    let same = c.index-leaves-leaf.is ∙ get_or_default ls j l [] c.loop-leaf-test.true in
    record {
      low = omega (arith, c.loop-leaf.invariant.low);
      passed = c.loop-leaf.invariant.passed ∙ leaf_passed ls j c.marks.result c.loop-leaf-test.true (subst (MarksFree c.marks.result) same c.marks.ensures) c.if-marks-ne0.false;
    }
