use Rattle.std.proofs.Common.{Some, arith, drop}
use Rattle.std.proofs.lemmas.List.{take_rest}
use Rattle.device_path_locate.specs.Boundaries.{IsFrontPathNode}
use Rattle.device_path_locate.proofs.Walks.{node_within, one_further}
use Rattle.device_path_locate.proofs.marks.walk.Goals as goal

pub loop-count-preserved : goal.loop-count-preserved
loop-count-preserved c =
    let nodes = c.args.nodes.now in
    let at = c.loop-count.at in
    let n = c.in-Some.node.now in
    let f : IsFrontPathNode (drop at nodes) (Some n) = rw take_rest at c.in-Some.ensures in
    record {
      within = node_within nodes at n c.loop-count.invariant.within f;
      limited = omega (arith, c.loop-count-test.true);
      walked = one_further nodes c.args.from at c.loop-count.count n c.loop-count.invariant.walked f;
    }
