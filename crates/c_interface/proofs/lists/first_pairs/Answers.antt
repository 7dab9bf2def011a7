use Rattle.std.proofs.Common.{◌∙◌, arith}
use Rattle.c_interface.proofs.ReturnedLists.{pairs_more}
use Rattle.c_interface.proofs.lists.first_pairs.Goals as goal

pub loop-interface-preserved : goal.loop-interface-preserved
loop-interface-preserved c = record {
  seen = c.push.ensures.items ∙ rw (c.loop-interface.invariant.seen, c.uuid.ensures) (pairs_more _ _ _ c.loop-interface-test.true);
  count = omega (arith, c.push.ensures.len, c.loop-interface.invariant.count);
}
