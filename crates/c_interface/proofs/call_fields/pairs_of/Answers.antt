use Rattle.std.proofs.Common.{sym, ◌∙◌}
use Rattle.c_interface.proofs.ReturnedLists.{no_pairs, pairs_more}
use Rattle.c_interface.proofs.call_fields.pairs_of.Goals as goal

pub returns-then-is_empty-clause-pairs : goal.returns-then-is_empty-clause-pairs
returns-then-is_empty-clause-pairs g c = rw c.new.ensures.items (no_pairs c.args.interfaces.now (sym c.is_empty.ensures ∙ c.if-is_empty.true))

pub loop-interface-preserved : goal.loop-interface-preserved
loop-interface-preserved g c =
    c.in_ok-push.ensures.items ∙ rw (c.loop-interface.invariant, c.uuid.ensures) (pairs_more _ _ _ c.loop-interface-test.true)
