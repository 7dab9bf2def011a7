use Rattle.std.proofs.Common.{arith}
use Rattle.driver_connect.proofs.GoingOn.{child_made, same_made}
use Rattle.driver_connect.proofs.progress.make_child.Goals as goal

pub returns-in_err-make_child-clause-made : goal.returns-in_err-make_child-clause-made
returns-in_err-make_child-clause-made g c = same_made _ _ c.in_err-make_child.ensures.err

pub returns-clause-made : goal.returns-clause-made
returns-clause-made g c =
    child_made c.args.maker c.args.child.now.items _ _ _ (rw c.as_slice.ensures.value at c.in_ok-make_child.ensures.ok)

pub make_child-requires-clause-numbers : goal.make_child-requires-clause-numbers
make_child-requires-clause-numbers g c = omega (arith, c.requires.room.numbers, c.requires.places)

pub make_child-requires-clause-stamps : goal.make_child-requires-clause-stamps
make_child-requires-clause-stamps g c = omega (arith, c.requires.room.stamps, c.requires.places)
