use Rattle.std.proofs.Common.{◌≡◌, arith}
use Rattle.driver_connect.proofs.Filters.{names_before, names_none, none_left}
use Rattle.driver_connect.proofs.stopping.take_naming.Goals as goal

pub loop-at-init : goal.loop-at-init
loop-at-init g c = rw (none_left c.args.leaving.now) (names_none c.args.opens.now)

pub loop-at-preserved : goal.loop-at-preserved
loop-at-preserved g c =
    names_before c.args.leaving.now c.loop-at.at c.args.opens.now _ _ c.loop-at-test.true c.loop-at.auto.at c.loop-at.invariant c.drop_handle.ensures

pub returns : goal.returns
returns g c = let z : c.loop-at.at ≡ 0 = omega arith in rw z at c.loop-at.invariant
