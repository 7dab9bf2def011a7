use Rattle.std.proofs.Common.{map}
use Rattle.driver_connect.proofs.Whole.{stopped_whole}
use Rattle.driver_connect.proofs.stopping.stop.Goals as goal

pub returns-clause-ok : goal.returns-clause-ok
returns-clause-ok g c =
    stopped_whole (map g.D.Driver.meaning c.args.drivers.now) c.args.handles.now c.args.opens.now c.args.pairs.now c.args.handle c.args.opener c.in_ok-plan.plan c.in_ok-can_be_stopped.field-0
    c.carry_out.new.handles c.carry_out.new.opens c.in_ok-plan.ensures c.in_ok-can_be_stopped.ensures c.if-not-branch.false c.carry_out.ensures.handles c.carry_out.ensures.opens
