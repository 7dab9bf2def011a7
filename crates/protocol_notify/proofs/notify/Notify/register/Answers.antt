use Rattle.std.proofs.Common.{◌+◌, arith}
use Rattle.protocol_notify.proofs.Keyed.{keyed_push_if}
use Rattle.protocol_notify.proofs.notify.Notify.register.Goals as goal

pub invariant_of-self : goal.invariant_of-self
invariant_of-self g c =
    rw c.push.ensures.items
    (keyed_push_if _ 1 _ (record { key = c.len.result + 1; guid = c.args.guid; event = c.args.event; mark = c.last_stamp.result }) c.self.invariant (omega (arith, c.len.ensures)))
