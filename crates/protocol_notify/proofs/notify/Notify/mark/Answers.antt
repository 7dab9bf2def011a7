use Rattle.protocol_notify.proofs.Keyed.{keyed_marked}
use Rattle.protocol_notify.proofs.notify.Notify.mark.Goals as goal

pub invariant_of-self : goal.invariant_of-self
invariant_of-self g c = rw c.mark_among.ensures (keyed_marked c.args.key c.args.stamp 1 _ c.self.invariant)
