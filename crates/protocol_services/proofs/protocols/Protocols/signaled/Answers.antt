use Rattle.protocol_services.proofs.Raised.{on_ok}
use Rattle.protocol_services.proofs.Signals.{signaled_one}
use Rattle.protocol_services.proofs.protocols.Protocols.signaled.Goals as goal

pub returns-in-len1-clause-events : goal.returns-in-len1-clause-events
returns-in-len1-clause-events g c =
    let one = signaled_one c.self.inside.registrations c.args.pairs.now c.pair-item.result c.in-len1.len_at_least c.in-len1.len_below c.pair-item.is in
    rw (← c.self.view_is, ← one) c.signaled.ensures.events

pub returns-in-len1-clause-room : goal.returns-in-len1-clause-room
returns-in-len1-clause-room g c = on_ok c.signaled.result _ (c.has_room.ensures.0 c.if-not-has_room.false)

pub returns-in_default-clause-events : goal.returns-in_default-clause-events
returns-in_default-clause-events g c = c.signaled_in_turn.ensures

pub returns-in_default-clause-room : goal.returns-in_default-clause-room
returns-in_default-clause-room g c = on_ok c.signaled_in_turn.result _ (c.has_room.ensures.0 c.if-not-has_room.false)
