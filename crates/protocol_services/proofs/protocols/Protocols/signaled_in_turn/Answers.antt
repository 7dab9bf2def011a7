use Rattle.std.proofs.Common.{◌++◌, ap, ◌∙◌}
use Rattle.protocol_notify.specs.Registrations.{events_for}
use Rattle.protocol_services.specs.Lists.{Lists}
use Rattle.protocol_services.proofs.Signals.{signaled_more}
use Rattle.protocol_services.proofs.protocols.Protocols.signaled_in_turn.Goals as goal

pub loop-pair-preserved : goal.loop-pair-preserved
loop-pair-preserved g c =
    let item = c.pair-item.result in
    let more = c.in_ok-more.ensures.events ∙ ap (λ (l : Lists). events_for l.registrations item.0) c.self.view_is in
    c.in_ok-extend_from_slice.ensures.items ∙ ap (λ xs. c.loop-pair.events.items ++ xs) c.as_slice.ensures.value
    ∙ signaled_more _ c.args.pairs.now c.loop-pair.pair-index item _ _ c.loop-pair-test.true c.pair-item.is c.loop-pair.invariant more
