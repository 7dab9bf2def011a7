use Rattle.std.proofs.Common.{◌≡◌, take}
use Rattle.protocol_services.specs.Installing.{signaled}
use Rattle.protocol_services.proofs.protocols.Protocols.signaled_in_turn.Given as goal

abbrev pub invariant-loop-pair : goal.invariant-loop-pair
invariant-loop-pair g l = l.events.items ≡ signaled l.self.registrations (take l.pair-index l.pairs)
