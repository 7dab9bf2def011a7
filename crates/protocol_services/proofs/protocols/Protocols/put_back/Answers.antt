use Rattle.std.proofs.Common.{refl}
use Rattle.protocol_services.proofs.protocols.Protocols.put_back.Goals as goal
use Rattle.protocol_services.proofs.protocols.Protocols.put_back.Goals.{in-Some, in_default}

pub returns-in-Some-opens : goal.returns-in-Some-opens
returns-in-Some-opens g c = elim c.match-handles.branch [
  | in-Some w ↦ rw (← c.saved.view_is, ← c.self.view_is, w.self-inside-is, w.in-Some.is, c.in-Some-opens.is) refl
  | in_default w ↦ rw (← c.saved.view_is, ← c.self.view_is, w.self-inside-is, w.in_default.is, c.in-Some-opens.is) refl
]
