use Rattle.std.proofs.Common.{inl, ◌∙◌}
use Rattle.c_interface.proofs.efi_core.EfiCore.stops_on_interface.Goals as goal

pub returns-in-Ok : goal.returns-in-Ok
returns-in-Ok g c = rw (← c.self.view_is, ← c.uuid.ensures) (inl (rw (c.as_slice.ensures.value ∙ c.in-Ok.ensures) at c.fill.ensures))
