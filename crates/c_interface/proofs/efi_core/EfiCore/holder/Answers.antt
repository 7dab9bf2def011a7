use Rattle.c_interface.proofs.efi_core.EfiCore.holder.Goals as goal

pub returns : goal.returns
returns g c = rw (← c.self.view_is, ← c.uuid.ensures) (rw c.holder.ensures at c.put_found.ensures)
