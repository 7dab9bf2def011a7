use Rattle.c_interface.proofs.efi_core.EfiCore.holders.Goals as goal

pub returns : goal.returns
returns g c = rw (← c.self.view_is, ← c.uuid.ensures) (rw c.holder_list.ensures at c.fill.ensures)
