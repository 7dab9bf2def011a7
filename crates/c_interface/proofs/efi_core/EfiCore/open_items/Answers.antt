use Rattle.std.proofs.Common.{arith}
use Rattle.c_interface.proofs.ListedItems.{filled, written}
use Rattle.c_interface.proofs.efi_core.EfiCore.open_items.Goals as goal

pub returns : goal.returns
returns g c =
    let e = c.in-Some.ensures in
    rw (← c.self.view_is, ← c.uuid-guid.ensures)
    (filled _ _ c.args.count.now c.in-Some.needed c.number-2.result c.args.buffer.now c.write_open_items-2.new.out e.0 e.1 (omega (arith, c.if-buffer-needed.false)) c.number-2.ensures
    (written c.self.inside.core.state c.args.handle c.uuid-guid.result c.args.buffer.now c.write_open_items-2.result c.write_open_items-2.new.out e.0 c.write_open_items-2.ensures))
