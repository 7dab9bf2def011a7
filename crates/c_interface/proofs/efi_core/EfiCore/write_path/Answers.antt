use Rattle.std.proofs.Common.{inr, refl, sym, ap, Ok}
use Rattle.boot_replies.specs.declared.replies.Reply.{Reply}
use Rattle.boot_replies.specs.declared.replies.Reply.TheVariants as reply
use Rattle.c_interface.specs.EfiCores.{EfiCoreValue}
use Rattle.c_interface.proofs.efi_core.EfiCore.write_path.Goals as goal

pub returns-in-Ok-clause-run : goal.returns-in-Ok-clause-run
returns-in-Ok-clause-run g c =
    let written : Reply g.row.A.Denot = reply.PoolWrite (Ok tt) in
    let core = ap (λ (x : EfiCoreValue g.row.A.Denot). x.core) c.self.view_is in
    inr (written, c.pool_write.new.self.state, rw (sym core) c.in-Ok.ensures.step, refl, rw (sym core, sym c.pool_write.ensures.given, sym c.device_path_guid.ensures) c.install_multiple-installed.ensures.step)
