use Rattle.std.proofs.Common.{rules, inr, refl, sym, ap}
use Rattle.boot_replies.specs.declared.replies.Reply.TheVariants as reply
use Rattle.c_interface.specs.EfiCores.{EfiCoreValue}
use Rattle.c_interface.proofs.efi_core.EfiCore.install_at.Goals as goal

pub returns-then-ne : goal.returns-then-ne
returns-then-ne g c =
    let core = ap (λ (x : EfiCoreValue g.row.A.Denot). x.core) c.self.view_is in (
      c.write_path-reply.result,
      c.write_path-reply.new.self.core.state,
      c.write_path-reply.ensures.run,
      inr (search rules, refl, (reply.FreePool c.free_pool-freed.result, rw (c.return_status.ensures.core, sym c.write_path-reply.ensures.given, sym core) c.free_pool-freed.ensures.step)),
      c.return_status.ensures.status,
      search rules,
    )
