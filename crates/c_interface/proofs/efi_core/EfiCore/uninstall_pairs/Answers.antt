use Rattle.std.proofs.Common.{rules, inl, sym, ap, ◌∙◌}
use Rattle.c_interface.specs.EfiCores.{EfiCoreValue}
use Rattle.c_interface.proofs.efi_core.EfiCore.uninstall_pairs.Goals as goal

pub returns : goal.returns
returns g c =
    let core = ap (λ (x : EfiCoreValue g.row.A.Denot). x.core) (c.self.view_is ∙ c.begin.ensures.core) in
    inl (c.uninstall_multiple.result, rw (sym core) c.uninstall_multiple.ensures.step, search rules, search rules)
