use Rattle.std.proofs.Common.{rules, inl, sym, ap, ◌∙◌}
use Rattle.std.specs.String.{string_bytes}
use Rattle.c_interface.specs.EfiCores.{EfiCoreValue}
use Rattle.c_interface.proofs.efi_core.EfiCore.run_line.Goals as goal

pub returns-in-Ok : goal.returns-in-Ok
returns-in-Ok g c =
    let same = c.self.view_is ∙ c.forget.ensures in
    let core = ap (λ (x : EfiCoreValue g.row.A.Denot). x.core) same in
    let certifies = ap (λ (x : EfiCoreValue g.row.A.Denot). x.certifies) same in
    (search rules, rw (sym core, sym certifies) (inl (string_bytes c.run_line.new.text, c.number.ensures, search rules, c.in-Ok.ensures.ok)))

pub returns-in-Err : goal.returns-in-Err
returns-in-Err g c =
    let same = c.self.view_is ∙ c.forget.ensures in
    let core = ap (λ (x : EfiCoreValue g.row.A.Denot). x.core) same in
    let certifies = ap (λ (x : EfiCoreValue g.row.A.Denot). x.certifies) same in
    (search rules, rw (c.refuse_line.ensures.kept, sym core, sym certifies) (search rules))
