use Rattle.std.proofs.Common.{◌∙◌, refl, sym, ap}
use Rattle.c_interface.specs.EfiCores.{EfiCoreValue}
use Rattle.c_interface.proofs.LeftReplies.{call_left}
use Rattle.c_interface.proofs.efi_core.EfiCore.make_call.Goals as goal

pub returns-clause-made : goal.returns-clause-made
returns-clause-made g c =
    let same = c.self.view_is ∙ c.begin.ensures.core in
    let certifies = sym (ap (λ (x : EfiCoreValue g.row.A.Denot). x.certifies) same) ∙ c.if-self.false in
    call_left c.args.self.now _ _ c.call.new.self c.args.call.now c.call.result _ same (rw certifies tt) c.call.ensures.step c.call.ensures.given refl refl refl refl (ap (λ (x : EfiCoreValue g.row.A.Denot). x.last) same)
