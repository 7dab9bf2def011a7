use Rattle.std.proofs.Common.{◌∙◌, refl, sym, ap, inl}
use Rattle.boot_calls.specs.declared.calls.Call.TheVariants as call
use Rattle.boot_replies.specs.declared.replies.Reply.TheVariants as reply
use Rattle.c_interface.specs.EfiCores.{EfiCoreValue}
use Rattle.c_interface.proofs.LeftReplies.{nothing_kept}
use Rattle.c_interface.proofs.efi_core.EfiCore.allocate_pages.Goals as goal

pub returns : goal.returns
returns g c =
    let certifies = sym (ap (λ (x : EfiCoreValue g.row.A.Denot). x.certifies) c.self.view_is) ∙ c.if-self.false in
    let keeps = sym (ap (λ (x : EfiCoreValue g.row.A.Denot). x.keeps_replies) c.self.view_is) ∙ c.if-self-2.false in
    let asked = call.AllocatePages c.args.kind c.args.mtype c.args.pages c.args.memory.now in
    let answer = reply.AllocatePages c.allocate_pages-placed.result in
    let served = nothing_kept c.args.self.now _ _ c.allocate_pages-placed.new.self asked answer (c.self-2.view_is ∙ c.begin.ensures.core) (rw certifies tt) c.allocate_pages-placed.ensures.step c.allocate_pages-placed.ensures.given keeps refl refl in
    inl (answer, served, c.return_pages.ensures.status, c.return_pages.ensures.value)
