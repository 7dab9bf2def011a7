use Rattle.std.proofs.Common.{rules, ◌∙◌, refl, sym, ap, inl}
use Rattle.page_ranges.specs.Statuses.{status_number}
use Rattle.boot_calls.specs.declared.calls.Call.TheVariants as call
use Rattle.boot_replies.specs.declared.replies.Reply.TheVariants as reply
use Rattle.c_interface.specs.EfiCores.{EfiCoreValue}
use Rattle.c_interface.proofs.LeftReplies.{nothing_kept}
use Rattle.c_interface.proofs.efi_core.EfiCore.free_pages.Goals as goal

pub returns : goal.returns
returns g c =
    let keeps = sym (ap (λ (x : EfiCoreValue g.row.A.Denot). x.keeps_replies) c.self.view_is) ∙ c.if-self.false in
    let served = nothing_kept c.args.self.now _ _ c.free_pages.new.self (call.FreePages c.args.memory c.args.pages) (reply.FreePages c.free_pages.result) (c.self-2.view_is ∙ c.begin.ensures.core) (search rules) c.free_pages.ensures.step c.free_pages.ensures.given keeps refl refl in
    inl (reply.FreePages c.free_pages.result, served, c.number.ensures ∙ ap status_number c.returned_status.ensures, tt)
