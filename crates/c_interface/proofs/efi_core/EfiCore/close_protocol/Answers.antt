use Rattle.std.proofs.Common.{rules, ◌∙◌, refl, sym, ap, inl}
use Rattle.page_ranges.specs.Statuses.{status_number}
use Rattle.boot_calls.specs.declared.calls.Call.TheVariants as call
use Rattle.boot_replies.specs.declared.replies.Reply.TheVariants as reply
use Rattle.c_interface.specs.EfiCores.{EfiCoreValue}
use Rattle.c_interface.proofs.LeftReplies.{nothing_kept}
use Rattle.c_interface.proofs.efi_core.EfiCore.close_protocol.Goals as goal

pub returns-then-self : goal.returns-then-self
returns-then-self g c = rw (← c.uuid-guid.ensures) c.answer_status.ensures

pub returns : goal.returns
returns g c =
    let keeps = sym (ap (λ (x : EfiCoreValue g.row.A.Denot). x.keeps_replies) c.self.view_is) ∙ c.if-self.false in
    let answer = reply.CloseProtocol c.close_protocol-closed.result in
    let served = nothing_kept c.args.self.now _ _ c.close_protocol-closed.new.self (call.CloseProtocol c.args.handle c.uuid-guid.result c.args.agent c.args.controller) answer (c.self-2.view_is ∙ c.begin.ensures.core) (search rules) c.close_protocol-closed.ensures.step c.close_protocol-closed.ensures.given keeps refl refl in
    rw (← c.uuid-guid.ensures) (inl (answer, served, c.number.ensures ∙ ap status_number c.returned_status.ensures, tt))
