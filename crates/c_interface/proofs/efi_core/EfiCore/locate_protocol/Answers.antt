use Rattle.std.proofs.Common.{rules, ◌∙◌, refl, sym, ap, inl}
use Rattle.boot_calls.specs.declared.calls.Call.TheVariants as call
use Rattle.boot_replies.specs.declared.replies.Reply.TheVariants as reply
use Rattle.c_interface.specs.EfiCores.{EfiCoreValue}
use Rattle.c_interface.proofs.LeftReplies.{nothing_kept}
use Rattle.c_interface.proofs.Opened.{value_located}
use Rattle.c_interface.proofs.efi_core.EfiCore.locate_protocol.Goals as goal

pub returns-then-self : goal.returns-then-self
returns-then-self g c = rw (← c.uuid-guid.ensures) c.answer_number.ensures

pub returns : goal.returns
returns g c =
    let keeps = sym (ap (λ (x : EfiCoreValue g.row.A.Denot). x.keeps_replies) c.self.view_is) ∙ c.if-self.false in
    let answer = reply.LocateProtocol c.locate_protocol.result in
    let served = nothing_kept c.args.self.now _ _ c.locate_protocol.new.self (call.LocateProtocol c.uuid-guid.result c.args.key) answer (c.self-2.view_is ∙ c.begin.ensures.core) (search rules) c.locate_protocol.ensures.step c.locate_protocol.ensures.given keeps refl refl in
    rw (← c.uuid-guid.ensures) (inl (answer, served, c.return_value.ensures.status, c.return_value.ensures.value ∙ value_located g.row.A.Denot c.args.value.now c.locate_protocol.result))
