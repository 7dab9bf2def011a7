use Rattle.std.proofs.Common.{rules, ◌≡◌, ◌∙◌, sym, ap, inl}
use Rattle.boot_calls.specs.declared.calls.Call.TheVariants as call
use Rattle.boot_replies.specs.declared.replies.Reply.TheVariants as reply
use Rattle.c_interface.specs.Buffers.{front_filled}
use Rattle.c_interface.specs.Replies.{returned_or}
use Rattle.c_interface.proofs.LeftReplies.{reply_left}
use Rattle.c_interface.proofs.efi_core.EfiCore.locate_handle.Goals.{in-Some, in_default}
use Rattle.c_interface.proofs.efi_core.EfiCore.locate_handle.Goals as goal

pub returns : goal.returns
returns g c =
    let located = c.locate_handle-located in
    let answer = reply.LocateHandle located.result in
    let asked = call.LocateHandle c.args.search c.uuid.result c.args.key c.handle_bytes-size.result in
    let served = reply_left c.args.self.now _ c.return_status.new.self located.new.self asked answer (c.self.view_is ∙ c.begin.ensures.core) (search rules) located.ensures.step located.ensures.given c.return_status.ensures.core in
    let size : c.match-returned_size.needed ≡ returned_or c.args.needed.now c.returned_size.result =
    elim c.match-returned_size.branch [
      | in-Some w ↦ w.needed-is ∙ ap (returned_or c.args.needed.now) (sym w.in-Some.is)
      | in_default w ↦ w.needed-is ∙ ap (returned_or c.args.needed.now) (sym w.in_default.is)
    ] in
    let buffer = c.copy_to_front.ensures ∙ ap (λ handles. front_filled handles c.args.buffer.now) c.as_slice.ensures.value in
    rw (← c.uuid.ensures, ← c.handle_bytes-size.ensures) (inl (answer, served, c.return_status.ensures.status, (size ∙ ap (returned_or c.args.needed.now) c.returned_size.ensures, buffer)))
