-- What is printed of the last call is what a run of a trace prints of it.
use Rattle.std.proofs.Common.{◌≡◌, ◌∙◌, ℕ, Bool, true, false, List, [], ◌++◌, Option, Some, None, Vec, refl, sym, ap, subst}
use Rattle.std.proofs.lemmas.List.{append-nil}
use Rattle.page_ranges.specs.declared.ranges.Descriptor.{Descriptor}
use Rattle.placement_certificate.specs.declared.certificates.Request.{Request}
use Rattle.placement_certificate.specs.Certificates.{CertificateValue}
use Rattle.boot_calls.specs.declared.calls.Call.{Call}
use Rattle.boot_replies.specs.declared.replies.Reply.{Reply}
use Rattle.boot_replies.specs.Certified.{certified}
use Rattle.boot_core.specs.Machines.{kept_map}
use Rattle.reply_texts.specs.CallText.{PrintsCall, block_after}
use Rattle.reply_texts.proofs.CallTexts.{prints_call}
use Rattle.c_interface.specs.declared.efi_core.LastBlock.{LastBlock}
use Rattle.c_interface.specs.declared.efi_core.LastBlock.TheVariants as block
use Rattle.c_interface.specs.EfiCores.{EfiCoreValue, LeavesBlock}
use Rattle.c_interface.specs.LastCalls.{Left, kept_reply}
use Rattle.c_interface.specs.ReplyLines.{Joins, PrintsLast}
use Rattle.c_interface.specs.Served.{Serves}

-- the block that is left is that of the map that was kept
joined : {A : Type 0} (certifies : Bool) (map : Option (List Descriptor)) (returned : Option (Request × CertificateValue)) (left : LastBlock A) (lines : List ℕ) (text : Vec ℕ A) → LeavesBlock certifies map returned left → Joins lines left (block.Text text) → text.items ≡ lines ++ block_after map returned
joined certifies map returned block.OutOfMemory lines text l j = absurd j
joined certifies (Some entries) (Some (r, c)) (block.Text bytes) lines text l j = j ∙ ap (λ (b : List ℕ). lines ++ b) l
joined certifies (Some entries) None (block.Text bytes) lines text l j = absurd l
joined certifies None returned (block.Text bytes) lines text l j = absurd l
joined certifies (Some entries) (Some returned) block.Nothing lines text l j = absurd l
joined certifies (Some entries) None block.Nothing lines text l j = j ∙ sym (append-nil lines)
joined certifies None returned block.Nothing lines text l j = j ∙ sym (append-nil lines)

reply_kept : {A : Type 0} (keeps : Bool) (reply answer : Reply A) → Some reply ≡ kept_reply keeps answer → reply ≡ answer
reply_kept true reply answer e = cc
reply_kept false reply answer e = absurd cc

printed_last : {A : Type 0} (old : EfiCoreValue A) (last : Option (Reply A)) (left : LastBlock A) (c : Call A) (answer : Reply A) (number : ℕ) (text : Vec ℕ A) → last ≡ kept_reply old.keeps_replies answer →
    LeavesBlock old.certifies (kept_map old.certifies old.core.state c) (certified old.core.state.parts.book.granule c answer) left → PrintsLast number last left (block.Text text) → PrintsCall old.certifies number old.core.state.parts.book c answer text.items
printed_last old None left c answer number text e l p = absurd cc
printed_last {A = A} old (Some reply) left c answer number text e l p =
    let same = reply_kept old.keeps_replies reply answer e in
    let q = subst (λ (r : Reply A). PrintsLast number (Some r) left (block.Text text)) same p in
    prints_call old.certifies number old.core.state.parts.book c answer [] text.items (kept_map old.certifies old.core.state c) q.0 q.1 refl refl
    (joined old.certifies (kept_map old.certifies old.core.state c) (certified old.core.state.parts.book.granule c answer) left _ text l q.2)

pub printed_reply : {A : Type 0} (old new : EfiCoreValue A) (c : Call A) (answer : Reply A) (number : ℕ) (text : Vec ℕ A) → Serves old c answer new → PrintsLast number new.last.reply new.block (block.Text text) →
    PrintsCall old.certifies number old.core.state.parts.book c answer text.items
printed_reply {A = A} old new c answer number text s p = printed_last old new.last.reply new.block c answer number text (ap (λ (left : Left A). left.reply) s.last) s.block p
