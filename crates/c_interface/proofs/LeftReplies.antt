-- A call of the core, and what is left of it to be asked for.
use Rattle.std.proofs.Common.{◌≡◌, ◌∙◌, Bool, false, [], refl, ap}
use Rattle.boot_calls.specs.declared.calls.Call.{Call}
use Rattle.boot_replies.specs.declared.replies.Reply.{Reply}
use Rattle.boot_replies.specs.Certified.{certified}
use Rattle.boot_core.specs.Machines.{CoreValue, kept_map}
use Rattle.boot_core.specs.Steps.{Step}
use Rattle.driver_connect.specs.declared.table.TableDriver.{TableDriver}
use Rattle.c_interface.specs.declared.efi_core.LastBlock.TheVariants as block
use Rattle.c_interface.specs.EfiCores.{EfiCoreValue, LeavesBlock, forgotten, meanings, with_core, with_reply}
use Rattle.c_interface.specs.LastCalls.{Left, left_of, nothing_left}
use Rattle.c_interface.specs.Replies.{events_in}
use Rattle.c_interface.specs.Served.{Makes, Serves, ServesLeaving}

-- a call without a certificate, after which this is left
pub call_left : {A : Type 0} (old begun new : EfiCoreValue A) (core : CoreValue TableDriver) (asked : Call A) (answer : Reply A) (left : Left A) → begun ≡ forgotten old
    → LeavesBlock {A = A} old.certifies (kept_map old.certifies old.core.state asked) (certified old.core.state.parts.book.granule asked answer) block.Nothing
    → Step (meanings begun) begun.core.state asked answer core.state → core.given ≡ begun.core.given → new.core ≡ core → new.certifies ≡ begun.certifies → new.keeps_replies ≡ begun.keeps_replies → new.block ≡ begun.block → new.last ≡ left → ServesLeaving old asked answer left new
call_left {A = A} old begun new core asked answer left e none step given is_core is_certifies is_keeps is_block is_last = record {
  step = rw is_core (rw e at step);
  given = rw is_core (rw e at given);
  certifies = is_certifies ∙ ap (λ (x : EfiCoreValue A). x.certifies) e;
  keeps_replies = is_keeps ∙ ap (λ (x : EfiCoreValue A). x.keeps_replies) e;
  block = rw (is_block, e) none;
  last = is_last;
}

-- its reply
pub reply_left : {A : Type 0} (old begun new : EfiCoreValue A) (core : CoreValue TableDriver) (asked : Call A) (answer : Reply A) → begun ≡ forgotten old
    → LeavesBlock {A = A} old.certifies (kept_map old.certifies old.core.state asked) (certified old.core.state.parts.book.granule asked answer) block.Nothing
    → Step (meanings begun) begun.core.state asked answer core.state → core.given ≡ begun.core.given → new ≡ with_reply (with_core begun core) answer → Serves old asked answer new
reply_left {A = A} old begun new core asked answer e none step given n =
    call_left old begun new core asked answer _ e none step given (ap (λ (x : EfiCoreValue A). x.core) n) (ap (λ (x : EfiCoreValue A). x.certifies) n) (ap (λ (x : EfiCoreValue A). x.keeps_replies) n) (ap (λ (x : EfiCoreValue A). x.block) n)
    (ap (λ (x : EfiCoreValue A). x.last) n ∙ ap (λ (x : EfiCoreValue A). left_of x.keeps_replies answer) e)

none_left : {A : Type 0} (keeps : Bool) (answer : Reply A) → keeps ≡ false → events_in answer ≡ [] → nothing_left ≡ left_of keeps answer
none_left keeps answer r e = rw (r, e) refl

-- nothing, where replies are not kept and the call signals no events
pub nothing_kept : {A : Type 0} (old begun new : EfiCoreValue A) (core : CoreValue TableDriver) (asked : Call A) (answer : Reply A) → begun ≡ forgotten old
    → LeavesBlock {A = A} old.certifies (kept_map old.certifies old.core.state asked) (certified old.core.state.parts.book.granule asked answer) block.Nothing
    → Step (meanings begun) begun.core.state asked answer core.state → core.given ≡ begun.core.given → old.keeps_replies ≡ false → events_in answer ≡ [] → new ≡ with_core begun core → Serves old asked answer new
nothing_kept {A = A} old begun new core asked answer e none step given keeps events n =
    call_left old begun new core asked answer _ e none step given (ap (λ (x : EfiCoreValue A). x.core) n) (ap (λ (x : EfiCoreValue A). x.certifies) n) (ap (λ (x : EfiCoreValue A). x.keeps_replies) n) (ap (λ (x : EfiCoreValue A). x.block) n)
    (ap (λ (x : EfiCoreValue A). x.last) n ∙ ap (λ (x : EfiCoreValue A). x.last) e ∙ none_left old.keeps_replies answer keeps events)

-- the reply to a call that was made
pub made_left : {A : Type 0} (old made new : EfiCoreValue A) (asked : Call A) (answer : Reply A) → Makes old asked answer made → new ≡ with_reply made answer → Serves old asked answer new
made_left {A = A} old made new asked answer m n = record {
  step = rw n m.step;
  given = rw n m.given;
  certifies = rw n m.certifies;
  keeps_replies = rw n m.keeps_replies;
  block = rw n m.block;
  last = rw n (ap (λ (keeps : Bool). left_of keeps answer) m.keeps_replies);
}
