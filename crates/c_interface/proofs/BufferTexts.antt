-- What is printed of a reply that a caller hands in.
use Rattle.std.proofs.Common.{◌≡◌, ℕ, List, Option, Some, Vec, sym, subst, inl}
use Rattle.page_ranges.specs.declared.statuses.Status.{Status}
use Rattle.boot_replies.specs.declared.replies.Reply.{Reply}
use Rattle.c_interface.specs.BufferReplies.{ReturnsText, ReturnsTextOf}

-- of a reply with a status that there is
pub text_of : {A : Type 0} (wanted : Option Status) (s : Status) (bytes : List ℕ) (copied : Vec ℕ A) (answer : Status → Vec ℕ A → Reply A) (number : ℕ) (buffer : List ℕ) (size status : ℕ) (new_buffer : List ℕ) (new_size : ℕ) → wanted ≡ Some s → copied.items ≡ bytes → ReturnsText number (answer s copied) buffer size status new_buffer new_size → ReturnsTextOf wanted bytes answer number buffer size status new_buffer new_size
text_of wanted s bytes copied answer number buffer size status new_buffer new_size e i r =
    subst (λ (w : Option Status). ReturnsTextOf w bytes answer number buffer size status new_buffer new_size) (sym e) (inl (copied, i, r))
