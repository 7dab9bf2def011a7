-- Bytes that are JSON.
use Rattle.std.proofs.Common.{◌≡◌, ℕ, List, refl, Bool, true, false, None, IsUtf8}
use Rattle.std.specs.Str.{is_utf8}
use Rattle.std.proofs.lemmas.Str.{IsUtf8-from_is_utf8, is_utf8-from_IsUtf8}
use Rattle.serde_json.specs.Read.{read}
use Rattle.machine_files.specs.MachineText.{json_of}

false_from : (b : Bool) → (b ≡ true → ⊥) → b ≡ false
false_from true h = absurd (h refl)
false_from false h = refl

pub no_text : (bytes : List ℕ) → ¬ IsUtf8 bytes → json_of bytes ≡ None
no_text bytes h = rw (false_from (is_utf8 bytes) (λ e. h (IsUtf8-from_is_utf8 bytes e))) refl

pub text_read : (bytes text : List ℕ) → text ≡ bytes → IsUtf8 bytes → json_of bytes ≡ read text
text_read bytes text e h = rw (is_utf8-from_IsUtf8 bytes h, e) refl
