-- The line of a trace that asks for a call, as a caller in C gets it.
use Rattle.std.specs.Prelude.{◌≡◌, ℕ, List, Option, Some, None, true, false}
use Rattle.page_ranges.specs.Statuses.{status_number}
use Rattle.page_ranges.specs.declared.statuses.Status.TheVariants.{InvalidParameter}
use Rattle.boot_calls.specs.declared.calls.Call.{Call}
use Rattle.call_texts.specs.CallLines.{has_line, may_ask}
use Rattle.call_texts.specs.CallText.{call_text}
use Rattle.c_interface.specs.declared.call_fields.CallFields.{CallFields}
use Rattle.c_interface.specs.declared.efi_core.LastBlock.{LastBlock}
use Rattle.c_interface.specs.declared.efi_core.LastBlock.TheVariants as block
use Rattle.c_interface.specs.CallFields.{call_of}
use Rattle.c_interface.specs.EfiCores.{EfiCoreValue}
use Rattle.c_interface.specs.Served.{ReturnsBlock}

-- The line of a call with its line feed; nothing where no line can ask for the call. Memory may run
-- out where a line may ask for it, however long it is.
abbrev pub HasLine : {A : Type 0} → Call A → LastBlock A → Type 0
HasLine c (block.Text text) = (has_line c ≡ true) × (text.items ≡ call_text c)
HasLine c block.Nothing = has_line c ≡ false
HasLine c block.OutOfMemory = may_ask c ≡ true

-- The line of a call is put in the caller's buffer as a block is, its bytes in the caller's
-- variable. INVALID_PARAMETER: there is no call.
abbrev pub ReturnsCall : {A : Type 0} → Option (Call A) → List ℕ → ℕ → ℕ → List ℕ → ℕ → Type 0
ReturnsCall None buffer size status new_buffer new_size =
    (status ≡ status_number InvalidParameter) × (new_buffer ≡ buffer) × (new_size ≡ size)
ReturnsCall {A = A} (Some c) buffer size status new_buffer new_size =
    (line : LastBlock A) × HasLine c line
    × ReturnsBlock line buffer size status new_buffer new_size

-- the same of the call that fields describe, whatever the core
abbrev pub ReturnsLine : {A : Type 0} → EfiCoreValue A → CallFields → List ℕ → ℕ → ℕ → List ℕ → ℕ
    → Type 0
ReturnsLine {A = A} core fields buffer size status new_buffer new_size =
    ReturnsCall (call_of {A = A} fields) buffer size status new_buffer new_size
