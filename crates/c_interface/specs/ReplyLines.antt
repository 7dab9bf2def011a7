-- What `bootcore` prints of the last call of a core.
use Rattle.std.specs.Prelude.{◌≡◌, ℕ, List, ◌++◌, Option, Some, None, Vec}
use Rattle.page_ranges.specs.declared.ranges.Descriptor.{Descriptor}
use Rattle.boot_calls.specs.declared.calls.Call.{Call}
use Rattle.boot_replies.specs.declared.replies.Reply.{Reply}
use Rattle.reply_texts.specs.CallText.{CarriesEntries, PrintsCall}
use Rattle.reply_texts.specs.PrintedText.{reply_text}
use Rattle.c_interface.specs.declared.efi_core.LastBlock.{LastBlock}
use Rattle.c_interface.specs.declared.efi_core.LastBlock.TheVariants as block
use Rattle.c_interface.specs.EfiCores.{EfiCoreValue}
use Rattle.c_interface.specs.Served.{ReturnsBlock, Serves}

-- The lines and the block that a call left, one after the other. Memory may run out; where it ran
-- out for the block it has.
abbrev pub Joins : {A : Type 0} → List ℕ → LastBlock A → LastBlock A → Type 0
Joins lines left block.Nothing = ⊥
Joins lines left block.OutOfMemory = Unit {0}
Joins lines block.Nothing (block.Text text) = text.items ≡ lines
Joins lines (block.Text bytes) (block.Text text) = text.items ≡ lines ++ bytes.items
Joins lines block.OutOfMemory (block.Text text) = ⊥

-- What is printed of a call with this reply under a number: the lines of the reply, with the entries
-- of the memory map that it carries, and the block that the call left.
abbrev pub PrintsReply : {A : Type 0} → ℕ → Reply A → LastBlock A → LastBlock A → Type 0
PrintsReply number answer left block.OutOfMemory = Unit {0}
PrintsReply number answer left printed =
    (entries : List Descriptor) × CarriesEntries answer entries
    × Joins (reply_text number entries answer) left printed

-- The same of the last call; nothing where no reply is left.
abbrev pub PrintsLast : {A : Type 0} → ℕ → Option (Reply A) → LastBlock A → LastBlock A → Type 0
PrintsLast number None left printed = printed ≡ block.Nothing
PrintsLast number (Some answer) left printed = PrintsReply number answer left printed

-- It is put in the caller's buffer as a block is, its bytes in the caller's variable.
abbrev pub ReturnsReply : {A : Type 0} → EfiCoreValue A → ℕ → List ℕ → ℕ → ℕ → List ℕ → ℕ → Type 0
ReturnsReply {A = A} core number buffer size status new_buffer new_size =
    (printed : LastBlock A) × PrintsLast number core.last.reply core.block printed
    × ReturnsBlock printed buffer size status new_buffer new_size

-- What is printed of a call that was served is what a run of a trace prints of its line.
abbrev pub PrintedReplyLaw : Type 0 → Type 0
PrintedReplyLaw A =
    (old new : EfiCoreValue A) (c : Call A) (answer : Reply A) (number : ℕ) (text : Vec ℕ A) →
    Serves old c answer new → PrintsLast number new.last.reply new.block (block.Text text)
    → PrintsCall old.certifies number old.core.state.parts.book c answer text.items
