-- What is printed of a call.
use Rattle.std.specs.Prelude.{◌≡◌, ◌⊎◌, ℕ, Bool, List, [], ◌++◌, Option, Some, None, String, if◌then◌else◌}
use Rattle.page_ranges.specs.declared.ranges.Descriptor.{Descriptor}
use Rattle.page_ranges.specs.MemoryMap.{memory_map}
use Rattle.placement_certificate.specs.declared.certificates.Request.{Request}
use Rattle.placement_certificate.specs.Certificates.{CertificateValue}
use Rattle.page_services.specs.PageRules.{Book}
use Rattle.map_keys.specs.Records.{ReadsRecords}
use Rattle.certificate_blocks.specs.BlockText.{block_text}
use Rattle.boot_calls.specs.declared.calls.Call.{Call}
use Rattle.boot_replies.specs.declared.replies.Reply.{Reply}
use Rattle.boot_replies.specs.declared.replies.Reply.TheVariants as reply
use Rattle.boot_replies.specs.Certified.{certified}
use Rattle.text_lines.specs.Printed.{Gains}
use Rattle.reply_texts.specs.PrintedText.{reply_text}

-- the entries whose records the bytes are, none where they are no records
abbrev pub HoldsEntries : List ℕ → List Descriptor → Type 0
HoldsEntries bytes entries =
    ReadsRecords bytes (Some entries) ⊎ (ReadsRecords bytes None × (entries ≡ []))

-- the entries of the memory map that a reply carries: those that its bytes hold
abbrev pub CarriesEntries : {A : Type 0} → Reply A → List Descriptor → Type 0
CarriesEntries (reply.GetMemoryMap returned bytes) entries = HoldsEntries bytes.items entries
CarriesEntries answer entries = entries ≡ []

-- the block of a certificate with the request that it is for and the memory map before the call
abbrev pub certificate_text : List Descriptor → Option (Request × CertificateValue) → List ℕ
certificate_text entries (Some (r, c)) = block_text entries r c
certificate_text entries None = []

-- What is printed of a call with this reply, with the book before it: the reply's lines and, where
-- certificates are asked for, the block of the one that it carries.
abbrev pub PrintsCall : {A : Type 0} → Bool → ℕ → Book → Call A → Reply A → List ℕ → Type 0
PrintsCall certify number before c answer text =
    (entries : List Descriptor) × CarriesEntries answer entries
    × (text ≡ reply_text number entries answer
    ++ (if certify
    then certificate_text (memory_map before.memory) (certified before.granule c answer)
    else []))

-- the block, where the map before the call was kept
abbrev pub block_after : Option (List Descriptor) → Option (Request × CertificateValue) → List ℕ
block_after (Some entries) returned = certificate_text entries returned
block_after None returned = []

-- A text gains what is printed of a call with this reply: its lines and, where the map before it was
-- kept, the block of its certificate.
abbrev pub GainsCall : {A Z : Type 0} → ℕ → ℕ → Option (List Descriptor) → Call A → Reply A
    → String Z → String Z → Type 0
GainsCall number granule before c answer old new =
    (entries : List Descriptor) × CarriesEntries answer entries
    × Gains old new
    (reply_text number entries answer ++ block_after before (certified granule c answer))
