-- What the check of a certificate block says.
use Rattle.std.specs.Prelude.{◌≡◌, ◌↔◌, ℕ, Bool, List, ◌++◌, codes, IsTrue, Option, Result, Ok, Err, IfSome, if◌then◌else◌}
use Rattle.std.specs.Io.KnownBytes.{Appends, Keeps}
use Rattle.page_ranges.specs.declared.ranges.Descriptor.{Descriptor}
use Rattle.placement_certificate.specs.declared.certificates.Request.{Request}
use Rattle.placement_certificate.specs.Certificates.{CertificateValue}
use Rattle.placement_certificate.specs.Acceptance.{IsAccepted}
use Rattle.certificate_blocks.specs.declared.faults.BlockFault.{BlockFault}
use Rattle.certificate_blocks.specs.declared.faults.BlockFault.TheVariants as fault
use Rattle.text_lines.specs.Printed.{WritesFront, line_feed}
use Rattle.certificate_blocks.specs.Blocks.{block_said}

-- the line that is written
abbrev pub verdict_text : Bool → List ℕ
verdict_text accepted = (if accepted then codes "accepted" else codes "refused") ++ line_feed

-- The bytes are a block, and this is whether its certificate is accepted.
pub record IsVerdict (bytes : List ℕ) (accepted : Bool) : Type 0 where
  pub map : List Descriptor
  pub request : Request
  pub certificate : CertificateValue
  pub block : block_said bytes ≡ Ok (map, request, certificate)
  pub accepts : IsTrue accepted ↔ IsAccepted map request certificate

-- What is written, whatever is read: one of the two lines; on a fault nothing, but for a write that
-- fails: then a front of one.
abbrev pub Writes : Option (List ℕ) → Option (List ℕ) → Result Bool BlockFault → Type 0
Writes before after (Ok accepted) = Appends before after (verdict_text accepted)
Writes before after (Err fault.Write) =
    (accepted : Bool) × WritesFront before (verdict_text accepted) after
Writes before after (Err e) = Keeps before after

-- What the answer says of known bytes: whether the block is accepted, or the first line that is not
-- as stated. A read fault comes from a source that can fail alone. A write that fails has written a
-- front of the block's own verdict. Memory may run out at any time.
abbrev pub Judges : Bool → List ℕ → Option (List ℕ) → Option (List ℕ) → Result Bool BlockFault
    → Type 0
Judges can_fail bytes before after (Ok accepted) = IsVerdict bytes accepted
Judges can_fail bytes before after (Err (fault.Line number)) = block_said bytes ≡ Err number
Judges can_fail bytes before after (Err fault.Write) =
    (accepted : Bool) × IsVerdict bytes accepted
    × WritesFront before (verdict_text accepted) after
Judges can_fail bytes before after (Err fault.Read) = IsTrue can_fail
Judges can_fail bytes before after (Err fault.OutOfMemory) = Unit {0}

-- the same of bytes that may not be known, and of what a writer wrote
abbrev pub JudgesKnown : {W : Type 0} → Bool → Option (List ℕ) → (W → Option (List ℕ)) → W → W
    → Result Bool BlockFault → Type 0
JudgesKnown can_fail left contents old new result =
    IfSome left (λ bytes. Judges can_fail bytes (contents old) (contents new) result)

-- A write of the verdict failed, and a front of it was written.
abbrev pub FailsToWrite : {W : Type 0} → (W → Option (List ℕ)) → Bool → W → W → BlockFault → Type 0
FailsToWrite contents accepted old new e =
    (e ≡ fault.Write) × WritesFront (contents old) (verdict_text accepted) (contents new)

-- A writer wrote the verdict.
abbrev pub WritesVerdict : {W : Type 0} → (W → Option (List ℕ)) → Bool → W → W → Type 0
WritesVerdict contents accepted old new =
    Appends (contents old) (contents new) (verdict_text accepted)
