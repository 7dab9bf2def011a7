-- The laws of certificate blocks. Each is the contract of a public function.
use Rattle.std.specs.Prelude.{◌≡◌, ℕ, ◌+◌, ◌*◌, ◌^◌, ◌<◌, ◌≤◌, Bool, IsTrue, List, length, Option, Some, None, Result, Ok, Err}
use Rattle.std.specs.List.{AllByRecursion}
use Rattle.page_ranges.specs.declared.ranges.Descriptor.{Descriptor}
use Rattle.page_ranges.specs.Granules.{IsGranule}
use Rattle.placement_certificate.specs.declared.certificates.Request.{Request}
use Rattle.placement_certificate.specs.declared.certificates.Bound.{Bound}
use Rattle.placement_certificate.specs.Certificates.{CertificateValue}
use Rattle.placement_certificate.specs.Acceptance.{IsAccepted}
use Rattle.certificate_blocks.specs.declared.faults.BlockFault.{BlockFault}
use Rattle.certificate_blocks.specs.declared.faults.BlockFault.TheVariants as fault
use Rattle.certificate_blocks.specs.BlockChecks.{Judges}
use Rattle.certificate_blocks.specs.BlockText.{block_lines, block_text}
use Rattle.certificate_blocks.specs.Blocks.{most_block_lines, block_said}

-- The numbers of an entry are of 32 and 64 bits, as a descriptor holds them.
pub record HasEntryNumbers (d : Descriptor) : Type 0 where
  pub mtype : d.mtype < 2 ^ 32
  pub first : d.first < 2 ^ 64
  pub pages : d.pages < 2 ^ 64
  pub attributes : d.attributes < 2 ^ 64

-- the same of a request, and its granule is one that a block can say
pub record HasRequestNumbers (r : Request) : Type 0 where
  pub mtype : r.mtype < 2 ^ 32
  pub pages : r.pages < 2 ^ 64
  pub limit : r.limit < 2 ^ 64
  pub granule : IsGranule r.granule

abbrev pub HasLeastNumbers : Option (ℕ × ℕ) → Type 0
HasLeastNumbers (Some (count, top)) = (count < 2 ^ 64) × (top < 2 ^ 64)
HasLeastNumbers None = Unit {0}

-- the same of a bound
pub record HasBoundNumbers (b : Bound) : Type 0 where
  pub first : b.first < 2 ^ 64
  pub pages : b.pages < 2 ^ 64
  pub least : HasLeastNumbers b.least

-- the same of all that a block holds
pub record HasBlockNumbers (entries : List Descriptor) (r : Request)
    (c : CertificateValue) : Type 0 where
  pub entries_fit : AllByRecursion HasEntryNumbers entries
  pub request_fits : HasRequestNumbers r
  pub bounds_fit : AllByRecursion HasBoundNumbers c.bounds
  pub answer_fits : c.answer < 2 ^ 64

-- The text of a block that has no more lines than a block may have is read back as the map, the
-- request and the certificate that it was made of.
abbrev pub BlockReadBackLaw : Type 0
BlockReadBackLaw =
    (entries : List Descriptor) (r : Request) (c : CertificateValue) → HasBlockNumbers entries r c
    → length (block_lines entries r c) ≤ most_block_lines
    → block_said (block_text entries r c) ≡ Ok (entries, r, c)

-- The check answers that the block is accepted, unless a read or a write fails or memory runs out.
abbrev pub SaysAccepted : Result Bool BlockFault → Type 0
SaysAccepted (Ok accepted) = IsTrue accepted
SaysAccepted (Err (fault.Line number)) = ⊥
SaysAccepted (Err e) = Unit {0}

-- The text of a block is read back as the map, the request and the certificate that it was made of,
-- and its check answers that it is accepted.
pub record IsAcceptedBlock (entries : List Descriptor) (r : Request)
    (c : CertificateValue) : Type 0 where
  pub read_back : block_said (block_text entries r c) ≡ Ok (entries, r, c)
  pub judged : (can_fail : Bool) (before after : Option (List ℕ)) (answer : Result Bool BlockFault)
      → Judges can_fail (block_text entries r c) before after answer → SaysAccepted answer

-- So it is of each certificate that is accepted, where the numbers of the entries and of the
-- request fit, and where the block has no more lines than it may have with a bound for each entry.
abbrev pub AcceptedBlockLaw : Type 0
AcceptedBlockLaw =
    (entries : List Descriptor) (r : Request) (c : CertificateValue) → IsAccepted entries r c
    → AllByRecursion HasEntryNumbers entries → HasRequestNumbers r
    → 2 * length entries + 6 ≤ most_block_lines → IsAcceptedBlock entries r c
