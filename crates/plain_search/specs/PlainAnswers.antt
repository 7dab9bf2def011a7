-- What the plain search answers of runs, and the runs that its tests make.
use Rattle.std.specs.Prelude.{◌≡◌, ℕ, ◌+◌, ◌<◌, ◌≤◌, false, List, Option, IfSome}
use Rattle.page_ranges.specs.declared.ranges.Owner.TheVariants.{Given}
use Rattle.page_ranges.specs.declared.ranges.Run.{Run}
use Rattle.page_ranges.specs.MemoryTypes.{conventional, has_runtime, is_specific_purpose, page_count}
use Rattle.page_ranges.specs.Runs.{pages_of}
use Rattle.placement_certificate.specs.declared.certificates.Request.{Request}
use Rattle.placement_certificate.specs.Certificates.{CertificateValue, IsTrueCertificate}
use Rattle.placement_certificate.specs.Placement.{IsPermittedStart}

-- the pages of a run are available
abbrev pub IsAvailableRun : Run → Type 0
IsAvailableRun r = (r.mtype ≡ conventional) × (is_specific_purpose r.attributes ≡ false)

-- a certificate, if there is one, is that of a request on the memory of runs
abbrev pub IsTrueIfAny : List Run → Request → Option CertificateValue → Type 0
IsTrueIfAny runs r certificate = IfSome certificate (λ c. IsTrueCertificate (pages_of runs) r c)

-- no start is permitted on the memory of runs
abbrev pub PermitsNone : List Run → Request → Type 0
PermitsNone runs r = (p : ℕ) → ¬ IsPermittedStart (pages_of runs) r p

-- a run that is the machine's own
abbrev pub given_run : ℕ → ℕ → ℕ → ℕ → Run
given_run first pages mtype attributes =
    record {
      range = record { first = first; pages = pages };
      mtype = mtype;
      attributes = attributes;
      owner = Given;
    }

-- a machine may have a run of this type and these attributes
abbrev pub IsPossibleRun : ℕ → ℕ → ℕ × ℕ → Type 0
IsPossibleRun first pages kind = (0 < pages) × (first + pages ≤ page_count)
    × (kind.0 ≡ conventional → has_runtime kind.1 ≡ false)
