-- The best place for pages on a memory map that a caller in C passes.
use Rattle.std.specs.Prelude.{◌≡◌, ◌⊎◌, ℕ, ◌*◌, List, Result, Ok, Err}
use Rattle.page_ranges.specs.MemoryTypes.{page_size, pages_below}
use Rattle.page_ranges.specs.Runs.{pages_of}
use Rattle.page_ranges.specs.Statuses.{status_number}
use Rattle.page_ranges.specs.declared.statuses.Status.{Status}
use Rattle.page_ranges.specs.declared.statuses.Status.TheVariants.{Success, InvalidParameter, OutOfResources}
use Rattle.placement_certificate.specs.Certificates.{CertificateValue, IsTrueCertificate}
use Rattle.page_services.specs.PageRules.{IsValidRequest, max_address, whole_request}
use Rattle.boot_machines.specs.Machines.{MachineValue, IsMachine}
use Rattle.c_machines.specs.MachineRecords.{IsReturned}

-- The address is that of the best place: that of the true certificate for a number of pages of a
-- type on the machine's memory, up to the byte at the limit.
abbrev pub IsBestPlace : MachineValue → ℕ → ℕ → ℕ → ℕ → Type 0
IsBestPlace m t pages limit address =
    IsValidRequest max_address t pages
    × ((certificate : CertificateValue)
    × IsTrueCertificate (pages_of m.runs)
    (whole_request m.granule t pages (pages_below limit)) certificate
    × (address ≡ certificate.answer * page_size))

-- What is found on a machine: the address of the best place. OUT_OF_RESOURCES means that no place
-- is permitted, or that memory ran out.
abbrev pub FindsPlace : MachineValue → ℕ → ℕ → ℕ → Result ℕ Status → Type 0
FindsPlace m t pages limit (Ok address) = IsBestPlace m t pages limit address
FindsPlace m t pages limit (Err InvalidParameter) = ¬ IsValidRequest max_address t pages
FindsPlace m t pages limit (Err OutOfResources) = Unit {0}
FindsPlace m t pages limit (Err status) = ⊥

-- The status, and the address in the caller's variable, which a refusal leaves: that of the best
-- place on the machine that the records state. INVALID_PARAMETER means that they state none, or
-- that no memory grants the request; OUT_OF_RESOURCES that no place is permitted, or that memory
-- ran out.
abbrev pub PlacesPages : ℕ → List ℕ → ℕ → ℕ → ℕ → ℕ → ℕ → ℕ → ℕ → Type 0
PlacesPages size records granule t pages limit before status after =
    ((m : MachineValue) × IsReturned size records granule m × IsBestPlace m t pages limit after
    × (status ≡ status_number Success))
    ⊎ ((((m : MachineValue) → IsMachine m → ¬ IsReturned size records granule m)
    ⊎ (¬ IsValidRequest max_address t pages)) × (status ≡ status_number InvalidParameter)
    × (after ≡ before))
    ⊎ ((status ≡ status_number OutOfResources) × (after ≡ before))
