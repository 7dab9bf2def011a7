-- The start of the true certificate for pages of a type up to an address is the best place there.
use Rattle.std.proofs.Common.{◌≡◌, ℕ, ◌<◌, ◌*◌, false, Some, sym, ap, subst, arith}
use Rattle.std.proofs.lemmas.Option.{same_Some}
use Rattle.page_ranges.specs.MemoryTypes.{is_bad_type, page_size, pages_below}
use Rattle.page_ranges.specs.Runs.{pages_of}
use Rattle.placement_certificate.specs.declared.certificates.Request.{Request}
use Rattle.placement_certificate.specs.Certificates.{IsTrueCertificate}
use Rattle.placement_chooser.specs.Starts.{IsCertifiedStart}
use Rattle.page_services.specs.PageRules.{max_address, placement_request, whole_request}
use Rattle.boot_machines.specs.Machines.{MachineValue}
use Rattle.map_placement.specs.Places.{IsBestPlace}

pub found : (m : MachineValue) (t pages limit : ℕ) (r : Request) (first : ℕ) → is_bad_type t ≡ false → 0 < pages → placement_request m.granule max_address t pages limit ≡ Some r → IsCertifiedStart (pages_of m.runs) r first → IsBestPlace m t pages limit (first * page_size)
found m t pages limit r first good some asked (c, is, answered) =
    ((omega arith, good, some), (c, subst (λ q. IsTrueCertificate (pages_of m.runs) q c) (sym (same_Some (whole_request m.granule t pages (pages_below limit)) r asked)) is, ap (λ n. n * page_size) (sym answered)))
