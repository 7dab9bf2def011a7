-- What is accepted is what is true in the memories with that map.
use Rattle.std.proofs.Common.{◌≡◌, List, sym, ◌∙◌}
use Rattle.page_ranges.specs.declared.ranges.Descriptor.{Descriptor}
use Rattle.page_ranges.specs.Memory.{Page, IsProperMemory, HasMachineTypes}
use Rattle.page_ranges.specs.MemoryMap.{memory_map, memory_of}
use Rattle.page_ranges.proofs.Maps.{memory_of-proper, map_of_memory_of, map_is_map}
use Rattle.placement_certificate.specs.declared.certificates.Request.{Request}
use Rattle.placement_certificate.specs.Placement.{IsProperRequest}
use Rattle.placement_certificate.specs.Certificates.{CertificateValue, IsTrueCertificate}
use Rattle.placement_certificate.specs.Acceptance.{IsAccepted}
use Rattle.placement_certificate.proofs.MapDecides.{true_too}

pub true_in : (ds : List Descriptor) (r : Request) (c : CertificateValue) (m : List Page) → IsAccepted ds r c → IsProperMemory m → memory_map m ≡ ds → IsTrueCertificate m r c
true_in ds r c m is proper same = true_too (memory_of ds) m r (memory_of-proper ds is.is_map) proper is.good (map_of_memory_of ds is.is_map ∙ sym same) c is.is_true

pub true_accepted : (m : List Page) (r : Request) (c : CertificateValue) → IsProperMemory m → HasMachineTypes m → IsProperRequest r → IsTrueCertificate m r c → IsAccepted (memory_map m) r c
true_accepted m r c proper typed good is =
    let map = map_is_map m proper typed in
    record { is_map = map; good = good; is_true = true_too m (memory_of (memory_map m)) r proper (memory_of-proper (memory_map m) map) good (sym (map_of_memory_of (memory_map m) map)) c is }
