-- What the checker accepts, and what that means for memories.
use Rattle.std.specs.Prelude.{◌≡◌, List}
use Rattle.page_ranges.specs.declared.ranges.Descriptor.{Descriptor}
use Rattle.page_ranges.specs.Memory.{Page, IsProperMemory, HasMachineTypes}
use Rattle.page_ranges.specs.MemoryMap.{memory_map, IsMap, memory_of}
use Rattle.placement_certificate.specs.declared.certificates.Request.{Request}
use Rattle.placement_certificate.specs.Placement.{IsProperRequest}
use Rattle.placement_certificate.specs.Certificates.{CertificateValue, IsTrueCertificate}

-- An accepted certificate: a list, a request and a certificate, of which nothing is known before.
pub record IsAccepted (ds : List Descriptor) (r : Request) (c : CertificateValue) : Type 0 where
  -- the list is a map
  pub is_map : IsMap ds
  -- the request is for some pages, of a type that requests may name
  pub good : IsProperRequest r
  -- the certificate is true in the memory that the list represents
  pub is_true : IsTrueCertificate (memory_of ds) r c

-- An accepted certificate is true in each proper memory with that map.
abbrev pub AcceptedLaw : Type 0
AcceptedLaw =
    (ds : List Descriptor) (r : Request) (c : CertificateValue) (m : List Page) → IsAccepted ds r c
    → IsProperMemory m → memory_map m ≡ ds → IsTrueCertificate m r c

-- Each certificate that is true in a proper memory of machine types is accepted with the memory's
-- map.
abbrev pub TrueIsAcceptedLaw : Type 0
TrueIsAcceptedLaw =
    (m : List Page) (r : Request) (c : CertificateValue) → IsProperMemory m → HasMachineTypes m
    → IsProperRequest r → IsTrueCertificate m r c → IsAccepted (memory_map m) r c
