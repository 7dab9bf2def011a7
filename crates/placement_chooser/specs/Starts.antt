-- The best start of a request, whether its certificate is answered or not.
use Rattle.std.specs.Prelude.{◌≡◌, ◌⊎◌, ℕ, ◌+◌, ◌≤◌, List, Option, Some, None, length}
use Rattle.page_ranges.specs.declared.ranges.Descriptor.{Descriptor}
use Rattle.page_ranges.specs.Memory.{Page}
use Rattle.page_ranges.specs.MemoryMap.{memory_map}
use Rattle.descriptor_table.specs.declared.wanted.Wanted.{Wanted}
use Rattle.descriptor_table.specs.Wanting.{IsOfNoUse}
use Rattle.placement_certificate.specs.declared.certificates.Request.{Request}
use Rattle.placement_certificate.specs.Certificates.{CertificateValue, IsTrueCertificate, IsTrueLeast}
use Rattle.placement_chooser.specs.declared.offers.Offer.{Offer}

-- the answer of the true certificate of a request, so the best start
abbrev pub IsCertifiedStart : List Page → Request → ℕ → Type 0
IsCertifiedStart m r p = (c : CertificateValue) × IsTrueCertificate m r c × (c.answer ≡ p)

-- how much a placement must gain to be better than a start, in a map of a number of entries
abbrev pub IsGain : ℕ → Option (ℕ × ℕ) → ℕ → Type 0
IsGain entries None gain = gain ≡ 0
IsGain entries (Some (price, start)) gain = gain + price ≡ entries + 2

-- a start with its price, in a map of a number of entries, as an offer; or none
abbrev pub IsOfferOf : ℕ → Option (ℕ × ℕ) → Offer → Type 0
IsOfferOf entries None offer = offer.saving ≡ 0
IsOfferOf entries (Some (price, start)) offer =
    (offer.saving + price ≡ entries + 3) × (price ≤ entries + 2) × (offer.start ≡ start)

-- the offer is the best start in an entry; or none is permitted there
abbrev pub IsOfferIn : List Page → Request → Descriptor → Offer → Type 0
IsOfferIn m r e offer = (least : Option (ℕ × ℕ)) × IsTrueLeast m r e least
    × IsOfferOf (length (memory_map m)) least offer

-- the offer is the best start in an entry; or there is none and the entry is of no use
abbrev pub OffersBest : List Page → Request → Wanted → Descriptor → Offer → Type 0
OffersBest m r w e offer = IsOfferIn m r e offer ⊎ ((offer.saving ≡ 0) × IsOfNoUse m w e)

-- what is wanted is room for a request
pub record IsWantedFor (r : Request) (w : Wanted) : Type 0 where
  pub mtype : w.mtype ≡ r.mtype
  pub pages : w.pages ≡ r.pages
  pub limit : w.limit ≡ r.limit
