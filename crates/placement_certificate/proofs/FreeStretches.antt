-- Stretches of available pages.
use Rattle.std.proofs.Common.{◌≡◌, ℕ, ◌+◌, ◌<◌, ◌≤◌, min, List, Contains, None, inl, inr, arith}
use Rattle.std.proofs.lemmas.Bool.{cases_lt}
use Rattle.page_ranges.specs.declared.ranges.Descriptor.{Descriptor}
use Rattle.page_ranges.specs.Memory.{Page, page_at, IsProperMemory}
use Rattle.page_ranges.specs.Granules.{rounded}
use Rattle.page_ranges.specs.MemoryMap.{memory_map, IsIn}
use Rattle.page_ranges.proofs.Blocks.{entry_is_block}
use Rattle.page_ranges.proofs.WholeGranules.{rounded_at_least, rounded_least}
use Rattle.placement_certificate.specs.declared.certificates.Request.{Request}
use Rattle.placement_certificate.specs.Placement.{IsProperRequest, IsAvailable}
use Rattle.placement_certificate.specs.Certificates.{IsTrueLeast}
use Rattle.placement_certificate.specs.Laws.{IsStretch}
use Rattle.placement_certificate.specs.Search.{IsStop, PermitsUpTo, IsAvailableBlock}
use Rattle.placement_certificate.proofs.Edges.{like_available}
use Rattle.placement_certificate.proofs.Places.{stretch}

-- the pages of an available entry
pub entry_free : (m : List Page) (e : Descriptor) → IsProperMemory m → Contains (memory_map m) e → IsAvailableBlock e → (k : ℕ) → e.first ≤ k → k < e.first + e.pages → IsAvailable (page_at m k)
entry_free m e proper entry free k low high = like_available e (page_at m k) ((entry_is_block m proper.ascending e entry).all k (record { low = low; high = high })) free

-- a stretch from an entry's first page holds the entry
pub entry_stop : (m : List Page) (e : Descriptor) (stop : ℕ) → IsProperMemory m → Contains (memory_map m) e → IsAvailableBlock e → e.first < stop → IsStretch m e.first stop → IsStop m e stop
entry_stop m e stop proper entry free some is = record {
  within = elim (cases_lt stop (e.first + e.pages)) [ inl l ↦ absurd (is.stops (entry_free m e proper entry free stop (omega arith) l)) | inr g ↦ g ];
  stretch = is;
}

-- a stretch that an entry begins in holds the entry
pub known_stop : (m : List Page) (e : Descriptor) (first stop : ℕ) → IsProperMemory m → Contains (memory_map m) e → IsAvailableBlock e → first ≤ e.first → e.first < stop → IsStretch m first stop → IsStop m e stop
known_stop m e first stop proper entry free low high is = entry_stop m e stop proper entry free high (record { all = λ k l u. is.all k (omega arith) u; stops = is.stops })

-- which starts of the entry are permitted
pub permits_up_to : (m : List Page) (r : Request) (e : Descriptor) (stop end : ℕ) → IsStop m e stop → end ≡ min stop r.limit → PermitsUpTo m r e end
permits_up_to m r e stop end is at q i =
    let both = stretch m r e.first stop q is.stretch i.low (omega (arith, i.high, is.within)) in
    (λ h. let t = both.0 h in (t.0, omega (arith, t.1, t.2)), λ h. both.1 (h.0, omega (arith, h.1), omega (arith, h.1)))

-- ---- an entry without a permitted start

-- the first multiple of the granule from the entry's first page on lies above the entry
pub none_in_entry : (m : List Page) (r : Request) (e : Descriptor) → IsProperRequest r → ¬ IsIn e (rounded e.first r.granule) → IsTrueLeast m r e None
none_in_entry m r e good out p i permitted =
    out (record { low = rounded_at_least e.first r.granule good.granule; high = omega (arith, rounded_least e.first p r.granule good.granule i.low permitted.whole, i.high) })

-- or its pages don't end by the number
pub none_fits : (m : List Page) (r : Request) (e : Descriptor) (end : ℕ) → IsProperRequest r → PermitsUpTo m r e end → (rounded e.first r.granule + r.pages ≤ end → ⊥) → IsTrueLeast m r e None
none_fits m r e end good up out p i permitted =
    out (omega (arith, rounded_least e.first p r.granule good.granule i.low permitted.whole, ((up p i).0 permitted).1))
