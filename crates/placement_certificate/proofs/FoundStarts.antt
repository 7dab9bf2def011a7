-- Starts that are tried.
use Rattle.std.proofs.Common.{◌≡◌, ◌||◌, ◌&&◌, eqb, ltb, ℕ, ◌+◌, Contains, List, Option, Some, None, inl, inr, sym, subst, ◌∙◌, arith}
use Rattle.std.proofs.lemmas.Bool.{cases_Bool}
use Rattle.page_ranges.specs.declared.ranges.Descriptor.{Descriptor}
use Rattle.page_ranges.specs.Memory.{Page, IsProperMemory}
use Rattle.page_ranges.specs.MemoryMap.{memory_map, IsIn}
use Rattle.placement_certificate.specs.declared.certificates.Request.{Request}
use Rattle.placement_certificate.specs.Placement.{IsProperRequest, IsPermittedStart, price}
use Rattle.placement_certificate.specs.Search.{better, IsFound, IsTried}
use Rattle.placement_certificate.specs.Certificates.{IsTrueLeast}
use Rattle.placement_certificate.specs.Laws.{EndsEntry, IsHighestIn, IsPlace}
use Rattle.placement_certificate.proofs.Places.{best_candidate}

-- a start that needs to be tried only if it is permitted
pub tried_if : (m : List Page) (r : Request) (e : Descriptor) (l : Option (ℕ × ℕ)) (q : ℕ) → (IsIn e q → IsPermittedStart m r q → IsTried m r e l q) → IsTried m r e l q
tried_if m r e None q t = λ i h. t i h i h
tried_if m r e (Some (count, top)) q t = λ i h. t i h i h

-- a start that is not permitted
pub tried_unless : (m : List Page) (r : Request) (e : Descriptor) (l : Option (ℕ × ℕ)) (q : ℕ) → (IsIn e q → ¬ IsPermittedStart m r q) → IsTried m r e l q
tried_unless m r e None q out = out
tried_unless m r e (Some (count, top)) q out = λ i h. absurd (out i h)

-- one start more is found
pub found_more : (m : List Page) (r : Request) (e : Descriptor) (l : Option (ℕ × ℕ)) (count q : ℕ) → IsFound m r e l → IsIn e q → IsPermittedStart m r q → count ≡ price m r q → IsFound m r e (better l (Some (count, q)))
found_more m r e None count q found i h paid = (i, h, sym paid)
found_more m r e (Some (c, t)) count q found i h paid = elim (cases_Bool (ltb count c || (eqb count c && ltb t q))) [
  | inl y ↦ rw y (i, h, sym paid)
  | inr n ↦ rw n found
]

-- ---- the highest permitted start

-- no permitted start in the entry is higher than this one
pub record IsTop (m : List Page) (r : Request) (e : Descriptor) (h : ℕ) : Type 0 where
  pub in_entry : IsIn e h
  pub permitted : IsPermittedStart m r h
  pub highest : IsHighestIn m r e h

-- ---- all places of an entry tried

places_tried : (m : List Page) (r : Request) (e : Descriptor) (l : Option (ℕ × ℕ)) (h : ℕ) → IsTop m r e h → IsTried m r e l e.first → IsTried m r e l h → ((q : ℕ) → EndsEntry m (q + r.pages) → IsTried m r e l q)
    → (q : ℕ) → IsIn e q → IsPermittedStart m r q → IsPlace m r e q → IsTried m r e l q
places_tried m r e l h is first last ends q i permitted place = elim place [
  | inl f ↦ subst (IsTried m r e l) (sym f) first
  | inr (inl b) ↦ ends q b
  | inr (inr top) ↦
      let same : h ≡ q = omega (arith, is.highest q i permitted, top h is.in_entry is.permitted) in
      subst (IsTried m r e l) same last
]

best_found : (m : List Page) (r : Request) (e : Descriptor) (l : Option (ℕ × ℕ)) (h : ℕ) → IsProperMemory m → IsProperRequest r → Contains (memory_map m) e → IsTop m r e h → IsFound m r e l → IsTried m r e l h → ((q : ℕ) → IsIn e q → IsPermittedStart m r q → IsPlace m r e q → IsTried m r e l q) → IsTrueLeast m r e l
best_found m r e None h proper good entry is found last tried = absurd (last is.in_entry is.permitted)
best_found m r e (Some (count, top)) h proper good entry is found last tried = (
  best_candidate m r e top proper good entry found.0 found.1 (λ q i k place. let t = tried q i k place i k in (omega (arith, t.0, found.2), λ f. t.1 (f ∙ found.2))),
  found.2,
)

pub least_found : (m : List Page) (r : Request) (e : Descriptor) (l : Option (ℕ × ℕ)) (h : ℕ) → IsProperMemory m → IsProperRequest r → Contains (memory_map m) e → IsTop m r e h → IsFound m r e l → IsTried m r e l e.first → IsTried m r e l h → ((q : ℕ) → EndsEntry m (q + r.pages) → IsTried m r e l q) → IsTrueLeast m r e l
least_found m r e l h proper good entry is found first last ends = best_found m r e l h proper good entry is found last (places_tried m r e l h is first last ends)
