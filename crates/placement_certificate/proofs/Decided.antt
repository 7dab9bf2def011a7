-- The true certificate of a request, computed from the pages: each start of each conventional entry is tried.
use Rattle.std.proofs.Common.{◌≡◌, ℕ, zero, suc, ◌+◌, ◌%◌, ◌<◌, ◌≤◌, Bool, true, false, not, cond, ◌&&◌, eqb, leb, List, [], ◌∷◌, ◌++◌, map, Option, Some, None, inl, inr, true≢false, refl, sym, ap, subst, ◌∙◌, append_assoc, arith}
use Rattle.std.specs.List.{AllZip}
use Rattle.std.proofs.lemmas.Bool.{cases_eq, cases_Bool, eqb-true, eq-eqb, leb-true, le-leb, and_parts, and_from, not-true}
use Rattle.std.proofs.lemmas.List.{append-nil}
use Rattle.page_ranges.specs.declared.ranges.Descriptor.{Descriptor}
use Rattle.page_ranges.specs.MemoryTypes.{conventional, is_specific_purpose}
use Rattle.page_ranges.specs.Memory.{Page, page_at, IsProperMemory}
use Rattle.placement_certificate.specs.declared.certificates.Request.{Request}
use Rattle.placement_certificate.specs.declared.certificates.Bound.{Bound}
use Rattle.placement_certificate.specs.Placement.{IsProperRequest, IsPermittedStart, IsAvailable, price, IsBestStart}
use Rattle.placement_certificate.specs.Certificates.{CertificateValue, IsTrueLeast, IsTrueBound, conventional_entries, IsTrueCertificate}
use Rattle.placement_certificate.specs.Search.{better, IsBestOf}
use Rattle.placement_certificate.proofs.BestBounds.{best_bound, no_bound}
use Rattle.placement_certificate.proofs.Tries.{first_pages, none_tried, start_passed, start_tried, bound_more}

-- ---- a permitted start

abbrev pub is_free : Option Page → Bool
is_free None = false
is_free (Some x) = eqb x.mtype conventional && not (is_specific_purpose x.attributes)

pub free_from : (o : Option Page) → is_free o ≡ true → IsAvailable o
free_from None h = absurd (true≢false (sym h))
free_from (Some x) h =
    let t = and_parts (eqb x.mtype conventional) (not (is_specific_purpose x.attributes)) h in
    (eqb-true x.mtype conventional t.0, not-true _ t.1)

pub free_is : (o : Option Page) → IsAvailable o → is_free o ≡ true
free_is None c = absurd c.0
free_is (Some x) c = and_from _ _ (eq-eqb x.mtype conventional c.0) (ap (λ b. not b) c.1)

-- a number of pages from a page number on
abbrev are_free : List Page → ℕ → ℕ → Bool
are_free m p zero = true
are_free m p (suc n) = is_free (page_at m p) && are_free m (p + 1) n

are_free_from : (m : List Page) (p n : ℕ) → are_free m p n ≡ true → (k : ℕ) → p ≤ k → k < p + n → IsAvailable (page_at m k)
are_free_from m p zero h k l u = absurd (omega arith)
are_free_from m p (suc n) h k l u =
    let t = and_parts (is_free (page_at m p)) (are_free m (p + 1) n) h in
    elim (cases_eq p k) [
      | inl e ↦ subst (λ j. IsAvailable (page_at m j)) e (free_from (page_at m p) t.0)
      | inr d ↦ are_free_from m (p + 1) n t.1 k (omega arith) (omega arith)
    ]

are_free_is : (m : List Page) (p n : ℕ) → ((k : ℕ) → p ≤ k → k < p + n → IsAvailable (page_at m k)) → are_free m p n ≡ true
are_free_is m p zero c = refl
are_free_is m p (suc n) c = and_from _ _ (free_is (page_at m p) (c p (omega arith) (omega arith))) (are_free_is m (p + 1) n (λ k l u. c k (omega arith) (omega arith)))

abbrev is_permitted : List Page → Request → ℕ → Bool
is_permitted m r p = eqb (p % r.granule) 0 && (leb (p + r.pages) r.limit && are_free m p r.pages)

permitted_from : (m : List Page) (r : Request) (p : ℕ) → is_permitted m r p ≡ true → IsPermittedStart m r p
permitted_from m r p h =
    let u = and_parts (eqb (p % r.granule) 0) (leb (p + r.pages) r.limit && are_free m p r.pages) h in
    let t = and_parts (leb (p + r.pages) r.limit) (are_free m p r.pages) u.1 in
    let free = are_free_from m p r.pages t.1 in
    record { whole = eqb-true (p % r.granule) 0 u.0; within = leb-true (p + r.pages) r.limit t.0; conventional = λ k l u. (free k l u).0; ordinary = λ k l u. (free k l u).1 }

not_permitted : (m : List Page) (r : Request) (p : ℕ) → is_permitted m r p ≡ false → ¬ IsPermittedStart m r p
not_permitted m r p f h = true≢false (sym (and_from _ _ (eq-eqb (p % r.granule) 0 h.whole) (and_from _ _ (le-leb (p + r.pages) r.limit h.within) (are_free_is m p r.pages (λ k l u. (h.conventional k l u, h.ordinary k l u))))) ∙ f)

-- ---- the bound of an entry

abbrev least_in : List Page → Request → Descriptor → ℕ → Option (ℕ × ℕ)
least_in m r e zero = None
least_in m r e (suc k) = cond (is_permitted m r (e.first + k)) (better (least_in m r e k) (Some (price m r (e.first + k), e.first + k))) (least_in m r e k)

least_true : (m : List Page) (r : Request) (e : Descriptor) (k : ℕ) → IsTrueLeast m r (first_pages k e) (least_in m r e k)
least_true m r e zero = none_tried m r e 0 refl
least_true m r e (suc k) = elim (cases_Bool (is_permitted m r (e.first + k))) [
  | inl t ↦ rw t (start_tried m r e k (suc k) (e.first + k) (price m r (e.first + k)) (least_in m r e k) refl (omega arith) (permitted_from m r (e.first + k) t) refl (least_true m r e k))
  | inr f ↦ rw f (start_passed m r e k (suc k) (e.first + k) (least_in m r e k) refl (omega arith) (not_permitted m r (e.first + k) f) (least_true m r e k))
]

abbrev bound_for : List Page → Request → Descriptor → Bound
bound_for m r e = record { first = e.first; pages = e.pages; least = least_in m r e e.pages }

bounds_true : (m : List Page) (r : Request) (es : List Descriptor) → AllZip (IsTrueBound m r) es (map (bound_for m r) es)
bounds_true m r [] = tt
bounds_true m r (e ∷ es) = (record { first = refl; pages = refl; least = least_true m r e e.pages }, bounds_true m r es)

-- ---- the certificate

abbrev pub best_of : Option (ℕ × ℕ) → List Bound → Option (ℕ × ℕ)
best_of x [] = x
best_of x (b ∷ bs) = best_of (better x b.least) bs

pub best_of_is : (x : Option (ℕ × ℕ)) (done bs : List Bound) → IsBestOf x done → IsBestOf (best_of x bs) (done ++ bs)
best_of_is x done [] s = subst (IsBestOf x) (sym (append-nil done)) s
best_of_is x done (b ∷ bs) s = subst (IsBestOf (best_of (better x b.least) bs)) (append_assoc done (b ∷ []) bs) (best_of_is (better x b.least) (done ++ b ∷ []) bs (bound_more x b.least done b refl s))

-- the best start of some bounds is the best of all
pub best_is : (m : List Page) (r : Request) (bs : List Bound) → IsProperMemory m → IsProperRequest r → AllZip (IsTrueBound m r) (conventional_entries m) bs → (count top : ℕ) → IsBestOf (Some (count, top)) bs → IsBestStart m r top
best_is m r bs proper good bounds count top s = best_bound m r bs proper good bounds s.0.0 count top s.0.1 s.0.2 s.1

abbrev with_answer : List Bound → Option (ℕ × ℕ) → Option CertificateValue
with_answer bs None = None
with_answer bs (Some (count, top)) = Some (record { bounds = bs; answer = top })

abbrev pub certificate_of : List Page → Request → Option CertificateValue
certificate_of m r =
    let bs = map (bound_for m r) (conventional_entries m) in
    with_answer bs (best_of None bs)

-- of a certificate, that it is true; of none, that no start is permitted
abbrev IsAnswer : List Page → Request → Option CertificateValue → Type 0
IsAnswer m r None = (p : ℕ) → ¬ IsPermittedStart m r p
IsAnswer m r (Some c) = IsTrueCertificate m r c

is_answer : (m : List Page) (r : Request) → IsProperMemory m → IsProperRequest r → IsAnswer m r (certificate_of m r)
is_answer m r proper good = go (best_of None bs) (best_of_is None [] bs tt)
  where
    bs : List Bound
    bs = map (bound_for m r) (conventional_entries m)

    go : (o : Option (ℕ × ℕ)) → IsBestOf o bs → IsAnswer m r (with_answer bs o)
    go None s = no_bound m r bs proper good (bounds_true m r (conventional_entries m)) s
    go (Some (count, top)) s = record { bounds = bounds_true m r (conventional_entries m); answer = best_is m r bs proper good (bounds_true m r (conventional_entries m)) count top s }

pub certificate_true : (m : List Page) (r : Request) (c : CertificateValue) → IsProperMemory m → IsProperRequest r → certificate_of m r ≡ Some c → IsTrueCertificate m r c
certificate_true m r c proper good e = subst (IsAnswer m r) e (is_answer m r proper good)

pub no_certificate : (m : List Page) (r : Request) → IsProperMemory m → IsProperRequest r → certificate_of m r ≡ None → (p : ℕ) → ¬ IsPermittedStart m r p
no_certificate m r proper good e = subst (IsAnswer m r) e (is_answer m r proper good)
