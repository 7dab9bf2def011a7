-- Bounds that are checked one after the other, against the entries of a map.
use Rattle.std.proofs.Common.{◌≡◌, ◌↔◌, ℕ, zero, suc, ◌+◌, ◌<◌, ◌≤◌, Bool, true, false, IsTrue, eqb, List, [], ◌∷◌, length, get_or, take, drop, filter, Contains, Option, Some, None, inl, inr, refl, sym, ap, subst, ◌∙◌, arith}
use Rattle.std.specs.Prelude.{slice_get}
use Rattle.std.specs.List.{AllZip, AllByRecursion}
use Rattle.std.proofs.lemmas.Bool.{cases_lt}
use Rattle.std.proofs.lemmas.List.{drop_more, drop_all, take_more, take_all}
use Rattle.std.proofs.lemmas.Option.{slice_get_within, get_or_from_slice_get}
use Rattle.page_ranges.specs.declared.ranges.Descriptor.{Descriptor}
use Rattle.page_ranges.specs.MemoryTypes.{conventional}
use Rattle.page_ranges.specs.Memory.{Page, IsProperMemory}
use Rattle.page_ranges.specs.MemoryMap.{IsMap, memory_of}
use Rattle.page_ranges.proofs.Maps.{memory_of-proper, map_of_memory_of}
use Rattle.page_ranges.proofs.Members.{member_all}
use Rattle.placement_certificate.specs.declared.certificates.Request.{Request}
use Rattle.placement_certificate.specs.declared.certificates.Bound.{Bound}
use Rattle.placement_certificate.specs.Placement.{IsProperRequest, IsBestStart}
use Rattle.placement_certificate.specs.Certificates.{IsTrueBound, conventional_entries}
use Rattle.placement_certificate.specs.Laws.{IsNoWorse}
use Rattle.placement_certificate.specs.Search.{better, IsBestOf}
use Rattle.placement_certificate.specs.Acceptance.{IsAccepted}
use Rattle.placement_certificate.proofs.BestBounds.{no_bound}
use Rattle.placement_certificate.proofs.Decided.{best_of, best_of_is, best_is}
use Rattle.placement_certificate.proofs.MapLists.{drop_entry}
use Rattle.placement_certificate.proofs.OneCertificate.{same_best}
use Rattle.placement_certificate.proofs.Tries.{bound_more}

abbrev pub is_free_entry : Descriptor → Bool
is_free_entry e = eqb e.mtype conventional

-- All bounds are true just where those left are true of the entries left.
abbrev pub IsLeft : (Descriptor → Bound → Type 0) → List Descriptor → List Bound → ℕ → ℕ → Type 0
IsLeft R ds bs i n = AllZip R (filter is_free_entry ds) bs ↔ AllZip R (filter is_free_entry (drop i ds)) (drop n bs)

drop_bound : (bs : List Bound) (n : ℕ) (b : Bound) → slice_get bs n ≡ Some b → drop n bs ≡ b ∷ drop (n + 1) bs
drop_bound bs n b at = drop_more bs n b (slice_get_within bs n b at) ∙ ap (λ c. c ∷ drop (n + 1) bs) (get_or_from_slice_get bs n b b at)

entry_passed : (ds : List Descriptor) (i : ℕ) (e : Descriptor) → i < length ds → e ≡ get_or ds i e → is_free_entry e ≡ false → filter is_free_entry (drop i ds) ≡ filter is_free_entry (drop (i + 1) ds)
entry_passed ds i e h is other =
    let alone : filter is_free_entry (e ∷ drop (i + 1) ds) ≡ filter is_free_entry (drop (i + 1) ds) = rw other refl in
    ap (filter is_free_entry) (drop_entry ds i e h is) ∙ alone

entry_kept : (ds : List Descriptor) (i : ℕ) (e : Descriptor) → i < length ds → e ≡ get_or ds i e → is_free_entry e ≡ true → filter is_free_entry (drop i ds) ≡ e ∷ filter is_free_entry (drop (i + 1) ds)
entry_kept ds i e h is free =
    let first : filter is_free_entry (e ∷ drop (i + 1) ds) ≡ e ∷ filter is_free_entry (drop (i + 1) ds) = rw free refl in
    ap (filter is_free_entry) (drop_entry ds i e h is) ∙ first

module _ (R : Descriptor → Bound → Type 0) (ds : List Descriptor) (bs : List Bound) (i n : ℕ) where
  -- an entry that is not conventional
  pub left_passed : (e : Descriptor) → i < length ds → e ≡ get_or ds i e → is_free_entry e ≡ false → IsLeft R ds bs i n → IsLeft R ds bs (i + 1) n
  left_passed e h is other left = subst (λ es. AllZip R (filter is_free_entry ds) bs ↔ AllZip R es (drop n bs)) (entry_passed ds i e h is other) left

  -- a conventional entry, and the next bound, which is true
  pub left_checked : (e : Descriptor) (b : Bound) → i < length ds → e ≡ get_or ds i e → is_free_entry e ≡ true → slice_get bs n ≡ Some b → R e b → IsLeft R ds bs i n → IsLeft R ds bs (i + 1) (n + 1)
  left_checked e b h is free at holds left =
      let entries = entry_kept ds i e h is free in
      let bounds = drop_bound bs n b at in
      let both : AllZip R (filter is_free_entry ds) bs ↔ AllZip R (e ∷ filter is_free_entry (drop (i + 1) ds)) (b ∷ drop (n + 1) bs) =
      subst (λ cs. AllZip R (filter is_free_entry ds) bs ↔ AllZip R (e ∷ filter is_free_entry (drop (i + 1) ds)) cs) bounds (subst (λ es. AllZip R (filter is_free_entry ds) bs ↔ AllZip R es (drop n bs)) entries left) in
      (λ z. (both.0 z).1, λ z. both.1 (holds, z))

  first_bound : (e : Descriptor) (es : List Descriptor) (cs : List Bound) → AllZip R (e ∷ es) cs → (b : Bound) × (slice_get cs 0 ≡ Some b) × R e b
  first_bound e es [] z = absurd z
  first_bound e es (b ∷ cs) z = (b, refl, z.0)

  -- a conventional entry, and the next bound, which is not true or not there
  pub left_wrong : (e : Descriptor) → i < length ds → e ≡ get_or ds i e → is_free_entry e ≡ true → ((b : Bound) → slice_get bs n ≡ Some b → ¬ R e b) → IsLeft R ds bs i n → ¬ AllZip R (filter is_free_entry ds) bs
  left_wrong e h is free wrong left z =
      let some = first_bound e (filter is_free_entry (drop (i + 1) ds)) (drop n bs) (subst (λ es. AllZip R es (drop n bs)) (entry_kept ds i e h is free) (left.0 z)) in
      wrong some.0 (sym (first_dropped bs n) ∙ some.1) some.2
    where
      first_dropped : (cs : List Bound) (k : ℕ) → slice_get (drop k cs) 0 ≡ slice_get cs k
      first_dropped cs zero = refl
      first_dropped [] (suc k) = refl
      first_dropped (c ∷ cs) (suc k) = first_dropped cs k

  -- no entry is left
  pub left_none : length ds ≤ i → n ≤ length bs → IsLeft R ds bs i n → (n ≡ length bs) ↔ AllZip R (filter is_free_entry ds) bs
  left_none h within left =
      let none : filter is_free_entry (drop i ds) ≡ [] = ap (filter is_free_entry) (drop_all i ds h) in
      let both : AllZip R (filter is_free_entry ds) bs ↔ AllZip R [] (drop n bs) = subst (λ es. AllZip R (filter is_free_entry ds) bs ↔ AllZip R es (drop n bs)) none left in (
        λ e. both.1 (subst (λ cs. AllZip R [] cs) (sym (drop_all n bs (omega arith))) tt),
        λ z. elim (cases_lt n (length bs)) [
          | inl l ↦ absurd (more l (both.0 z))
          | inr g ↦ omega arith
        ],
      )
    where
      dummy : Bound
      dummy = record { first = 0; pages = 0; least = None }

      more : n < length bs → AllZip R [] (drop n bs) → ⊥
      more l z = let bad : AllZip R [] (get_or bs n dummy ∷ drop (n + 1) bs) = subst (λ cs. AllZip R [] cs) (drop_more bs n dummy l) z in bad

-- the bounds of the entries of a map
pub of_map : (R : Descriptor → Bound → Type 0) (ds : List Descriptor) (bs : List Bound) → IsMap ds → AllZip R (filter is_free_entry ds) bs ↔ AllZip R (conventional_entries (memory_of ds)) bs
of_map R ds bs a = (
  λ z. subst (λ es. AllZip R (filter is_free_entry es) bs) (sym (map_of_memory_of ds a)) z,
  λ z. subst (λ es. AllZip R (filter is_free_entry es) bs) (map_of_memory_of ds a) z,
)

-- ---- the best of the bounds

pub best_more : (bs : List Bound) (i : ℕ) (d : Bound) (x : Option (ℕ × ℕ)) → i < length bs → IsBestOf x (take i bs) → IsBestOf (better x (get_or bs i d).least) (take (i + 1) bs)
best_more bs i d x h s = subst (IsBestOf (better x (get_or bs i d).least)) (sym (take_more bs i d h)) (bound_more x (get_or bs i d).least (take i bs) (get_or bs i d) refl s)

pub best_of_all : (bs : List Bound) (i : ℕ) (x : Option (ℕ × ℕ)) → length bs ≤ i → IsBestOf x (take i bs) → IsBestOf x bs
best_of_all bs i x h s = subst (IsBestOf x) (take_all i bs h) s

no_worse_at : (count top : ℕ) (bs : List Bound) (b : Bound) → AllByRecursion (λ c. IsNoWorse count top c.least) bs → Contains bs b → (c t : ℕ) → b.least ≡ Some (c, t) → (count ≤ c) × (c ≡ count → t ≤ top)
no_worse_at count top bs b all member c t is = subst (IsNoWorse count top) is (member_all (λ d. IsNoWorse count top d.least) bs b all member)

-- bounds have one best start
pub one_best : (bs : List Bound) (count top c t : ℕ) → IsBestOf (Some (count, top)) bs → IsBestOf (Some (c, t)) bs → top ≡ t
one_best bs count top c t s u =
    let here = no_worse_at count top bs u.0.0 s.1 u.0.1 c t u.0.2 in
    let there = no_worse_at c t bs s.0.0 u.1 s.0.1 count top s.0.2 in
    omega (arith, here.0, there.0, here.1 (omega (arith, here.0, there.0)), there.1 (omega (arith, here.0, there.0)))

not_both : (l : Option (ℕ × ℕ)) (count top : ℕ) → l ≡ Some (count, top) → l ≡ None → ⊥
not_both None count top e f = cc
not_both (Some x) count top e f = cc

pub some_best : (bs : List Bound) (count top : ℕ) → IsBestOf (Some (count, top)) bs → IsBestOf None bs → ⊥
some_best bs count top s u = not_both s.0.0.least count top s.0.2 (member_all (λ d. d.least ≡ None) bs s.0.0 u s.0.1)

-- of true bounds the best start is that of all
pub best_is_best : (m : List Page) (r : Request) (bs : List Bound) (p : ℕ) → IsProperMemory m → IsProperRequest r → AllZip (IsTrueBound m r) (conventional_entries m) bs → ((count : ℕ) × IsBestOf (Some (count, p)) bs) ↔ IsBestStart m r p
best_is_best m r bs p proper good bounds = (
  λ s. best_is m r bs proper good bounds s.0 p s.1,
  λ best. go best (best_of None bs) (best_of_is None [] bs tt),
)
  where
    go : IsBestStart m r p → (o : Option (ℕ × ℕ)) → IsBestOf o bs → (count : ℕ) × IsBestOf (Some (count, p)) bs
    go best None s = absurd (no_bound m r bs proper good bounds s p best.permitted)
    go best (Some (count, top)) s = let same = same_best m r top p (best_is m r bs proper good bounds count top s) best in (count, subst (λ q. IsBestOf (Some (count, q)) bs) same s)

-- a list, a request and bounds that are as they should be are accepted just where the answer is the best of the bounds
pub accepted_by_best : (ds : List Descriptor) (r : Request) (bs : List Bound) (p : ℕ) (b : Bool) → IsMap ds → IsProperRequest r → AllZip (IsTrueBound (memory_of ds) r) (conventional_entries (memory_of ds)) bs → IsTrue b ↔ ((count : ℕ) × IsBestOf (Some (count, p)) bs)
    → IsTrue b ↔ IsAccepted ds r (record { bounds = bs; answer = p })
accepted_by_best ds r bs p b map good bounds best =
    let both = best_is_best (memory_of ds) r bs p (memory_of-proper ds map) good bounds in
    (λ t. record { is_map = map; good = good; is_true = record { bounds = bounds; answer = both.0 (best.0 t) } }, λ h. best.1 (both.1 h.is_true.answer))
