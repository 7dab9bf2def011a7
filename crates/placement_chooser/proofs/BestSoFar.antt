-- The best start so far, as entries are taken from the highest down.
use Rattle.std.proofs.Common.{◌≡◌, ◌≢◌, ◌⊎◌, ℕ, ◌+◌, ◌<◌, ◌≤◌, eqb, List, [], ◌∷◌, ◌++◌, filter, length, Contains, Option, Some, None, inl, inr, refl, sym, ap, subst, ◌∙◌, append_assoc, append-nil, arith}
use Rattle.std.specs.List.{AllByRecursion}
use Rattle.std.proofs.lemmas.Bool.{cases_Bool}
use Rattle.page_ranges.specs.declared.ranges.Descriptor.{Descriptor}
use Rattle.page_ranges.specs.MemoryTypes.{conventional}
use Rattle.page_ranges.specs.Memory.{Page, IsProperMemory}
use Rattle.page_ranges.specs.MemoryMap.{memory_map, IsIn, AreInOrder}
use Rattle.page_ranges.proofs.Blocks.{map_blocks}
use Rattle.page_ranges.proofs.Members.{member_first, member_later, member_left, member_right, member_cases, member_none, member_all, all_append_left}
use Rattle.descriptor_table.specs.declared.wanted.Wanted.{Wanted}
use Rattle.descriptor_table.specs.Wanting.{IsOfNoUse}
use Rattle.placement_certificate.specs.declared.certificates.Request.{Request}
use Rattle.placement_certificate.specs.Placement.{IsProperRequest, IsPermittedStart, price, IsBestStart}
use Rattle.placement_certificate.specs.Certificates.{CertificateValue, IsTrueLeast, conventional_entries}
use Rattle.placement_certificate.specs.Search.{better}
use Rattle.placement_certificate.proofs.BestBounds.{conventional_kept}
use Rattle.placement_certificate.proofs.Decided.{certificate_of, certificate_true, no_certificate}
use Rattle.placement_certificate.proofs.OneCertificate.{same_best}
use Rattle.placement_certificate.proofs.Places.{start_entry}
use Rattle.placement_certificate.proofs.Tries.{better_cases}
use Rattle.placement_chooser.specs.declared.offers.Offer.{Offer}
use Rattle.placement_chooser.specs.Starts.{IsCertifiedStart, IsGain, IsOfferOf, IsWantedFor, OffersBest}
use Rattle.placement_chooser.proofs.Entries.{kept_entry}
use Rattle.placement_chooser.proofs.Gains.{costs_too_much}

-- ---- lists of entries

-- the parts of two lists
member_parts : (xs ys : List Descriptor) (e : Descriptor) → Contains (xs ++ ys) e → Contains xs e ⊎ Contains ys e
member_parts [] ys e c = inr c
member_parts (x ∷ xs) ys e c = elim (member_cases x (xs ++ ys) e c) [
  | inl same ↦ inl (subst (λ d. Contains (x ∷ xs) d) same (member_first x xs))
  | inr later ↦ elim (member_parts xs ys e later) [ inl a ↦ inl (member_later x xs e a) | inr b ↦ inr b ]
]

all_filtered : (P : Descriptor → Type 0) (es : List Descriptor) → AllByRecursion P es → AllByRecursion P (filter (λ d. eqb d.mtype conventional) es)
all_filtered P [] a = tt
all_filtered P (e ∷ es) a = elim (cases_Bool (eqb e.mtype conventional)) [
  | inl t ↦ rw t (a.0, all_filtered P es a.1)
  | inr f ↦ rw f (all_filtered P es a.1)
]

order_filtered : (es : List Descriptor) → AreInOrder es → AreInOrder (filter (λ d. eqb d.mtype conventional) es)
order_filtered [] a = tt
order_filtered (e ∷ es) a = elim (cases_Bool (eqb e.mtype conventional)) [
  | inl t ↦ rw t (all_filtered (λ c. e.first + e.pages ≤ c.first) es a.0, order_filtered es a.1)
  | inr f ↦ rw f (order_filtered es a.1)
]

in_order : (m : List Page) → IsProperMemory m → AreInOrder (conventional_entries m)
in_order m proper = order_filtered (memory_map m) (map_blocks m proper.ascending).1

all_before : (xs : List Descriptor) (e : Descriptor) (ys : List Descriptor) → AreInOrder (xs ++ e ∷ ys) → AllByRecursion (λ d. d.first + d.pages ≤ e.first) xs
all_before [] e ys a = tt
all_before (x ∷ xs) e ys a = (member_all (λ c. x.first + x.pages ≤ c.first) (xs ++ e ∷ ys) e a.0 (member_right xs (e ∷ ys) e (member_first e ys)), all_before xs e ys a.1)

-- the last one of some lists
pub last_left : (xs ys zs : List Descriptor) (e : Descriptor) → ys ≡ zs ++ e ∷ [] → xs ++ ys ≡ (xs ++ zs) ++ e ∷ []
last_left xs ys zs e parts = ap (λ es. xs ++ es) parts ∙ sym (append_assoc xs zs (e ∷ []))

-- ---- a start that the best so far is no worse than

abbrev pub NotBeaten : List Page → Request → Option (ℕ × ℕ) → ℕ → Type 0
NotBeaten m r None q = ⊥
NotBeaten m r (Some (c, t)) q = (c ≤ price m r q) × (price m r q ≡ c → q ≤ t)

-- of none of the permitted starts in some entries is the best so far worse
abbrev pub AreTried : List Page → Request → Option (ℕ × ℕ) → List Descriptor → Type 0
AreTried m r o es = (e : Descriptor) → Contains es e → (q : ℕ) → IsIn e q → IsPermittedStart m r q → NotBeaten m r o q

-- it is a permitted start, with its price
abbrev pub IsFoundStart : List Page → Request → Option (ℕ × ℕ) → Type 0
IsFoundStart m r None = Unit {0}
IsFoundStart m r (Some (c, t)) = IsPermittedStart m r t × (price m r t ≡ c)

-- it lies above some entries
abbrev pub IsAbove : Option (ℕ × ℕ) → List Descriptor → Type 0
IsAbove None es = Unit {0}
IsAbove (Some (c, t)) es = AllByRecursion (λ e. e.first + e.pages ≤ t) es

better_left : (m : List Page) (r : Request) (o l : Option (ℕ × ℕ)) (q : ℕ) → NotBeaten m r o q → NotBeaten m r (better o l) q
better_left m r None l q n = absurd n
better_left m r (Some (c, t)) None q n = n
better_left m r (Some (c, t)) (Some (d, u)) q n = elim (better_cases c t d u) [
  | inl new ↦ rw new.0 (omega (arith, new.1, n.0), λ e. omega (arith, n.1 (omega (arith, e, new.1, n.0)), new.2 (omega (arith, e, new.1, n.0))))
  | inr old ↦ rw old.0 n
]

better_right : (m : List Page) (r : Request) (o l : Option (ℕ × ℕ)) (q : ℕ) → NotBeaten m r l q → NotBeaten m r (better o l) q
better_right m r o None q n = absurd n
better_right m r None (Some (d, u)) q n = n
better_right m r (Some (c, t)) (Some (d, u)) q n = elim (better_cases c t d u) [
  | inl new ↦ rw new.0 n
  | inr old ↦ rw old.0 (omega (arith, old.1, n.0), λ e. omega (arith, n.1 (omega (arith, e, old.1, n.0)), old.2 (omega (arith, e, old.1, n.0))))
]

least_tried : (m : List Page) (r : Request) (e : Descriptor) (l : Option (ℕ × ℕ)) (q : ℕ) → IsTrueLeast m r e l → IsIn e q → IsPermittedStart m r q → NotBeaten m r l q
least_tried m r e None q s i h = s q i h
least_tried m r e (Some (c, t)) q s i h = (omega (arith, s.0.lowest q i h, s.1), λ f. s.0.highest q i h (f ∙ sym s.1))

pub least_found : (m : List Page) (r : Request) (e : Descriptor) (l : Option (ℕ × ℕ)) → IsTrueLeast m r e l → IsFoundStart m r l
least_found m r e None s = tt
least_found m r e (Some (c, t)) s = (s.0.permitted, s.1)

least_above : (m : List Page) (r : Request) (e : Descriptor) (l : Option (ℕ × ℕ)) (es : List Descriptor) → IsTrueLeast m r e l → AllByRecursion (λ d. d.first + d.pages ≤ e.first) es → IsAbove l es
least_above m r e None es s a = tt
least_above m r e (Some (c, t)) [] s a = tt
least_above m r e (Some (c, t)) (d ∷ es) s a = (omega (arith, a.0, s.0.in_entry.low), least_above m r e (Some (c, t)) es s a.1)

-- what holds of two starts holds of the better one
pub better_keeps : (P : Option (ℕ × ℕ) → Type 0) (o l : Option (ℕ × ℕ)) → P o → P l → P (better o l)
better_keeps P None l a b = b
better_keeps P (Some (c, t)) None a b = a
better_keeps P (Some (c, t)) (Some (d, u)) a b = elim (better_cases c t d u) [ inl new ↦ rw new.0 b | inr old ↦ rw old.0 a ]

-- What is known when entries are left, and the others are done.
pub record IsBestSoFar (m : List Page) (r : Request) (o : Option (ℕ × ℕ)) (w : Wanted) (left : List Descriptor) : Type 0 where
  pub done : List Descriptor
  pub all : left ++ done ≡ conventional_entries m
  pub tried : AreTried m r o done
  pub found : IsFoundStart m r o
  pub above : IsAbove o left
  pub wanted : IsWantedFor r w

-- The same with an offer for the best start, and with what a placement must gain to be better.
pub record IsBestOffer (m : List Page) (r : Request) (b : Offer) (w : Wanted) (left : List Descriptor) : Type 0 where
  pub best : Option (ℕ × ℕ)
  pub offered : IsOfferOf (length (memory_map m)) best b
  pub gain : IsGain (length (memory_map m)) best w.gain
  pub so_far : IsBestSoFar m r best w left

-- ---- offers and prices

-- the offer that saves more is the better one
newer : (n : ℕ) (o l : Option (ℕ × ℕ)) (b c : Offer) → IsOfferOf n o b → IsOfferOf n l c → b.saving < c.saving → better o l ≡ l
newer n o None b c p q more = absurd (omega (arith, q, more))
newer n None (Some x) b c p q more = refl
newer n (Some (k, t)) (Some (d, u)) b c p q more = elim (better_cases k t d u) [ inl new ↦ new.0 | inr old ↦ absurd (omega (arith, old.1, p.0, q.0, more)) ]

-- where it saves no more, and lies in an entry below the best so far, that stays the best
older : (m : List Page) (r : Request) (e : Descriptor) (n : ℕ) (o l : Option (ℕ × ℕ)) (b c : Offer) → IsOfferOf n o b → IsOfferOf n l c → IsTrueLeast m r e l → IsAbove o (e ∷ []) → c.saving ≤ b.saving → better o l ≡ o
older m r e n None None b c p q least above less = refl
older m r e n None (Some (d, u)) b c p q least above less = absurd (omega (arith, p, q, less))
older m r e n (Some (k, t)) None b c p q least above less = refl
older m r e n (Some (k, t)) (Some (d, u)) b c p q least above less = elim (better_cases k t d u) [
  | inl new ↦ absurd (omega (arith, new.1, new.2 (omega (arith, new.1, p.0, q.0, less)), above.0, least.0.in_entry.high))
  | inr old ↦ old.0
]

-- what a placement must gain to be better than an offer
gain_of : (n : ℕ) (l : Option (ℕ × ℕ)) (c : Offer) (g : ℕ) → IsOfferOf n l c → g + 1 ≡ c.saving → IsGain n l g
gain_of n None c g p e = absurd (omega (arith, p, e))
gain_of n (Some (d, u)) c g p e = omega (arith, p.0, e)

-- ---- entries of no use

module _ (m : List Page) (r : Request) (proper : IsProperMemory m) (good : IsProperRequest r) where
  no_use_start : (o : Option (ℕ × ℕ)) (w : Wanted) (e : Descriptor) (q : ℕ) → IsWantedFor r w → IsGain (length (memory_map m)) o w.gain → IsAbove o (e ∷ []) → Contains (memory_map m) e → e.mtype ≡ conventional → IsOfNoUse m w e → IsIn e q → IsPermittedStart m r q → NotBeaten m r o q
  no_use_start None w e q is gain above entry free no_use i h = let t = costs_too_much m r e q proper good entry free i h w is.mtype is.pages is.limit no_use in omega (arith, gain, t.0)
  no_use_start (Some (c, t)) w e q is gain above entry free no_use i h =
      let s = costs_too_much m r e q proper good entry free i h w is.mtype is.pages is.limit no_use in
      (omega (arith, gain, s.1), λ f. omega (arith, above.0, i.high))

  above_one : (o : Option (ℕ × ℕ)) (es : List Descriptor) (e : Descriptor) → IsAbove o es → Contains es e → IsAbove o (e ∷ [])
  above_one None es e a c = tt
  above_one (Some (k, t)) es e a c = (member_all (λ d. d.first + d.pages ≤ t) es e a c, tt)

  above_left : (o : Option (ℕ × ℕ)) (xs ys : List Descriptor) → IsAbove o (xs ++ ys) → IsAbove o xs
  above_left None xs ys a = tt
  above_left (Some (k, t)) xs ys a = all_append_left (λ d. d.first + d.pages ≤ t) xs ys a

  -- a conventional entry of the map, with a start in it
  entry_of_start : (q : ℕ) → IsPermittedStart m r q → (e : Descriptor) × Contains (conventional_entries m) e × IsIn e q
  entry_of_start q h = let s = start_entry m r q proper good h in (s.0, conventional_kept (memory_map m) s.0 s.3 s.1, s.2)

  pub none_done : (b : Offer) (w : Wanted) (left : List Descriptor) → left ≡ conventional_entries m → IsWantedFor r w → b.saving ≡ 0 → w.gain ≡ 0 → IsBestOffer m r b w left
  none_done b w left all wanted none gain = record {
    best = None;
    offered = none;
    gain = gain;
    so_far = record { done = []; all = append-nil left ∙ all; tried = λ e c. absurd (member_none e c); found = tt; above = tt; wanted = wanted };
  }

  module _ (o : Option (ℕ × ℕ)) (w : Wanted) (left : List Descriptor) (gain : IsGain (length (memory_map m)) o w.gain) (so_far : IsBestSoFar m r o w left) where
    pub left_entry : (e : Descriptor) → Contains left e → Contains (memory_map m) e × (e.mtype ≡ conventional)
    left_entry e c = kept_entry (memory_map m) e (subst (λ es. Contains es e) so_far.all (member_left left so_far.done e c))

    passed_tried : (es : List Descriptor) → ((e : Descriptor) → Contains es e → Contains left e) → AllByRecursion (IsOfNoUse m w) es → AreTried m r o es
    passed_tried es within no_use e c q i h =
        let k = left_entry e (within e c) in
        no_use_start o w e q so_far.wanted gain (above_one o left e so_far.above (within e c)) k.0 k.1 (member_all (IsOfNoUse m w) es e no_use c) i h

    -- one entry more, and those above it that are passed
    pub one_more : (e : Descriptor) (passed new : List Descriptor) (l : Option (ℕ × ℕ)) (v : Wanted) → left ≡ new ++ e ∷ passed → AllByRecursion (IsOfNoUse m w) passed → IsTrueLeast m r e l → IsWantedFor r v → IsBestSoFar m r (better o l) v new
    one_more e passed new l v parts no_use least wanted =
        let order = in_order m proper in
        let all : new ++ (e ∷ passed ++ so_far.done) ≡ conventional_entries m = sym (append_assoc new (e ∷ passed) so_far.done) ∙ ap (λ es. es ++ so_far.done) (sym parts) ∙ so_far.all in
        let below = all_before new e (passed ++ so_far.done) (subst AreInOrder (sym all) order) in
        record {
          done = e ∷ passed ++ so_far.done;
          all = all;
          tried = λ d c q i h. elim (member_cases e (passed ++ so_far.done) d c) [
            | inl same ↦ better_right m r o l q (least_tried m r e l q least (subst (λ x. IsIn x q) (sym same) i) h)
            | inr later ↦ elim (member_parts passed so_far.done d later) [
              | inl p ↦ better_left m r o l q (passed_tried passed (λ x k. subst (λ es. Contains es x) (sym parts) (member_right new (e ∷ passed) x (member_later e passed x k))) no_use d p q i h)
              | inr k ↦ better_left m r o l q (so_far.tried d k q i h)
            ]
          ];
          found = better_keeps (IsFoundStart m r) o l so_far.found (least_found m r e l least);
          above = better_keeps (λ x. IsAbove x new) o l (above_left o new (e ∷ passed) (subst (IsAbove o) parts so_far.above)) (least_above m r e l new least below);
          wanted = wanted;
        }

    -- entries of no use are passed
    some_passed : (passed new : List Descriptor) → left ≡ new ++ passed → AllByRecursion (IsOfNoUse m w) passed → IsBestSoFar m r o w new
    some_passed passed new parts no_use = record {
      done = passed ++ so_far.done;
      all = sym (append_assoc new passed so_far.done) ∙ ap (λ es. es ++ so_far.done) (sym parts) ∙ so_far.all;
      tried = λ d c q i h. elim (member_parts passed so_far.done d c) [
        | inl p ↦ passed_tried passed (λ x k. subst (λ es. Contains es x) (sym parts) (member_right new passed x k)) no_use d p q i h
        | inr k ↦ so_far.tried d k q i h
      ];
      found = so_far.found;
      above = above_left o new passed (subst (IsAbove o) parts so_far.above);
      wanted = so_far.wanted;
    }

    -- all that are left are of no use
    all_tried : AllByRecursion (IsOfNoUse m w) left → (q : ℕ) → IsPermittedStart m r q → NotBeaten m r o q
    all_tried no_use q h =
        let s = entry_of_start q h in
        elim (member_parts left so_far.done s.0 (subst (λ es. Contains es s.0) (sym so_far.all) s.1)) [
          | inl a ↦ passed_tried left (λ x k. k) no_use s.0 a q s.2 h
          | inr b ↦ so_far.tried s.0 b q s.2 h
        ]

    pub best_start_is : (c t : ℕ) → o ≡ Some (c, t) → AllByRecursion (IsOfNoUse m w) left → IsBestStart m r t
    best_start_is c t e no_use =
        let found : IsFoundStart m r (Some (c, t)) = subst (IsFoundStart m r) e so_far.found in
        let tried : (q : ℕ) → IsPermittedStart m r q → NotBeaten m r (Some (c, t)) q = λ q h. subst (λ x. NotBeaten m r x q) e (all_tried no_use q h) in
        record {
          permitted = found.0;
          lowest = λ q h. omega (arith, (tried q h).0, found.1);
          highest = λ q h f. (tried q h).1 (f ∙ found.1);
        }

    pub no_start : o ≡ None → AllByRecursion (IsOfNoUse m w) left → (q : ℕ) → ¬ IsPermittedStart m r q
    no_start e no_use q h = subst (λ x. NotBeaten m r x q) e (all_tried no_use q h)

  -- ---- the certificate of the best start

  with_certificate : (t : ℕ) (o : Option CertificateValue) → certificate_of m r ≡ o → IsBestStart m r t → IsCertifiedStart m r t
  with_certificate t None e best = absurd (no_certificate m r proper good e t best.permitted)
  with_certificate t (Some c) e best =
      let is = certificate_true m r c proper good e in
      (c, is, same_best m r c.answer t is.answer best)

  pub certified : (t : ℕ) → IsBestStart m r t → IsCertifiedStart m r t
  certified t best = with_certificate t (certificate_of m r) refl best

  -- ---- offers

  certified_offer : (b : Offer) (w : Wanted) (left : List Descriptor) (o : Option (ℕ × ℕ)) → IsOfferOf (length (memory_map m)) o b → IsGain (length (memory_map m)) o w.gain → IsBestSoFar m r o w left → AllByRecursion (IsOfNoUse m w) left → b.saving ≢ 0 → IsCertifiedStart m r b.start
  certified_offer b w left None offered gain so_far no_use some = absurd (some offered)
  certified_offer b w left (Some (c, t)) offered gain so_far no_use some = subst (IsCertifiedStart m r) (sym offered.2) (certified t (best_start_is (Some (c, t)) w left gain so_far c t refl no_use))

  no_offer_start : (b : Offer) (w : Wanted) (left : List Descriptor) (o : Option (ℕ × ℕ)) → IsOfferOf (length (memory_map m)) o b → IsGain (length (memory_map m)) o w.gain → IsBestSoFar m r o w left → AllByRecursion (IsOfNoUse m w) left → b.saving ≡ 0 → (q : ℕ) → ¬ IsPermittedStart m r q
  no_offer_start b w left None offered gain so_far no_use none = no_start None w left gain so_far refl no_use
  no_offer_start b w left (Some (c, t)) offered gain so_far no_use none = absurd (omega (arith, offered.0, offered.1, none))

  module _ (b : Offer) (w : Wanted) (left : List Descriptor) (is : IsBestOffer m r b w left) where
    pub free_entry : (e : Descriptor) → Contains left e → Contains (memory_map m) e × (e.mtype ≡ conventional)
    free_entry e c = left_entry is.best w left is.gain is.so_far e c

    pub last_entry : (new : List Descriptor) (e : Descriptor) → left ≡ new ++ e ∷ [] → Contains (memory_map m) e × (e.mtype ≡ conventional)
    last_entry new e parts = free_entry e (subst (λ es. Contains es e) (sym parts) (member_right new (e ∷ []) e (member_first e [])))

    -- entries of no use are passed
    pub passed_offer : (passed new : List Descriptor) → left ≡ new ++ passed → AllByRecursion (IsOfNoUse m w) passed → IsBestOffer m r b w new
    passed_offer passed new parts no_use = record { best = is.best; offered = is.offered; gain = is.gain; so_far = some_passed is.best w left is.gain is.so_far passed new parts no_use }

    -- the offer of one entry more saves more
    pub better_offer : (e : Descriptor) (new : List Descriptor) (c : Offer) (v : Wanted) → left ≡ new ++ e ∷ [] → OffersBest m r w e c → b.saving < c.saving → IsWantedFor r v → v.gain + 1 ≡ c.saving → IsBestOffer m r c v new
    better_offer e new c v parts offer more wanted gain = elim offer [
      | inl l ↦ record {
        best = l.0;
        offered = l.2;
        gain = gain_of (length (memory_map m)) l.0 c v.gain l.2 gain;
        so_far = subst (λ o. IsBestSoFar m r o v new) (newer (length (memory_map m)) is.best l.0 b c is.offered l.2 more) (one_more is.best w left is.gain is.so_far e [] new l.0 v parts tt l.1 wanted);
      }
      | inr none ↦ absurd (omega (arith, none.0, more))
    ]

    -- or it does not
    pub kept_offer : (e : Descriptor) (new : List Descriptor) (c : Offer) → left ≡ new ++ e ∷ [] → OffersBest m r w e c → c.saving ≤ b.saving → IsBestOffer m r b w new
    kept_offer e new c parts offer less = elim offer [
      | inl l ↦
          let above = above_one is.best left e is.so_far.above (subst (λ es. Contains es e) (sym parts) (member_right new (e ∷ []) e (member_first e []))) in
          record {
            best = is.best;
            offered = is.offered;
            gain = is.gain;
            so_far = subst (λ o. IsBestSoFar m r o w new) (older m r e (length (memory_map m)) is.best l.0 b c is.offered l.2 l.1 above less) (one_more is.best w left is.gain is.so_far e [] new l.0 w parts tt l.1 is.so_far.wanted);
          }
      | inr none ↦ passed_offer (e ∷ []) new parts (none.1, tt)
    ]

    -- all that are left are of no use
    pub offer_is_best : AllByRecursion (IsOfNoUse m w) left → b.saving ≢ 0 → IsCertifiedStart m r b.start
    offer_is_best no_use some = certified_offer b w left is.best is.offered is.gain is.so_far no_use some

    pub no_offer : AllByRecursion (IsOfNoUse m w) left → b.saving ≡ 0 → (q : ℕ) → ¬ IsPermittedStart m r q
    no_offer no_use none = no_offer_start b w left is.best is.offered is.gain is.so_far no_use none
