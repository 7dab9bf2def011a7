-- The pages of the pool, as a memory changes and as extents come and go.
use Rattle.std.proofs.Common.{◌≡◌, ◌⊎◌, ℕ, zero, suc, ◌+◌, ◌<◌, ◌≤◌, nat_le, nat_lt, Bool, true, false, cond, inl, inr, List, [], ◌∷◌, ◌++◌, take, drop, set, Option, Some, None, refl, sym, ap, ◌∙◌, arith, subst, lt-ltb, le-ltb, le-leb}
use Rattle.std.specs.List.{AllByRecursion}
use Rattle.std.specs.Option.{option_map}
use Rattle.std.proofs.lemmas.Bool.{cases_lt, cases_Bool, lt-leb, leb-true, ltb-true, and_from, and_parts, and_left, and_right}
use Rattle.page_ranges.specs.declared.ranges.Owner.{Owner}
use Rattle.page_ranges.specs.declared.ranges.Owner.TheVariants.{Given, Pages, Pool}
use Rattle.page_ranges.specs.declared.ranges.PageRange.{PageRange}
use Rattle.page_ranges.specs.MemoryTypes.{conventional}
use Rattle.page_ranges.specs.Memory.{Page, page_at, is_in_range, retyped, retyped_page, AllInRange, IsConventional, IsOwnedBy, IsPresent, IsProperMemory, IsProperPage}
use Rattle.page_ranges.specs.Runs.{is_same_owner}
use Rattle.page_ranges.proofs.Lookups.{page_at-number, page_at-all}
use Rattle.page_ranges.proofs.Retyped.{changed, page_at-retyped}
use Rattle.pool_services.specs.Extents.{Extent, AreExtents, IsExtent, range_of, with_extent, replaced}
use Rattle.pool_services.specs.PoolRules.{OwnsExtents, extent_type, pool_type}
use Rattle.pool_services.specs.Searches.{IsAt}
use Rattle.pool_services.proofs.ExtentLists.{all-at, all-map}

-- ---- ranges

pub in-range : (r : PageRange) (k : ℕ) → r.first ≤ k → k < r.first + r.pages → is_in_range r k ≡ true
in-range r k l h = and_from (nat_le r.first k) (nat_lt k (r.first + r.pages)) (le-leb r.first k l) (lt-ltb k (r.first + r.pages) h)

pub in-parts : (r : PageRange) (k : ℕ) → is_in_range r k ≡ true → (r.first ≤ k) × (k < r.first + r.pages)
in-parts r k e = let p = and_parts (nat_le r.first k) (nat_lt k (r.first + r.pages)) e in (leb-true r.first k p.0, ltb-true k (r.first + r.pages) p.1)

below-range : (r : PageRange) (k : ℕ) → k < r.first → is_in_range r k ≡ false
below-range r k l = and_left (nat_le r.first k) (nat_lt k (r.first + r.pages)) (lt-leb r.first k l)

behind-range : (r : PageRange) (k : ℕ) → r.first + r.pages ≤ k → is_in_range r k ≡ false
behind-range r k l = and_right (nat_le r.first k) (nat_lt k (r.first + r.pages)) (le-ltb k (r.first + r.pages) l)

-- ---- one page

page-outside : (range : PageRange) (t : ℕ) (o : Owner) (k : ℕ) (p : Option Page) → ((x : Page) → p ≡ Some x → x.number ≡ k) → is_in_range range k ≡ false → pool_type (option_map (changed range t o) p) ≡ pool_type p
page-outside range t o k None n e = refl
page-outside range t o k (Some x) n e =
    let f : is_in_range range x.number ≡ false = ap (λ (j : ℕ). is_in_range range j) (n x refl) ∙ e in
    let c : changed range t o x ≡ x = rw f refl in
    ap (λ (y : Page). pool_type (Some y)) c

page-inside : (range : PageRange) (t : ℕ) (o : Owner) (k : ℕ) (x : Page) → x.number ≡ k → is_in_range range k ≡ true → changed range t o x ≡ retyped_page t o x
page-inside range t o k x n e =
    let f : is_in_range range x.number ≡ true = ap (λ (j : ℕ). is_in_range range j) n ∙ e in
    rw f refl

page-other : (range : PageRange) (t : ℕ) (o : Owner) (k : ℕ) (p : Option Page) → ((x : Page) → p ≡ Some x → x.number ≡ k) → is_same_owner o Pool ≡ false → is_in_range range k ≡ true → pool_type (option_map (changed range t o) p) ≡ None
page-other range t o k None n s e = refl
page-other range t o k (Some x) n s e = ap (λ (y : Page). pool_type (Some y)) (page-inside range t o k x (n x refl) e) ∙ ap (λ (b : Bool). cond b (Some t) None) s

page-pool : (range : PageRange) (t : ℕ) (k : ℕ) (p : Option Page) → ((x : Page) → p ≡ Some x → x.number ≡ k) → IsPresent p → is_in_range range k ≡ true → pool_type (option_map (changed range t Pool) p) ≡ Some t
page-pool range t k None n s e = absurd s
page-pool range t k (Some x) n s e = ap (λ (y : Page). pool_type (Some y)) (page-inside range t Pool k x (n x refl) e)

pub outside : (range : PageRange) (t : ℕ) (o : Owner) (m : List Page) (k : ℕ) → is_in_range range k ≡ false → pool_type (page_at (retyped range t o m) k) ≡ pool_type (page_at m k)
outside range t o m k e = ap pool_type (page_at-retyped range t o m k) ∙ page-outside range t o k (page_at m k) (λ x h. page_at-number m k x h) e

pub inside : (range : PageRange) (t : ℕ) (o : Owner) (m : List Page) (k : ℕ) → is_same_owner o Pool ≡ false → is_in_range range k ≡ true → pool_type (page_at (retyped range t o m) k) ≡ None
inside range t o m k s e = ap pool_type (page_at-retyped range t o m k) ∙ page-other range t o k (page_at m k) (λ x h. page_at-number m k x h) s e

pub pooled : (range : PageRange) (t : ℕ) (m : List Page) (k : ℕ) → IsPresent (page_at m k) → is_in_range range k ≡ true → pool_type (page_at (retyped range t Pool m) k) ≡ Some t
pooled range t m k s e = ap pool_type (page_at-retyped range t Pool m k) ∙ page-pool range t k (page_at m k) (λ x h. page_at-number m k x h) s e

-- ---- pages that are not the pool's

conventional-none : (m : List Page) (k : ℕ) (p : Option Page) → IsProperMemory m → page_at m k ≡ p → IsConventional p → pool_type p ≡ None
conventional-none m k None proper e c = absurd c
conventional-none m k (Some x) proper e c =
    let g = (page_at-all IsProperPage m k x proper.each e).given c in
    ap (λ (o : Owner). cond (is_same_owner o Pool) (Some x.mtype) None) g

pages-none : (p : Option Page) → IsOwnedBy Pages p → pool_type p ≡ None
pages-none None c = absurd c
pages-none (Some x) c = ap (λ (o : Owner). cond (is_same_owner o Pool) (Some x.mtype) None) c

pub free-none : (m : List Page) (range : PageRange) → IsProperMemory m → AllInRange m range IsConventional → (k : ℕ) → is_in_range range k ≡ true → pool_type (page_at m k) ≡ None
free-none m range proper free k e = let p = in-parts range k e in conventional-none m k (page_at m k) proper refl (free k p.0 p.1)

pub allocated-none : (m : List Page) (range : PageRange) → AllInRange m range (IsOwnedBy Pages) → (k : ℕ) → is_in_range range k ≡ true → pool_type (page_at m k) ≡ None
allocated-none m range owned k e = let p = in-parts range k e in pages-none (page_at m k) (owned k p.0 p.1)

-- pages that are not the pool's are given an owner that is not the pool
pub others-keep : (m : List Page) (es : List Extent) (range : PageRange) (t : ℕ) (o : Owner) → OwnsExtents m es → is_same_owner o Pool ≡ false → ((k : ℕ) → is_in_range range k ≡ true → pool_type (page_at m k) ≡ None) →
    OwnsExtents (retyped range t o m) es
others-keep m es range t o owns s none k = elim (cases_Bool (is_in_range range k)) [
  | inl e ↦ inside range t o m k s e ∙ sym (none k e) ∙ owns k
  | inr e ↦ outside range t o m k e ∙ owns k
]

-- ---- the extents that have a page

above-type : (k : ℕ) (es : List Extent) → AllByRecursion (λ (x : Extent). k < x.first) es → extent_type k es ≡ None
above-type k [] a = refl
above-type k (x ∷ xs) a = rw (below-range (range_of x) k a.0) (above-type k xs a.1)

pub here-type : (k : ℕ) (es : List Extent) (i : ℕ) (e : Extent) → AreExtents es → IsAt es i e → is_in_range (range_of e) k ≡ true → extent_type k es ≡ Some e.mtype
here-type k [] i e a h r = absurd (omega (arith, h.0))
here-type k (x ∷ xs) zero e a h r =
    let f : is_in_range (range_of x) k ≡ true = subst (λ (y : Extent). is_in_range (range_of y) k ≡ true) h.1 r in
    rw f (ap (λ (y : Extent). Some y.mtype) (sym h.1))
here-type k (x ∷ xs) (suc i) e a h r =
    let t : IsAt xs i e = (omega (arith, h.0), h.1) in
    let l = all-at (λ y. x.first + x.pages ≤ y.first) xs i e a.1 t in
    let p = in-parts (range_of e) k r in
    rw (behind-range (range_of x) k (omega (arith, l, p.0))) (here-type k xs i e a.2 t r)

pub gone-type : (k : ℕ) (es : List Extent) (i : ℕ) (e : Extent) → AreExtents es → IsAt es i e → is_in_range (range_of e) k ≡ true → extent_type k (take i es ++ drop (suc i) es) ≡ None
gone-type k [] i e a h r = absurd (omega (arith, h.0))
gone-type k (x ∷ xs) zero e a h r =
    let p = in-parts (range_of e) k r in
    let f = ap (λ (y : Extent). y.first + y.pages) h.1 in
    above-type k xs (all-map (λ y. x.first + x.pages ≤ y.first) (λ y. k < y.first) (λ y l. omega (arith, l, p.1, f)) xs a.1)
gone-type k (x ∷ xs) (suc i) e a h r =
    let t : IsAt xs i e = (omega (arith, h.0), h.1) in
    let l = all-at (λ y. x.first + x.pages ≤ y.first) xs i e a.1 t in
    let p = in-parts (range_of e) k r in
    rw (behind-range (range_of x) k (omega (arith, l, p.0))) (gone-type k xs i e a.2 t r)

pub kept-type : (k : ℕ) (es : List Extent) (i : ℕ) (e : Extent) → IsAt es i e → is_in_range (range_of e) k ≡ false → extent_type k (take i es ++ drop (suc i) es) ≡ extent_type k es
kept-type k [] i e h r = absurd (omega (arith, h.0))
kept-type k (x ∷ xs) zero e h r =
    let f : is_in_range (range_of x) k ≡ false = subst (λ (y : Extent). is_in_range (range_of y) k ≡ false) h.1 r in
    rw f refl
kept-type k (x ∷ xs) (suc i) e h r = ap (λ (o : Option ℕ). cond (is_in_range (range_of x) k) (Some x.mtype) o) (kept-type k xs i e (omega (arith, h.0), h.1) r)

pub set-type : (k : ℕ) (es : List Extent) (i : ℕ) (e y : Extent) → IsAt es i e → range_of y ≡ range_of e → y.mtype ≡ e.mtype → extent_type k (set es i y) ≡ extent_type k es
set-type k [] i e y h r m = refl
set-type k (x ∷ xs) zero e y h r m =
    let rx : range_of y ≡ range_of x = r ∙ ap range_of h.1 in
    let mx : y.mtype ≡ x.mtype = m ∙ ap (λ (z : Extent). z.mtype) h.1 in
    ap (λ (z : PageRange). cond (is_in_range z k) (Some y.mtype) (extent_type k xs)) rx ∙ ap (λ (z : ℕ). cond (is_in_range (range_of x) k) (Some z) (extent_type k xs)) mx
set-type k (x ∷ xs) (suc i) e y h r m = ap (λ (o : Option ℕ). cond (is_in_range (range_of x) k) (Some x.mtype) o) (set-type k xs i e y (omega (arith, h.0), h.1) r m)

with-later : (k : ℕ) (e x : Extent) (xs : List Extent) (b : Bool) → is_in_range (range_of x) k ≡ b → (is_in_range (range_of e) k ≡ true → cond (is_in_range (range_of x) k) (Some x.mtype) (extent_type k xs) ≡ None) →
    ((is_in_range (range_of e) k ≡ true → extent_type k xs ≡ None) → extent_type k (with_extent e xs) ≡ cond (is_in_range (range_of e) k) (Some e.mtype) (extent_type k xs)) →
    cond (is_in_range (range_of x) k) (Some x.mtype) (extent_type k (with_extent e xs)) ≡ cond (is_in_range (range_of e) k) (Some e.mtype) (cond (is_in_range (range_of x) k) (Some x.mtype) (extent_type k xs))
with-later k e x xs true b n f = elim (cases_Bool (is_in_range (range_of e) k)) [
  | inl u ↦ let z : Some x.mtype ≡ None = rw b at (n u) in absurd cc
  | inr u ↦ rw (b, u) refl
]
with-later k e x xs false b n f =
    let m : is_in_range (range_of e) k ≡ true → extent_type k xs ≡ None = λ u. rw b at (n u) in
    rw b (f m)

pub with-type : (k : ℕ) (e : Extent) (es : List Extent) → (is_in_range (range_of e) k ≡ true → extent_type k es ≡ None) → extent_type k (with_extent e es) ≡ cond (is_in_range (range_of e) k) (Some e.mtype) (extent_type k es)
with-type k e [] n = refl
with-type k e (x ∷ xs) n = elim (cases_lt e.first x.first) [
  | inl l ↦ rw (lt-leb x.first e.first l) refl
  | inr l ↦ rw (le-leb x.first e.first l) (with-later k e x xs (is_in_range (range_of x) k) refl n (λ m. with-type k e xs m))
]

-- ---- a new extent

not-here : (k : ℕ) (x : Extent) (xs : List Extent) → extent_type k (x ∷ xs) ≡ None → is_in_range (range_of x) k ≡ false
not-here k x xs n = elim (cases_Bool (is_in_range (range_of x) k)) [
  | inl e ↦ let z : Some x.mtype ≡ None = rw e at n in absurd cc
  | inr e ↦ e
]

not-later : (k : ℕ) (x : Extent) (xs : List Extent) → extent_type k (x ∷ xs) ≡ None → extent_type k xs ≡ None
not-later k x xs n = rw (not-here k x xs n) at n

one-apart : (e x : Extent) → 0 < e.pages → 0 < x.pages → ((k : ℕ) → is_in_range (range_of e) k ≡ true → is_in_range (range_of x) k ≡ false) → (x.first + x.pages ≤ e.first) ⊎ (e.first + e.pages ≤ x.first)
one-apart e x s t n = elim (cases_lt e.first (x.first + x.pages)) [
  | inl l ↦ elim (cases_lt x.first (e.first + e.pages)) [
    | inl h ↦ elim (cases_lt e.first x.first) [
      | inl u ↦ let f = n x.first (in-range (range_of e) x.first (omega arith) h) in let g = in-range (range_of x) x.first (omega arith) (omega arith) in absurd cc
      | inr u ↦ let f = n e.first (in-range (range_of e) e.first (omega arith) (omega arith)) in let g = in-range (range_of x) e.first u l in absurd cc
    ]
    | inr h ↦ inr h
  ]
  | inr l ↦ inl l
]

-- the extents of which none has a page of the new one lie below or above it
pub apart : (e : Extent) (es : List Extent) → 0 < e.pages → AreExtents es → ((k : ℕ) → is_in_range (range_of e) k ≡ true → extent_type k es ≡ None) →
    AllByRecursion (λ x. (x.first + x.pages ≤ e.first) ⊎ (e.first + e.pages ≤ x.first)) es
apart e [] s a n = tt
apart e (x ∷ xs) s a n = (one-apart e x s a.0.some (λ k u. not-here k x xs (n k u)), apart e xs s a.2 (λ k u. not-later k x xs (n k u)))

all-with : (P : Extent → Type 0) (e : Extent) (es : List Extent) → P e → AllByRecursion P es → AllByRecursion P (with_extent e es)
all-with P e [] p a = (p, tt)
all-with P e (x ∷ xs) p a = elim (cases_lt e.first x.first) [
  | inl l ↦ rw (lt-leb x.first e.first l) (p, a)
  | inr l ↦ rw (le-leb x.first e.first l) (a.0, all-with P e xs p a.1)
]

are-inserted : (e : Extent) (es : List Extent) → IsExtent e → AreExtents es → AllByRecursion (λ x. (x.first + x.pages ≤ e.first) ⊎ (e.first + e.pages ≤ x.first)) es → AreExtents (with_extent e es)
are-inserted e [] v a n = (v, tt, tt)
are-inserted e (x ∷ xs) v a n = elim (cases_lt e.first x.first) [
  | inl l ↦
      let up : e.first + e.pages ≤ x.first = elim n.0 [ inl u ↦ absurd (omega arith) | inr u ↦ u ] in
      rw (lt-leb x.first e.first l) (v, (up, all-map (λ y. x.first + x.pages ≤ y.first) (λ y. e.first + e.pages ≤ y.first) (λ y h. omega (arith, h, up)) xs a.1), a)
  | inr l ↦
      let down : x.first + x.pages ≤ e.first = elim n.0 [ inl u ↦ u | inr u ↦ absurd (omega (arith, v.some)) ] in
      rw (le-leb x.first e.first l) (a.0, all-with (λ y. x.first + x.pages ≤ y.first) e xs down a.1, are-inserted e xs v a.2 n.1)
]

-- pages that were free are an extent's
pub are-more : (m : List Page) (e : Extent) (es : List Extent) → IsExtent e → AreExtents es → OwnsExtents m es → IsProperMemory m → AllInRange m (range_of e) IsConventional → AreExtents (with_extent e es)
are-more m e es v a owns proper free =
    are-inserted e es v a (apart e es v.some a (λ k u. sym (owns k) ∙ free-none m (range_of e) proper free k u))

present : (p : Option Page) → IsConventional p → IsPresent p
present None c = c
present (Some x) c = tt

pub owns-more : (m : List Page) (e : Extent) (es : List Extent) → OwnsExtents m es → IsProperMemory m → AllInRange m (range_of e) IsConventional → OwnsExtents (retyped (range_of e) e.mtype Pool m) (with_extent e es)
owns-more m e es owns proper free k =
    let none : is_in_range (range_of e) k ≡ true → extent_type k es ≡ None = λ u. sym (owns k) ∙ free-none m (range_of e) proper free k u in
    elim (cases_Bool (is_in_range (range_of e) k)) [
      | inl u ↦
          let p = in-parts (range_of e) k u in
          pooled (range_of e) e.mtype m k (present (page_at m k) (free k p.0 p.1)) u ∙ sym (with-type k e es none ∙ ap (λ (b : Bool). cond b (Some e.mtype) (extent_type k es)) u)
      | inr u ↦ outside (range_of e) e.mtype Pool m k u ∙ owns k ∙ sym (with-type k e es none ∙ ap (λ (b : Bool). cond b (Some e.mtype) (extent_type k es)) u)
    ]

-- ---- an extent that ends

pooled-by : (t : ℕ) (x : Page) (o : Owner) → x.owner ≡ o → cond (is_same_owner x.owner Pool) (Some x.mtype) None ≡ Some t → x.owner ≡ Pool
pooled-by t x Given h e = let z : None ≡ Some t = rw h at e in absurd cc
pooled-by t x Pages h e = let z : None ≡ Some t = rw h at e in absurd cc
pooled-by t x Pool h e = h

pooled-owner : (t : ℕ) (p : Option Page) → pool_type p ≡ Some t → IsOwnedBy Pool p
pooled-owner t None e = absurd cc
pooled-owner t (Some x) e = pooled-by t x x.owner refl e

pub owned-extent : (m : List Page) (es : List Extent) (i : ℕ) (e : Extent) → AreExtents es → OwnsExtents m es → IsAt es i e → AllInRange m (range_of e) (IsOwnedBy Pool)
owned-extent m es i e a owns h k l u = pooled-owner e.mtype (page_at m k) (owns k ∙ here-type k es i e a h (in-range (range_of e) k l u))

pub owns-less : (m : List Page) (es : List Extent) (i : ℕ) (e : Extent) → AreExtents es → OwnsExtents m es → IsAt es i e → OwnsExtents (retyped (range_of e) conventional Given m) (take i es ++ drop (suc i) es)
owns-less m es i e a owns h k = elim (cases_Bool (is_in_range (range_of e) k)) [
  | inl u ↦ inside (range_of e) conventional Given m k refl u ∙ sym (gone-type k es i e a h u)
  | inr u ↦ outside (range_of e) conventional Given m k u ∙ owns k ∙ sym (kept-type k es i e h u)
]

-- ---- extents with other blocks

pub replaced-type : (k : ℕ) (test : Extent → Bool) (by : Extent → Extent) (es : List Extent) → ((e : Extent) → range_of (by e) ≡ range_of e) → ((e : Extent) → (by e).mtype ≡ e.mtype) → extent_type k (replaced test (λ e. by e ∷ []) es) ≡ extent_type k es
replaced-type k test by [] r m = refl
replaced-type k test by (e ∷ es) r m = elim (cases_Bool (test e)) [
  | inl u ↦ rw u (ap (λ (z : PageRange). cond (is_in_range z k) (Some (by e).mtype) (extent_type k es)) (r e) ∙ ap (λ (z : ℕ). cond (is_in_range (range_of e) k) (Some z) (extent_type k es)) (m e))
  | inr u ↦ rw u (ap (λ (o : Option ℕ). cond (is_in_range (range_of e) k) (Some e.mtype) o) (replaced-type k test by es r m))
]
