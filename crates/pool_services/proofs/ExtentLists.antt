-- Lists of extents: the one at an index, the one that holds an address, and what changes in one of them.
use Rattle.std.proofs.Common.{◌≡◌, ℕ, zero, suc, ◌+◌, ◌-◌, ◌*◌, ◌/◌, ◌<◌, ◌≤◌, nat_le, Bool, true, false, cond, is_some, inl, inr, List, [], ◌∷◌, ◌++◌, length, take, drop, set, get_or, Option, Some, None, refl, sym, ap, ◌∙◌, arith, subst, eq-eqb, ne_eqb, le-leb}
use Rattle.std.specs.List.{AllByRecursion, insert}
use Rattle.std.specs.List.Sorted.{IsPartitionedBy, IsPartitionPoint}
use Rattle.std.specs.Int.{from_bool}
use Rattle.std.proofs.lemmas.Bool.{cases_lt, cases_eq, cases_Bool, false_from_ne_true, lt-leb, leb-false, true≢false}
use Rattle.std.proofs.lemmas.List.{set_split, take_rest}
use Rattle.raw_pool.specs.Blocks.{cells_for, longest_run, lowest_fit}
use Rattle.pool_services.specs.Extents.{Extent, Place, AreExtents, IsExtent, address_of, at_cell, begins_at, cell_of, cells_in, first_fit, fit_in, has_tail, or_else, place_of, replaced, tail_at, tail_in, with_blocks, with_extent, written, written_in}
use Rattle.pool_services.specs.Searches.{HasRoom, HoldsAddress, HasPage, IsAt, IsHolder, IsPageHolder, has_run, passing, place}
use Rattle.pool_services.proofs.CellBlocks.{cell-low, cell-high, tail-low, tail-high, fits}

-- ---- one of the extents

pub is-extent : (es : List Extent) (i : ℕ) (e : Extent) → AreExtents es → IsAt es i e → IsExtent e
is-extent [] i e a h = absurd (omega (arith, h.0))
is-extent (x ∷ xs) zero e a h = subst IsExtent (sym h.1) a.0
is-extent (x ∷ xs) (suc i) e a h = is-extent xs i e a.2 (omega (arith, h.0), h.1)

pub all-at : (P : Extent → Type 0) (es : List Extent) (i : ℕ) (e : Extent) → AllByRecursion P es → IsAt es i e → P e
all-at P [] i e a h = absurd (omega (arith, h.0))
all-at P (x ∷ xs) zero e a h = subst P (sym h.1) a.0
all-at P (x ∷ xs) (suc i) e a h = all-at P xs i e a.1 (omega (arith, h.0), h.1)

pub all-map : (P Q : Extent → Type 0) → ((x : Extent) → P x → Q x) → (xs : List Extent) → AllByRecursion P xs → AllByRecursion Q xs
all-map P Q f [] a = tt
all-map P Q f (x ∷ xs) a = (f x a.0, all-map P Q f xs a.1)

-- ---- how many begin at or below a page

-- once an item fails the test, all behind it do
abbrev pub Falls : {X : Type 0} → (X → Bool) → List X → Type 0
Falls p [] = Unit {0}
Falls p (x ∷ xs) = (p x ≡ false → AllByRecursion (λ y. p y ≡ false) xs) × Falls p xs

all-get : {X : Type 0} (P : X → Type 0) (xs : List X) (i : ℕ) (d : X) → i < length xs → AllByRecursion P xs → P (get_or xs i d)
all-get P [] i d l h = absurd (omega arith)
all-get P (x ∷ xs) zero d l h = h.0
all-get P (x ∷ xs) (suc i) d l h = all-get P xs i d (omega arith) h.1

pub partitioned : {X : Type 0} (p : X → Bool) (xs : List X) → Falls p xs → IsPartitionedBy p xs
partitioned p [] f i j d le l h = absurd (omega arith)
partitioned p (x ∷ xs) f zero zero d le l h = h
partitioned p (x ∷ xs) f zero (suc j) d le l h = elim (cases_Bool (p x)) [
  | inl e ↦ e
  | inr e ↦ let n = all-get (λ y. p y ≡ false) xs j d (omega arith) (f.0 e) in cc
]
partitioned p (x ∷ xs) f (suc i) zero d le l h = absurd (omega arith)
partitioned p (x ∷ xs) f (suc i) (suc j) d le l h = partitioned p xs f.1 i j d (omega arith) (omega arith) h

pub falls : (page : ℕ) (es : List Extent) → AreExtents es → Falls (λ (e : Extent). nat_le e.first page) es
falls page [] a = tt
falls page (e ∷ es) a = (
  λ n. let l : page < e.first = leb-false e.first page n in
      all-map (λ x. e.first + e.pages ≤ x.first) (λ x. nat_le x.first page ≡ false) (λ x h. lt-leb x.first page (omega (arith, h))) es a.1,
  falls page es a.2,
)

pub place-is : {X : Type 0} (p : X → Bool) (xs : List X) (i : ℕ) → i ≤ length xs → IsPartitionPoint (λ y. p y ≡ true) (λ y. p y ≡ false) xs i → i ≡ place p xs
place-is p [] i l h = omega arith
place-is p (x ∷ xs) zero l h = let e : p x ≡ false = h.1 0 x (omega arith) (omega arith) in rw e refl
place-is p (x ∷ xs) (suc i) l h =
    let e : p x ≡ true = h.0 0 x (omega arith) (omega arith) in
    rw e (ap (λ n. suc n) (place-is p xs i (omega arith) (λ k d a b. h.0 (suc k) d (omega arith) (omega arith), λ k d a b. h.1 (suc k) d (omega arith) (omega arith))))

none-passing : {X : Type 0} (p : X → Bool) (xs : List X) → ((k : ℕ) (d : X) → k < length xs → p (get_or xs k d) ≡ false) → passing p xs ≡ 0
none-passing p [] h = refl
none-passing p (x ∷ xs) h = rw (h 0 x (omega arith)) (none-passing p xs (λ k d l. h (suc k) d (omega (arith, l))))

none-of-all : {X : Type 0} (p : X → Bool) (n : ℕ) (xs : List X) → AllByRecursion (λ x. p x ≡ false) xs → (passing p xs ≡ 0) × (passing p (take n xs) ≡ 0)
none-of-all p zero [] a = (refl, refl)
none-of-all p (suc n) [] a = (refl, refl)
none-of-all p zero (x ∷ xs) a = (rw a.0 (none-of-all p zero xs a.1).0, refl)
none-of-all p (suc n) (x ∷ xs) a = rw a.0 (none-of-all p n xs a.1)

-- where an item passes, so do all before it
front-passes : {X : Type 0} (p : X → Bool) (half : ℕ) (xs : List X) (d : X) → Falls p xs → half < length xs → p (get_or xs half d) ≡ true → passing p xs ≡ half + passing p (drop half xs)
front-passes p half [] d f l e = absurd (omega arith)
front-passes p zero (x ∷ xs) d f l e = omega arith
front-passes p (suc half) (x ∷ xs) d f l e = elim (cases_Bool (p x)) [
  | inl s ↦ rw s (omega (arith, front-passes p half xs d f.1 (omega arith) e))
  | inr s ↦ let n : p (get_or xs half d) ≡ false = all-get (λ y. p y ≡ false) xs half d (omega arith) (f.0 s) in absurd (true≢false (sym e ∙ n))
]

-- where one fails, so do all behind it
rest-fails : {X : Type 0} (p : X → Bool) (half n : ℕ) (xs : List X) (d : X) → Falls p xs → half < length xs → half ≤ n → p (get_or xs half d) ≡ false → passing p xs ≡ passing p (take n xs)
rest-fails p half n [] d f l m e = absurd (omega arith)
rest-fails p zero n (x ∷ xs) d f l m e = let a = none-of-all p n (x ∷ xs) (e, f.0 e) in a.0 ∙ sym a.1
rest-fails p (suc half) zero (x ∷ xs) d f l m e = absurd (omega (arith, m))
rest-fails p (suc half) (suc n) (x ∷ xs) d f l m e = ap (λ k. cond (p x) (suc k) k) (rest-fails p half n xs d f.1 (omega arith) (omega (arith, m)) e)

-- how many pass, by the item in the middle and one half
pub half-passing : {X : Type 0} (p : X → Bool) (half bit n : ℕ) (xs : List X) (d : X) → Falls p xs → half < length xs → half + half ≤ length xs → bit ≡ from_bool (p (get_or xs half d)) → n ≡ length xs - half →
    passing p xs ≡ half * bit + passing p (take n (drop (half * bit) xs))
half-passing p half bit n xs d f l m q w = elim (cases_Bool (p (get_or xs half d))) [
  | inl e ↦
      let s : half * bit ≡ half = ap (λ k. half * k) (q ∙ ap from_bool e) ∙ omega arith in
      let r : take n (drop half xs) ≡ drop half xs = ap (λ k. take k (drop half xs)) w ∙ take_rest xs half in
      front-passes p half xs d f l e ∙ ap (λ ys. half + passing p ys) (sym r) ∙ ap (λ k. k + passing p (take n (drop k xs))) (sym s)
  | inr e ↦
      let s : half * bit ≡ 0 = ap (λ k. half * k) (q ∙ ap from_bool e) ∙ omega arith in
      let z : passing p (take n xs) ≡ 0 + passing p (take n (drop 0 xs)) = omega arith in
      rest-fails p half n xs d f l (omega (arith, m, w)) e ∙ z ∙ ap (λ k. k + passing p (take n (drop k xs))) (sym s)
]

-- where those that pass a test are at the front, as many pass as do there
pub passing-place : {X : Type 0} (p : X → Bool) (xs : List X) → IsPartitionedBy p xs → passing p xs ≡ place p xs
passing-place p [] h = refl
passing-place p (x ∷ xs) h =
    elim (cases_Bool (p x)) [
      | inl e ↦ rw e (ap (λ n. suc n) (passing-place p xs (λ i j d a b c. h (suc i) (suc j) d (omega (arith, a)) (omega (arith, b)) c)))
      | inr e ↦ rw e (none-passing p xs (λ k d l. false_from_ne_true (p (get_or xs k d)) (λ c. true≢false (sym (h 0 (suc k) d (omega arith) (omega (arith, l)) c) ∙ e))))
    ]

-- ---- the extent that holds a page or an address

pub none-below : (address : ℕ) (es : List Extent) → address < 8 → AllByRecursion (λ e. ¬ HoldsAddress e address) es
none-below address [] l = tt
none-below address (e ∷ es) l = ((λ h. omega (arith, l, h.0)), none-below address es l)

above-none : (page : ℕ) (es : List Extent) → AllByRecursion (λ e. page < e.first) es → AllByRecursion (λ e. ¬ HasPage e page) es
above-none page es a = all-map (λ e. page < e.first) (λ e. ¬ HasPage e page) (λ e u h. omega (arith, u, h.0)) es a

pub first-above : (page : ℕ) (es : List Extent) → AreExtents es → place (λ (e : Extent). nat_le e.first page) es ≡ 0 → AllByRecursion (λ e. ¬ HasPage e page) es
first-above page [] a n = tt
first-above page (e ∷ es) a n = elim (cases_lt page e.first) [
  | inl g ↦ ((λ h. omega (arith, g, h.0)), above-none page es (all-map (λ x. e.first + e.pages ≤ x.first) (λ x. page < x.first) (λ x h. omega (arith, g, h)) es a.1))
  | inr g ↦ let z : suc (place (λ (e : Extent). nat_le e.first page) es) ≡ 0 = rw (le-leb e.first page g) at n in absurd (omega arith)
]

counted : (page : ℕ) (x : Extent) (xs : List Extent) (i : ℕ) → place (λ (y : Extent). nat_le y.first page) (x ∷ xs) ≡ suc i → (x.first ≤ page) × (place (λ (y : Extent). nat_le y.first page) xs ≡ i)
counted page x xs i n = elim (cases_lt page x.first) [
  | inl g ↦ let z : 0 ≡ suc i = rw (lt-leb x.first page g) at n in absurd (omega arith)
  | inr g ↦ let s : suc (place (λ (y : Extent). nat_le y.first page) xs) ≡ suc i = rw (le-leb x.first page g) at n in (g, omega (arith, s))
]

-- the last that begins at or below a page
pub last-up-to : (page : ℕ) (es : List Extent) (i : ℕ) (e : Extent) → place (λ (x : Extent). nat_le x.first page) es ≡ suc i → IsAt es i e → e.first ≤ page
last-up-to page [] i e n h = absurd (omega (arith, h.0))
last-up-to page (x ∷ xs) zero e n h = let c = counted page x xs 0 n in omega (arith, c.0, ap (λ (y : Extent). y.first) h.1)
last-up-to page (x ∷ xs) (suc i) e n h = let c = counted page x xs (suc i) n in last-up-to page xs i e c.1 (omega (arith, h.0), h.1)

pub behind-none : (page : ℕ) (es : List Extent) (i : ℕ) (e : Extent) → AreExtents es → place (λ (x : Extent). nat_le x.first page) es ≡ suc i → IsAt es i e → e.first + e.pages ≤ page → AllByRecursion (λ e. ¬ HasPage e page) es
behind-none page [] i e a n h b = tt
behind-none page (x ∷ xs) zero e a n h b =
    let c = counted page x xs 0 n in
    let f = ap (λ (y : Extent). y.first + y.pages) h.1 in
    ((λ u. omega (arith, b, u.1, f)), first-above page xs a.2 c.1)
behind-none page (x ∷ xs) (suc i) e a n h b =
    let c = counted page x xs (suc i) n in
    let t : IsAt xs i e = (omega (arith, h.0), h.1) in
    let u = all-at (λ y. x.first + x.pages ≤ y.first) xs i e a.1 t in
    ((λ v. omega (arith, b, v.1, u)), behind-none page xs i e a.2 c.1 t b)

-- the extent that holds an address is that of its page
pub address-holder : (page address : ℕ) (es : List Extent) (o : Option ℕ) → 8 ≤ address → page ≡ (address - 8) / 4096 → IsPageHolder es page o → IsHolder es address o
address-holder page address es None l p h =
    all-map (λ e. ¬ HasPage e page) (λ e. ¬ HoldsAddress e address) (λ e n u. n (omega (arith, l, p, u.0), omega (arith, l, p, u.1))) es h
address-holder page address es (Some i) l p (e, t, u) = (e, t, (omega (arith, l, p, u.0), omega (arith, l, p, u.1)))

-- ---- blocks by addresses, in the extent that holds them

cell-elsewhere : (e : Extent) (address : ℕ) → IsExtent e → (¬ HoldsAddress e address) → cell_of e.first address e.blocks ≡ None
cell-elsewhere e address x n = elim (cases_lt address (address_of e.first 0)) [
  | inl l ↦ cell-low (cells_in e.pages) 0 e.first address e.blocks x.blocks l
  | inr l ↦ elim (cases_lt address (address_of e.first (cells_in e.pages))) [
    | inl h ↦ absurd (n (l, h))
    | inr h ↦ cell-high (cells_in e.pages) 0 e.first address e.blocks x.blocks h
  ]
]

pub tail-elsewhere : (e : Extent) (address : ℕ) → IsExtent e → (¬ HoldsAddress e address) → tail_in e.first address e.blocks ≡ None
tail-elsewhere e address x n = elim (cases_lt address (address_of e.first 0)) [
  | inl l ↦ tail-low (cells_in e.pages) 0 e.first address e.blocks x.blocks l
  | inr l ↦ elim (cases_lt address (address_of e.first (cells_in e.pages))) [
    | inl h ↦ absurd (n (l, h))
    | inr h ↦ tail-high (cells_in e.pages) 0 e.first address e.blocks x.blocks h
  ]
]

pub no-place : (address : ℕ) (es : List Extent) → AreExtents es → AllByRecursion (λ e. ¬ HoldsAddress e address) es → place_of address es ≡ None
no-place address [] a n = refl
no-place address (e ∷ es) a n = rw (cell-elsewhere e address a.0 n.0) (no-place address es a.2 n.1)

pub no-tail : (address : ℕ) (es : List Extent) → AreExtents es → AllByRecursion (λ e. ¬ HoldsAddress e address) es → tail_at address es ≡ None
no-tail address [] a n = refl
no-tail address (e ∷ es) a n = rw (tail-elsewhere e address a.0 n.0) (no-tail address es a.2 n.1)

-- extents above the one that holds an address do not
pub above-holder : (e : Extent) (address : ℕ) (es : List Extent) → HoldsAddress e address → AllByRecursion (λ x. e.first + e.pages ≤ x.first) es → AllByRecursion (λ x. ¬ HoldsAddress x address) es
above-holder e address es h a = all-map (λ x. e.first + e.pages ≤ x.first) (λ x. ¬ HoldsAddress x address) (λ x l u. omega (arith, l, h.1, u.0)) es a

pub below-holder : (x : Extent) (xs : List Extent) (i : ℕ) (e : Extent) (address : ℕ) → AllByRecursion (λ y. x.first + x.pages ≤ y.first) xs → IsAt xs i e → HoldsAddress e address → ¬ HoldsAddress x address
below-holder x xs i e address a t h = λ u. let l = all-at (λ y. x.first + x.pages ≤ y.first) xs i e a t in omega (arith, l, h.0, u.1)

or-none : (p : Option Place) → or_else p None ≡ p
or-none None = refl
or-none (Some x) = refl

pub place-here : (address : ℕ) (es : List Extent) (i : ℕ) (e : Extent) → AreExtents es → IsAt es i e → HoldsAddress e address → place_of address es ≡ at_cell e.first (cell_of e.first address e.blocks)
place-here address [] i e a h u = absurd (omega (arith, h.0))
place-here address (x ∷ xs) zero e a h u =
    let hx : HoldsAddress x address = subst (λ y. HoldsAddress y address) h.1 u in
    ap (λ (o : Option Place). or_else (at_cell x.first (cell_of x.first address x.blocks)) o) (no-place address xs a.2 (above-holder x address xs hx a.1))
    ∙ or-none (at_cell x.first (cell_of x.first address x.blocks))
    ∙ ap (λ (y : Extent). at_cell y.first (cell_of y.first address y.blocks)) (sym h.1)
place-here address (x ∷ xs) (suc i) e a h u =
    let t : IsAt xs i e = (omega (arith, h.0), h.1) in
    rw (cell-elsewhere x address a.0 (below-holder x xs i e address a.1 t u)) (place-here address xs i e a.2 t u)

tail-first : (o rest : Option (List ℕ)) → rest ≡ None → cond (is_some o) o rest ≡ o
tail-first None rest e = e
tail-first (Some t) rest e = refl

pub tail-here : (address : ℕ) (es : List Extent) (i : ℕ) (e : Extent) → AreExtents es → IsAt es i e → HoldsAddress e address → tail_at address es ≡ tail_in e.first address e.blocks
tail-here address [] i e a h u = absurd (omega (arith, h.0))
tail-here address (x ∷ xs) zero e a h u =
    let hx : HoldsAddress x address = subst (λ y. HoldsAddress y address) h.1 u in
    tail-first (tail_in x.first address x.blocks) (tail_at address xs) (no-tail address xs a.2 (above-holder x address xs hx a.1))
    ∙ ap (λ (y : Extent). tail_in y.first address y.blocks) (sym h.1)
tail-here address (x ∷ xs) (suc i) e a h u =
    let t : IsAt xs i e = (omega (arith, h.0), h.1) in
    rw (tail-elsewhere x address a.0 (below-holder x xs i e address a.1 t u)) (tail-here address xs i e a.2 t u)

-- ---- one extent replaced

pub replaced-at : (test : Extent → Bool) (by : Extent → List Extent) (es : List Extent) (i : ℕ) (e : Extent) → IsAt es i e → test e ≡ true → AllByRecursion (λ x. test x ≡ false) (take i es) →
    replaced test by es ≡ take i es ++ (by e ++ drop (suc i) es)
replaced-at test by [] i e h p a = absurd (omega (arith, h.0))
replaced-at test by (x ∷ xs) zero e h p a =
    let t : test x ≡ true = subst (λ y. test y ≡ true) h.1 p in
    rw t (ap (λ (y : Extent). by y ++ xs) (sym h.1))
replaced-at test by (x ∷ xs) (suc i) e h p a = rw a.0 (ap (λ (ys : List Extent). x ∷ ys) (replaced-at test by xs i e (omega (arith, h.0), h.1) p a.1))

pub begins-before : (es : List Extent) (i : ℕ) (e : Extent) → AreExtents es → IsAt es i e → AllByRecursion (λ x. begins_at e.first x ≡ false) (take i es)
begins-before [] i e a h = absurd (omega (arith, h.0))
begins-before (x ∷ xs) zero e a h = tt
begins-before (x ∷ xs) (suc i) e a h =
    let t : IsAt xs i e = (omega (arith, h.0), h.1) in
    let u = all-at (λ y. x.first + x.pages ≤ y.first) xs i e a.1 t in
    (ne_eqb x.first e.first (λ s. omega (arith, a.0.some)), begins-before xs i e a.2 t)

pub tail-before : (address : ℕ) (es : List Extent) (i : ℕ) (e : Extent) → AreExtents es → IsAt es i e → HoldsAddress e address → AllByRecursion (λ x. has_tail address x ≡ false) (take i es)
tail-before address [] i e a h u = absurd (omega (arith, h.0))
tail-before address (x ∷ xs) zero e a h u = tt
tail-before address (x ∷ xs) (suc i) e a h u =
    let t : IsAt xs i e = (omega (arith, h.0), h.1) in
    (ap (λ (o : Option (List ℕ)). is_some o) (tail-elsewhere x address a.0 (below-holder x xs i e address a.1 t u)), tail-before address xs i e a.2 t u)

-- the extent at an index has other blocks
pub set-is : (by : Extent → List Extent) (y : Extent) (es : List Extent) (i : ℕ) (e : Extent) → AreExtents es → IsAt es i e → by e ≡ y ∷ [] → set es i y ≡ replaced (begins_at e.first) by es
set-is by y es i e a h b =
    set_split es i y h.0 ∙ sym (ap (λ (ys : List Extent). take i es ++ (ys ++ drop (suc i) es)) b) ∙ sym (replaced-at (begins_at e.first) by es i e h (eq-eqb e.first e.first refl) (begins-before es i e a h))

pub gone-is : (by : Extent → List Extent) (es : List Extent) (i : ℕ) (e : Extent) → AreExtents es → IsAt es i e → by e ≡ [] → take i es ++ drop (suc i) es ≡ replaced (begins_at e.first) by es
gone-is by es i e a h b =
    sym (ap (λ (ys : List Extent). take i es ++ (ys ++ drop (suc i) es)) b) ∙ sym (replaced-at (begins_at e.first) by es i e h (eq-eqb e.first e.first refl) (begins-before es i e a h))

has-some : (count : ℕ) (o : Option (List ℕ)) → HasRoom count o → is_some o ≡ true
has-some count None r = absurd r
has-some count (Some t) r = refl

pub written-is : (address : ℕ) (bytes : List ℕ) (es : List Extent) (i : ℕ) (e : Extent) → AreExtents es → IsAt es i e → HoldsAddress e address → HasRoom (length bytes) (tail_in e.first address e.blocks) →
    set es i (with_blocks (written_in e.first address bytes e.blocks) e) ≡ written address bytes es
written-is address bytes es i e a h u r =
    set_split es i (with_blocks (written_in e.first address bytes e.blocks) e) h.0
    ∙ sym (replaced-at (has_tail address) (λ (x : Extent). with_blocks (written_in x.first address bytes x.blocks) x ∷ []) es i e h (has-some (length bytes) (tail_in e.first address e.blocks) r) (tail-before address es i e a h u))

pub set-same : (es : List Extent) (i : ℕ) (e : Extent) → IsAt es i e → set es i e ≡ es
set-same [] i e h = refl
set-same (x ∷ xs) zero e h = ap (λ (y : Extent). y ∷ xs) h.1
set-same (x ∷ xs) (suc i) e h = ap (λ (ys : List Extent). x ∷ ys) (set-same xs i e (omega (arith, h.0), h.1))

-- ---- extents stay apart

all-set : (P : Extent → Type 0) (es : List Extent) (i : ℕ) (y : Extent) → AllByRecursion P es → P y → AllByRecursion P (set es i y)
all-set P [] i y a p = tt
all-set P (x ∷ xs) zero y a p = (p, a.1)
all-set P (x ∷ xs) (suc i) y a p = (a.0, all-set P xs i y a.1 p)

pub are-set : (es : List Extent) (i : ℕ) (e y : Extent) → AreExtents es → IsAt es i e → IsExtent y → y.first ≡ e.first → y.pages ≡ e.pages → AreExtents (set es i y)
are-set [] i e y a h v f p = tt
are-set (x ∷ xs) zero e y a h v f p =
    let ends : y.first + y.pages ≡ x.first + x.pages = omega (arith, f, p, ap (λ (z : Extent). z.first + z.pages) h.1) in
    (v, all-map (λ z. x.first + x.pages ≤ z.first) (λ z. y.first + y.pages ≤ z.first) (λ z l. omega (arith, l, ends)) xs a.1, a.2)
are-set (x ∷ xs) (suc i) e y a h v f p =
    let t : IsAt xs i e = (omega (arith, h.0), h.1) in
    let l = all-at (λ z. x.first + x.pages ≤ z.first) xs i e a.1 t in
    (a.0, all-set (λ z. x.first + x.pages ≤ z.first) xs i y a.1 (omega (arith, l, f)), are-set xs i e y a.2 t v f p)

all-gone : (P : Extent → Type 0) (es : List Extent) (i : ℕ) → AllByRecursion P es → AllByRecursion P (take i es ++ drop (suc i) es)
all-gone P [] zero a = tt
all-gone P [] (suc i) a = tt
all-gone P (x ∷ xs) zero a = a.1
all-gone P (x ∷ xs) (suc i) a = (a.0, all-gone P xs i a.1)

pub are-gone : (es : List Extent) (i : ℕ) → AreExtents es → AreExtents (take i es ++ drop (suc i) es)
are-gone [] zero a = tt
are-gone [] (suc i) a = tt
are-gone (x ∷ xs) zero a = a.2
are-gone (x ∷ xs) (suc i) a = (a.0, all-gone (λ z. x.first + x.pages ≤ z.first) xs i a.1, are-gone xs i a.2)

pub insert-is : (e : Extent) (es : List Extent) → insert es (place (λ (x : Extent). nat_le x.first e.first) es) e ≡ with_extent e es
insert-is e [] = refl
insert-is e (x ∷ xs) = elim (cases_lt e.first x.first) [
  | inl l ↦ rw (lt-leb x.first e.first l) refl
  | inr l ↦ rw (le-leb x.first e.first l) (ap (λ (ys : List Extent). x ∷ ys) (insert-is e xs))
]

-- ---- first fit

is-none : (o : Option ℕ) → is_some o ≡ false → o ≡ None
is-none None e = refl
is-none (Some x) e = absurd cc

pub fit-none : (t size : ℕ) (es : List Extent) → AreExtents es → AllByRecursion (λ e. has_run t (cells_for size) e ≡ false) es → first_fit t size es ≡ None
fit-none t size [] a n = refl
fit-none t size (e ∷ es) a n = elim (cases_eq e.mtype t) [
  | inl s ↦
      let f = fits (cells_in e.pages) (cells_for size) 0 e.blocks (omega arith) a.0.blocks in
      let r : nat_le (cells_for size) (longest_run (cells_in e.pages) 0 e.blocks) ≡ false = rw (eq-eqb e.mtype t s) at n.0 in
      let z : lowest_fit (cells_in e.pages) (cells_for size) 0 e.blocks ≡ None = is-none (lowest_fit (cells_in e.pages) (cells_for size) 0 e.blocks) (f ∙ r) in
      rw (eq-eqb e.mtype t s, z) (fit-none t size es a.2 n.1)
  | inr s ↦ rw (ne_eqb e.mtype t s) (fit-none t size es a.2 n.1)
]

pub fit-here : (t size : ℕ) (es : List Extent) (i : ℕ) (e : Extent) (p : Place) → AreExtents es → IsAt es i e → e.mtype ≡ t → fit_in size e ≡ Some p → AllByRecursion (λ x. has_run t (cells_for size) x ≡ false) (take i es) →
    first_fit t size es ≡ Some p
fit-here t size [] i e p a h m f n = absurd (omega (arith, h.0))
fit-here t size (x ∷ xs) zero e p a h m f n =
    let mx : x.mtype ≡ t = sym (ap (λ (y : Extent). y.mtype) h.1) ∙ m in
    let fx : fit_in size x ≡ Some p = sym (ap (λ (y : Extent). fit_in size y) h.1) ∙ f in
    rw (eq-eqb x.mtype t mx) (ap (λ (o : Option Place). or_else o (first_fit t size xs)) fx)
fit-here t size (x ∷ xs) (suc i) e p a h m f n =
    let r = fit-here t size xs i e p a.2 (omega (arith, h.0), h.1) m f n.1 in
    elim (cases_eq x.mtype t) [
      | inl s ↦
          let g = fits (cells_in x.pages) (cells_for size) 0 x.blocks (omega arith) a.0.blocks in
          let q : nat_le (cells_for size) (longest_run (cells_in x.pages) 0 x.blocks) ≡ false = rw (eq-eqb x.mtype t s) at n.0 in
          let z : lowest_fit (cells_in x.pages) (cells_for size) 0 x.blocks ≡ None = is-none (lowest_fit (cells_in x.pages) (cells_for size) 0 x.blocks) (g ∙ q) in
          rw (eq-eqb x.mtype t s, z) r
      | inr s ↦ rw (ne_eqb x.mtype t s) r
    ]
