-- Lists in order: where a test stops passing, what is found there, and what insertions, filters and changes keep.
use Rattle.std.proofs.Math.Seq.{drop-cons}
use Rattle.std.proofs.Math.ListN.{set}
use Rattle.std.proofs.Common.{add-one, ◌≡◌, ◌⊎◌, ℕ, zero, suc, ◌+◌, ◌-◌, ◌<◌, ◌≤◌, ◌==◌, ◌||◌, nat_lt, not, subst, Bool, true, false, cond, List, [], ◌∷◌, ◌++◌, map, length, drop, get_or, Some, None, is_some, inl, inr, refl, sym, ap, ◌∙◌, arith}
use Rattle.std.specs.List.{filter, find, list_any, AllByRecursion, slice_get, insert, remove}
use Rattle.std.specs.List.Sorted.{IsPartitionedBy, IsPartitionPoint}
use Rattle.std.specs.Option.{option_map}
use Rattle.std.specs.declared.cmp.Ordering.{Ordering}
use Rattle.std.specs.declared.cmp.Ordering.TheVariants.{Less, Equal, Greater}
use Rattle.std.proofs.lemmas.Bool.{cases_Bool, ne_eqb, ltb-false, le-ltb, lt-ltb}
use Rattle.std.proofs.lemmas.Bool.Decides.{eqb_tells}
use Rattle.std.proofs.lemmas.Option.{same_Some}
use Rattle.guid_handles.specs.HandleTables.{written_over}
use Rattle.guid_handles.specs.Sorting.{Ascending, place, kept_if}

-- ---- all items

pub all_map : {X : Type 0} (P Q : X → Type 0) → ((x : X) → P x → Q x) → (xs : List X) → AllByRecursion P xs → AllByRecursion Q xs
all_map P Q f [] h = tt
all_map P Q f (x ∷ xs) h = (f x h.0, all_map P Q f xs h.1)

pub all_both : {X : Type 0} (P Q R : X → Type 0) → ((x : X) → P x → Q x → R x) → (xs : List X) → AllByRecursion P xs → AllByRecursion Q xs → AllByRecursion R xs
all_both P Q R f [] h k = tt
all_both P Q R f (x ∷ xs) h k = (f x h.0 k.0, all_both P Q R f xs h.1 k.1)

pub all_filter : {X : Type 0} (P : X → Type 0) (p : X → Bool) (xs : List X) → AllByRecursion P xs → AllByRecursion P (filter p xs)
all_filter P p [] h = tt
all_filter P p (x ∷ xs) h = elim (cases_Bool (p x)) [
  | inl e ↦ rw e (h.0, all_filter P p xs h.1)
  | inr e ↦ rw e (all_filter P p xs h.1)
]

pub all_mapped : {X Y : Type 0} (P : Y → Type 0) (Q : X → Type 0) (f : X → Y) → ((x : X) → Q x → P (f x)) → (xs : List X) → AllByRecursion Q xs → AllByRecursion P (map f xs)
all_mapped P Q f g [] h = tt
all_mapped P Q f g (x ∷ xs) h = (g x h.0, all_mapped P Q f g xs h.1)

pub all_under : {X Y : Type 0} (f : X → Y) (P : Y → Type 0) (xs : List X) → AllByRecursion P (map f xs) → AllByRecursion (λ x. P (f x)) xs
all_under f P [] h = tt
all_under f P (x ∷ xs) h = (h.0, all_under f P xs h.1)

pub all_push : {X : Type 0} (P : X → Type 0) (xs : List X) (y : X) → AllByRecursion P xs → P y → AllByRecursion P (xs ++ y ∷ [])
all_push P [] y h p = (p, tt)
all_push P (x ∷ xs) y h p = (h.0, all_push P xs y h.1 p)

pub all_insert : {X : Type 0} (P : X → Type 0) (xs : List X) (i : ℕ) (y : X) → AllByRecursion P xs → P y → AllByRecursion P (insert xs i y)
all_insert P [] zero y h p = (p, tt)
all_insert P [] (suc i) y h p = (p, tt)
all_insert P (x ∷ xs) zero y h p = (p, h)
all_insert P (x ∷ xs) (suc i) y h p = (h.0, all_insert P xs i y h.1 p)

all_get : {X : Type 0} (P : X → Type 0) (xs : List X) (i : ℕ) (d : X) → i < length xs → AllByRecursion P xs → P (get_or xs i d)
all_get P [] i d l h = absurd (omega arith)
all_get P (x ∷ xs) zero d l h = h.0
all_get P (x ∷ xs) (suc i) d l h = all_get P xs i d (omega arith) h.1

-- ---- where a test stops passing

-- once an item fails the test, all after it do
abbrev pub Falls : {X : Type 0} → (X → Bool) → List X → Type 0
Falls p [] = Unit {0}
Falls p (x ∷ xs) = (p x ≡ false → AllByRecursion (λ y. p y ≡ false) xs) × Falls p xs

pub partitioned : {X : Type 0} (p : X → Bool) (xs : List X) → Falls p xs → IsPartitionedBy p xs
partitioned p [] f i j d le l h = absurd (omega arith)
partitioned p (x ∷ xs) f zero zero d le l h = h
partitioned p (x ∷ xs) f zero (suc j) d le l h = elim (cases_Bool (p x)) [
  | inl e ↦ e
  | inr e ↦ let n = all_get (λ y. p y ≡ false) xs j d (omega arith) (f.0 e) in cc
]
partitioned p (x ∷ xs) f (suc i) zero d le l h = absurd (omega arith)
partitioned p (x ∷ xs) f (suc i) (suc j) d le l h = partitioned p xs f.1 i j d (omega arith) (omega arith) h

pub place_is : {X : Type 0} (p : X → Bool) (xs : List X) (i : ℕ) → i ≤ length xs → IsPartitionPoint (λ y. p y ≡ true) (λ y. p y ≡ false) xs i → i ≡ place p xs
place_is p [] i l h = omega arith
place_is p (x ∷ xs) zero l h = let e : p x ≡ false = h.1 0 x (omega arith) (omega arith) in rw e refl
place_is p (x ∷ xs) (suc i) l h =
    let e : p x ≡ true = h.0 0 x (omega arith) (omega arith) in
    rw e (ap (λ n. suc n) (place_is p xs i (omega arith) (λ k d a b. h.0 (suc k) d (omega arith) (omega arith), λ k d a b. h.1 (suc k) d (omega arith) (omega arith))))

pub place_map : {X Y : Type 0} (f : X → Y) (p : Y → Bool) (xs : List X) → place p (map f xs) ≡ place (λ x. p (f x)) xs
place_map f p [] = refl
place_map f p (x ∷ xs) = ap (λ r. cond (p (f x)) (suc r) 0) (place_map f p xs)

-- ---- what is found

pub find_none : {X : Type 0} (q : X → Bool) (xs : List X) → AllByRecursion (λ y. q y ≡ false) xs → find q xs ≡ None
find_none q [] h = refl
find_none q (x ∷ xs) h = rw h.0 (find_none q xs h.1)

pub found_none : {X : Type 0} (q : X → Bool) (xs : List X) → find q xs ≡ None → AllByRecursion (λ y. q y ≡ false) xs
found_none q [] h = tt
found_none q (x ∷ xs) h = elim (cases_Bool (q x)) [
  | inl e ↦ let n = rw e at h in cc
  | inr e ↦ (e, found_none q xs (rw e at h))
]

-- those before do not tie, and after the first that is not before none ties
abbrev pub IsSplit : {X : Type 0} → (X → Bool) → (X → Bool) → List X → Type 0
IsSplit before tie [] = Unit {0}
IsSplit before tie (x ∷ xs) = (before x ≡ true → tie x ≡ false) × (before x ≡ false → AllByRecursion (λ y. tie y ≡ false) xs) × IsSplit before tie xs

pub find_split : {X : Type 0} (before tie : X → Bool) (xs : List X) → IsSplit before tie xs → find tie xs ≡ kept_if tie (slice_get xs (place before xs))
find_split before tie [] h = refl
find_split before tie (x ∷ xs) h = elim (cases_Bool (before x)) [
  | inl e ↦ rw e (rw (h.0 e) (find_split before tie xs h.2))
  | inr e ↦ rw e (rw (find_none tie xs (h.1 e)) refl)
]

pub find_insert_other : {X : Type 0} (q : X → Bool) (xs : List X) (i : ℕ) (y : X) → q y ≡ false → find q (insert xs i y) ≡ find q xs
find_insert_other q [] zero y h = rw h refl
find_insert_other q [] (suc i) y h = rw h refl
find_insert_other q (x ∷ xs) zero y h = rw h refl
find_insert_other q (x ∷ xs) (suc i) y h = ap (λ r. cond (q x) (Some x) r) (find_insert_other q xs i y h)

pub find_insert_new : {X : Type 0} (q : X → Bool) (xs : List X) (i : ℕ) (y : X) → q y ≡ true → find q xs ≡ None → find q (insert xs i y) ≡ Some y
find_insert_new q [] zero y h n = rw h refl
find_insert_new q [] (suc i) y h n = rw h refl
find_insert_new q (x ∷ xs) zero y h n = rw h refl
find_insert_new q (x ∷ xs) (suc i) y h n = let a = found_none q (x ∷ xs) n in rw a.0 (find_insert_new q xs i y h (find_none q xs a.1))

pub find_push_other : {X : Type 0} (q : X → Bool) (xs : List X) (y : X) → q y ≡ false → find q (xs ++ y ∷ []) ≡ find q xs
find_push_other q [] y h = rw h refl
find_push_other q (x ∷ xs) y h = ap (λ r. cond (q x) (Some x) r) (find_push_other q xs y h)

pub find_push_new : {X : Type 0} (q : X → Bool) (xs : List X) (y : X) → q y ≡ true → find q xs ≡ None → find q (xs ++ y ∷ []) ≡ Some y
find_push_new q [] y h n = rw h refl
find_push_new q (x ∷ xs) y h n = let a = found_none q (x ∷ xs) n in rw a.0 (find_push_new q xs y h (find_none q xs a.1))

-- a filter that answers the same for all that the test may find
pub find_filter : {X : Type 0} (q p : X → Bool) (b : Bool) → ((x : X) → q x ≡ true → p x ≡ b) → (xs : List X) → find q (filter p xs) ≡ cond b (find q xs) None
find_filter q p true h [] = refl
find_filter q p false h [] = refl
find_filter q p true h (x ∷ xs) = elim (cases_Bool (q x)) [
  | inl e ↦ rw (h x e) (rw e refl)
  | inr e ↦ elim (cases_Bool (p x)) [
    | inl k ↦ rw k (rw e (find_filter q p true h xs))
    | inr k ↦ rw k (rw e (find_filter q p true h xs))
  ]
]
find_filter q p false h (x ∷ xs) = elim (cases_Bool (p x)) [
  | inl k ↦ elim (cases_Bool (q x)) [
    | inl e ↦ let n = h x e in cc
    | inr e ↦ rw k (rw e (find_filter q p false h xs))
  ]
  | inr k ↦ rw k (find_filter q p false h xs)
]

pub find_map : {X : Type 0} (q : X → Bool) (f : X → X) → ((x : X) → q (f x) ≡ q x) → (xs : List X) → find q (map f xs) ≡ option_map f (find q xs)
find_map q f h [] = refl
find_map q f h (x ∷ xs) = elim (cases_Bool (q x)) [
  | inl e ↦ rw (h x) (rw e refl)
  | inr e ↦ rw (h x) (rw e (find_map q f h xs))
]

-- ---- order

pub ascending_filter : {X : Type 0} (R : X → X → Type 0) (p : X → Bool) (xs : List X) → Ascending R xs → Ascending R (filter p xs)
ascending_filter R p [] h = tt
ascending_filter R p (x ∷ xs) h = elim (cases_Bool (p x)) [
  | inl e ↦ rw e (all_filter (R x) p xs h.0, ascending_filter R p xs h.1)
  | inr e ↦ rw e (ascending_filter R p xs h.1)
]

pub ascending_map : {X Y : Type 0} (R : X → X → Type 0) (S : Y → Y → Type 0) (f : X → Y) → ((x y : X) → R x y → S (f x) (f y)) → (xs : List X) → Ascending R xs → Ascending S (map f xs)
ascending_map R S f g [] h = tt
ascending_map R S f g (x ∷ xs) h = (all_mapped (S (f x)) (R x) f (g x) xs h.0, ascending_map R S f g xs h.1)

pub ascending_push : {X : Type 0} (R : X → X → Type 0) (xs : List X) (y : X) → Ascending R xs → AllByRecursion (λ x. R x y) xs → Ascending R (xs ++ y ∷ [])
ascending_push R [] y h a = (tt, tt)
ascending_push R (x ∷ xs) y h a = (all_push (R x) xs y h.0 a.0, ascending_push R xs y h.1 a.1)

pub ascending_insert : {X : Type 0} (R : X → X → Type 0) → ((x y z : X) → R x y → R y z → R x z) → (before : X → Bool) (xs : List X) (y : X)
    → AllByRecursion (λ x. (before x ≡ true → R x y) × (before x ≡ false → R y x)) xs → Ascending R xs → Ascending R (insert xs (place before xs) y)
ascending_insert R trans before [] y a h = (tt, tt)
ascending_insert R trans before (x ∷ xs) y a h = elim (cases_Bool (before x)) [
  | inl e ↦ rw e (all_insert (R x) xs (place before xs) y h.0 (a.0.0 e), ascending_insert R trans before xs y a.1 h.1)
  | inr e ↦ rw e ((a.0.1 e, all_map (R x) (R y) (λ z r. trans y x z (a.0.1 e) r) xs h.0), h)
]

pub map_insert : {X Y : Type 0} (f : X → Y) (xs : List X) (i : ℕ) (y : X) → map f (insert xs i y) ≡ insert (map f xs) i (f y)
map_insert f [] zero y = refl
map_insert f [] (suc i) y = refl
map_insert f (x ∷ xs) zero y = refl
map_insert f (x ∷ xs) (suc i) y = ap (λ r. f x ∷ r) (map_insert f xs i y)

-- ---- filters

pub filter_same : {X : Type 0} (p q : X → Bool) (xs : List X) → AllByRecursion (λ x. p x ≡ q x) xs → filter p xs ≡ filter q xs
filter_same p q [] h = refl
filter_same p q (x ∷ xs) h = elim (cases_Bool (q x)) [
  | inl e ↦ rw h.0 (rw e (ap (λ r. x ∷ r) (filter_same p q xs h.1)))
  | inr e ↦ rw h.0 (rw e (filter_same p q xs h.1))
]

pub all_of : {X : Type 0} (P : X → Type 0) → ((x : X) → P x) → (xs : List X) → AllByRecursion P xs
all_of P f [] = tt
all_of P f (x ∷ xs) = (f x, all_of P f xs)

pub filter_none : {X : Type 0} (p : X → Bool) (xs : List X) → AllByRecursion (λ x. p x ≡ false) xs → filter p xs ≡ []
filter_none p [] h = refl
filter_none p (x ∷ xs) h = rw h.0 (filter_none p xs h.1)

-- what holds of those that pass
pub all_filtered : {X : Type 0} (P Q : X → Type 0) (p : X → Bool) → ((x : X) → p x ≡ true → Q x → P x) → (xs : List X) → AllByRecursion Q xs → AllByRecursion P (filter p xs)
all_filtered P Q p f [] h = tt
all_filtered P Q p f (x ∷ xs) h = elim (cases_Bool (p x)) [
  | inl e ↦ rw e (f x e h.0, all_filtered P Q p f xs h.1)
  | inr e ↦ rw e (all_filtered P Q p f xs h.1)
]

pub filter_map_filter : {X Y : Type 0} (f : X → Y) (p : Y → Bool) (xs : List X) → map f (filter (λ x. p (f x)) xs) ≡ filter p (map f xs)
filter_map_filter f p [] = refl
filter_map_filter f p (x ∷ xs) = elim (cases_Bool (p (f x))) [
  | inl e ↦ rw e (ap (λ r. f x ∷ r) (filter_map_filter f p xs))
  | inr e ↦ rw e (filter_map_filter f p xs)
]

pub any_map : {X Y : Type 0} (f : X → Y) (p : Y → Bool) (xs : List X) → list_any p (map f xs) ≡ list_any (λ x. p (f x)) xs
any_map f p [] = refl
any_map f p (x ∷ xs) = ap (λ r. p (f x) || r) (any_map f p xs)

pub any_none : {X : Type 0} (p : X → Bool) (xs : List X) → AllByRecursion (λ x. p x ≡ false) xs → list_any p xs ≡ false
any_none p [] h = refl
any_none p (x ∷ xs) h = rw h.0 (any_none p xs h.1)

pub cases_Ordering : (o : Ordering) → (o ≡ Less) ⊎ ((o ≡ Equal) ⊎ (o ≡ Greater))
cases_Ordering Less = inl refl
cases_Ordering Equal = inr (inl refl)
cases_Ordering Greater = inr (inr refl)

-- ---- ascending numbers among others

pub any_member : (h : ℕ) (ns : List ℕ) (P : ℕ → Type 0) → AllByRecursion P ns → list_any (λ n. n == h) ns ≡ true → P h
any_member h [] P a e = cc
any_member h (n ∷ ns) P a e = elim (eqb_tells n h) [
  | inl t ↦ subst P t.1 a.0
  | inr f ↦ any_member h ns P a.1 (rw f.0 at e)
]

-- numbers that ascend, all of them among others that ascend, are those of the others that are among them
pub those_among : (ns hs : List ℕ) → Ascending (λ a b. a < b) ns → Ascending (λ a b. a < b) hs → AllByRecursion (λ h. list_any (λ n. n == h) ns ≡ true) hs
    → filter (λ n. list_any (λ h. h == n) hs) ns ≡ hs
those_among [] [] a b m = refl
those_among [] (h ∷ hs) a b m = cc
those_among (n ∷ ns) [] a b m = filter_none (λ n. false) ns (all_of (λ n. false ≡ false) (λ n. refl) ns)
those_among (n ∷ ns) (h ∷ hs) a b m = elim (eqb_tells h n) [
  | inl t ↦
      rw t.0
      (ap (λ l. n ∷ l)
      (filter_same (λ k. (h == k) || list_any (λ i. i == k) hs) (λ k. list_any (λ i. i == k) hs) ns
      (all_map (λ k. n < k) (λ k. ((h == k) || list_any (λ i. i == k) hs) ≡ list_any (λ i. i == k) hs) (λ k l. let f : (h == k) ≡ false = ne_eqb h k (omega (arith, t.1)) in rw f refl) ns a.0)
      ∙ those_among ns hs a.1 b.1 (all_both (λ i. h < i) (λ i. ((n == i) || list_any (λ k. k == i) ns) ≡ true) (λ i. list_any (λ k. k == i) ns ≡ true) (λ i l e. let f : (n == i) ≡ false = ne_eqb n i (omega (arith, t.1)) in rw f at e) hs b.0 m.1)))
      ∙ ap (λ k. k ∷ hs) (sym t.1)
  | inr f ↦
      let other : (n == h) ≡ false = ne_eqb n h (λ e. f.1 (sym e)) in
      let there = rw other at m.0 in
      let above : n < h = any_member h ns (λ k. n < k) a.0 there in
      let none : list_any (λ i. i == n) hs ≡ false = any_none (λ i. i == n) hs (all_map (λ i. h < i) (λ i. (i == n) ≡ false) (λ i l. ne_eqb i n (omega arith)) hs b.0) in
      rw f.0 (rw none
      (those_among ns (h ∷ hs) a.1 b
      (there, all_both (λ i. h < i) (λ i. ((n == i) || list_any (λ k. k == i) ns) ≡ true) (λ i. list_any (λ k. k == i) ns ≡ true) (λ i l e. let g : (n == i) ≡ false = ne_eqb n i (omega arith) in rw g at e) hs b.0 m.1)))
]

-- ---- numbered items

pub all_numbered : {X : Type 0} (number : X → ℕ) (P Q : ℕ → Type 0) → ((m : ℕ) → P m → Q m) → (xs : List X) → AllByRecursion P (map number xs) → AllByRecursion (λ x. Q (number x)) xs
all_numbered number P Q f [] h = tt
all_numbered number P Q f (x ∷ xs) h = (f (number x) h.0, all_numbered number P Q f xs h.1)

pub less_fall : (n : ℕ) (xs : List ℕ) → Ascending (λ a b. a < b) xs → Falls (λ x. nat_lt x n) xs
less_fall n [] a = tt
less_fall n (x ∷ xs) a = (
  λ h. all_map (λ m. x < m) (λ m. nat_lt m n ≡ false) (λ m l. le-ltb m n (omega (arith, ltb-false x n h))) xs a.0,
  less_fall n xs a.1,
)

-- ---- loops over a list

pub drop_next : {X : Type 0} (xs : List X) (k : ℕ) (x : X) → k < length xs → x ≡ get_or xs k x → drop k xs ≡ x ∷ drop (k + 1) xs
drop_next xs k x l e = drop-cons xs k x l ∙ rw add-one (ap (λ y. y ∷ drop (suc k) xs) (sym e))

pub written_more : {X : Type 0} (xs : List X) (y : X) (out : List X) → written_over (xs ++ y ∷ []) out ≡ set (written_over xs out) (length xs) y
written_more [] y [] = refl
written_more [] y (z ∷ out) = refl
written_more (x ∷ xs) y [] = refl
written_more (x ∷ xs) y (z ∷ out) = ap (λ r. x ∷ r) (written_more xs y out)

pub map_append : {X Y : Type 0} (f : X → Y) (xs ys : List X) → map f (xs ++ ys) ≡ map f xs ++ map f ys
map_append f [] ys = refl
map_append f (x ∷ xs) ys = ap (λ r. f x ∷ r) (map_append f xs ys)

pub all_append : {X : Type 0} (P : X → Type 0) (xs ys : List X) → AllByRecursion P xs → AllByRecursion P ys → AllByRecursion P (xs ++ ys)
all_append P [] ys h k = k
all_append P (x ∷ xs) ys h k = (h.0, all_append P xs ys h.1 k)

pub any_push : {X : Type 0} (p : X → Bool) (xs : List X) (y : X) → list_any p xs ≡ true → list_any p (xs ++ y ∷ []) ≡ true
any_push p [] y h = cc
any_push p (x ∷ xs) y h = elim (cases_Bool (p x)) [
  | inl e ↦ rw e refl
  | inr e ↦ rw e (any_push p xs y (rw e at h))
]

pub any_last : {X : Type 0} (p : X → Bool) (xs : List X) (y : X) → p y ≡ true → list_any p (xs ++ y ∷ []) ≡ true
any_last p [] y h = rw h refl
any_last p (x ∷ xs) y h = elim (cases_Bool (p x)) [
  | inl e ↦ rw e refl
  | inr e ↦ rw e (any_last p xs y h)
]

-- a filter keeps the members that pass
pub any_kept : (h : ℕ) (p : ℕ → Bool) (ns : List ℕ) → p h ≡ true → list_any (λ n. n == h) ns ≡ true → list_any (λ n. n == h) (filter p ns) ≡ true
any_kept h p [] k e = cc
any_kept h p (n ∷ ns) k e = elim (eqb_tells n h) [
  | inl t ↦ let q : p n ≡ true = rw t.1 k in rw q (rw t.0 refl)
  | inr f ↦
      let r = any_kept h p ns k (rw f.0 at e) in
      elim (cases_Bool (p n)) [
        | inl q ↦ rw q (rw f.0 r)
        | inr q ↦ rw q r
      ]
]

pub filter_shorter : {X : Type 0} (p : X → Bool) (xs : List X) → length (filter p xs) ≤ length xs
filter_shorter p [] = omega arith
filter_shorter p (x ∷ xs) = elim (cases_Bool (p x)) [
  | inl e ↦ rw e (omega (arith, filter_shorter p xs))
  | inr e ↦ rw e (omega (arith, filter_shorter p xs))
]

pub any_found : {X : Type 0} (p : X → Bool) (xs : List X) → is_some (find p xs) ≡ list_any p xs
any_found p [] = refl
any_found p (x ∷ xs) = elim (cases_Bool (p x)) [
  | inl e ↦ rw e refl
  | inr e ↦ rw e (any_found p xs)
]

pub one_written : {X : Type 0} (xs : List X) (y : X) (count : ℕ) (now out : List X) → count ≡ length xs → now ≡ written_over xs out → set now count y ≡ written_over (xs ++ y ∷ []) out
one_written xs y count now out a b = rw a (rw b (sym (written_more xs y out)))

-- ---- one of a number goes

pub all_remove : {X : Type 0} (P : X → Type 0) (xs : List X) (at : ℕ) → AllByRecursion P xs → AllByRecursion P (remove xs at)
all_remove P [] zero h = tt
all_remove P [] (suc at) h = tt
all_remove P (x ∷ xs) zero h = h.1
all_remove P (x ∷ xs) (suc at) h = (h.0, all_remove P xs at h.1)

pub ascending_remove : {X : Type 0} (R : X → X → Type 0) (xs : List X) (at : ℕ) → Ascending R xs → Ascending R (remove xs at)
ascending_remove R [] zero h = tt
ascending_remove R [] (suc at) h = tt
ascending_remove R (x ∷ xs) zero h = h.1
ascending_remove R (x ∷ xs) (suc at) h = (all_remove (R x) xs at h.0, ascending_remove R xs at h.1)

pub map_remove : {X Y : Type 0} (f : X → Y) (xs : List X) (at : ℕ) → map f (remove xs at) ≡ remove (map f xs) at
map_remove f [] zero = refl
map_remove f [] (suc at) = refl
map_remove f (x ∷ xs) zero = refl
map_remove f (x ∷ xs) (suc at) = ap (λ r. f x ∷ r) (map_remove f xs at)

pub filter_whole : {X : Type 0} (p : X → Bool) (xs : List X) → AllByRecursion (λ x. p x ≡ false) xs → filter (λ x. not (p x)) xs ≡ xs
filter_whole p [] h = refl
filter_whole p (x ∷ xs) h = rw h.0 (ap (λ r. x ∷ r) (filter_whole p xs h.1))

-- what is after the place where a test stops passing does not pass it
pub after_place : {X : Type 0} (p : X → Bool) (xs : List X) → Falls p xs → drop (place p xs) xs ≡ filter (λ x. not (p x)) xs
after_place p [] f = refl
after_place p (x ∷ xs) f = elim (cases_Bool (p x)) [
  | inl t ↦ rw t (after_place p xs f.1)
  | inr e ↦ rw e (ap (λ r. x ∷ r) (sym (filter_whole p xs (f.0 e))))
]

-- ---- one takes the place of another

pub set_same : {X Y : Type 0} (f : X → Y) (xs : List X) (at : ℕ) (x y : X) → slice_get xs at ≡ Some x → f y ≡ f x → map f (set xs at y) ≡ map f xs
set_same f [] zero x y e s = refl
set_same f [] (suc at) x y e s = refl
set_same f (z ∷ zs) zero x y e s = let n : f y ≡ f z = s ∙ ap f (sym (same_Some z x e)) in ap (λ r. r ∷ map f zs) n
set_same f (z ∷ zs) (suc at) x y e s = ap (λ r. f z ∷ r) (set_same f zs at x y e s)

pub all_set : {X : Type 0} (P : X → Type 0) (xs : List X) (at : ℕ) (y : X) → AllByRecursion P xs → P y → AllByRecursion P (set xs at y)
all_set P [] zero y h p = tt
all_set P [] (suc at) y h p = tt
all_set P (x ∷ xs) zero y h p = (p, h.1)
all_set P (x ∷ xs) (suc at) y h p = (h.0, all_set P xs at y h.1 p)

pub got_all : {X : Type 0} (P : X → Type 0) (xs : List X) (at : ℕ) (x : X) → AllByRecursion P xs → slice_get xs at ≡ Some x → P x
got_all P [] zero x h e = absurd cc
got_all P [] (suc at) x h e = absurd cc
got_all P (y ∷ ys) zero x h e = subst P (same_Some y x e) h.0
got_all P (y ∷ ys) (suc at) x h e = got_all P ys at x h.1 e

-- ---- above all

-- the last number is the highest
pub last_least : (n : ℕ) (ns : List ℕ) (l : ℕ) → Ascending (λ a b. a < b) ns → slice_get ns (length ns - 1) ≡ Some l → l < n → AllByRecursion (λ m. m < n) ns
last_least n [] l a e b = tt
last_least n (x ∷ []) l a e b = let same : x ≡ l = same_Some x l e in (omega (arith, same, b), tt)
last_least n (x ∷ y ∷ ys) l a e b =
    let i : length (x ∷ y ∷ ys) - 1 ≡ suc (length (y ∷ ys) - 1) = omega arith in
    let rest = last_least n (y ∷ ys) l a.1 (rw i at e) b in
    (omega (arith, a.0.0, rest.0), rest)

pub all_less : (n : ℕ) (ns : List ℕ) → AllByRecursion (λ m. m < n) ns → length ns ≡ place (λ m. nat_lt m n) ns
all_less n [] a = refl
all_less n (m ∷ ms) a = let t : nat_lt m n ≡ true = lt-ltb m n a.0 in rw t (ap suc (all_less n ms a.1))
