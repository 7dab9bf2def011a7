-- Pages in a row.
use Rattle.std.proofs.Common.{◌≡◌, ℕ, zero, suc, ◌+◌, ◌-◌, ◌<◌, ◌≤◌, Bool, true, cond, ◌&&◌, eqb, List, [], ◌∷◌, ◌++◌, map, length, zero-add, add-zero, Some, inl, inr, refl, sym, ap, ap₂, subst, ◌∙◌, arith}
use Rattle.std.specs.List.{AllByRecursion}
use Rattle.std.proofs.lemmas.Bool.{and_parts, eqb-true, cases_eq, cases_Bool, eq-eqb, cond-true, cond-false}
use Rattle.page_ranges.specs.declared.ranges.Descriptor.{Descriptor}
use Rattle.page_ranges.specs.Memory.{Page, page_at, row, IsAscending}
use Rattle.page_ranges.specs.MemoryMap.{with_page_below, memory_map}
use Rattle.page_ranges.proofs.Lookups.{AllFrom, AllFrom-lower, page_at-hit, page_at-miss}

-- the page that lies one number higher, alike in all else
abbrev next : Page → Page
next x = record x { number = x.number + 1 }

-- ---- lookups

pub page_at-row : (m : List Page) (n : ℕ) (x : Page) (k : ℕ) → x.number ≤ k → k < x.number + n → page_at (row n x ++ m) k ≡ Some (record x { number = k })
unfolding row
page_at-row m zero x k l h = absurd (omega arith)
page_at-row m (suc n) x k l h = elim (cases_eq x.number k) [
  | inl e ↦ page_at-hit x (row n (next x) ++ m) k e ∙ ap (λ j. Some (record x { number = j })) e
  | inr d ↦ page_at-miss x (row n (next x) ++ m) k d ∙ page_at-row m n (next x) k (omega arith) (omega arith)
]

-- a number that is none of the row's
pub page_at-outside_row : (m : List Page) (n : ℕ) (x : Page) (k : ℕ) → (x.number ≤ k → x.number + n ≤ k) → page_at (row n x ++ m) k ≡ page_at m k
unfolding row
page_at-outside_row m zero x k h = refl
page_at-outside_row m (suc n) x k h =
    page_at-miss x (row n (next x) ++ m) k (λ e. omega (arith, h (omega arith))) ∙ page_at-outside_row m n (next x) k (λ l. omega (arith, h (omega arith)))

-- ---- what holds of all pages

pub all-row : (P : Page → Type 0) (m : List Page) (n : ℕ) (x : Page) → ((k : ℕ) → x.number ≤ k → k < x.number + n → P (record x { number = k })) → AllByRecursion P m → AllByRecursion P (row n x ++ m)
unfolding row
all-row P m zero x h a = a
all-row P m (suc n) x h a = (h x.number (omega arith) (omega arith), all-row P m n (next x) (λ k l u. h k (omega arith) (omega arith)) a)

-- and the converse
pub row-all : (P : Page → Type 0) (m : List Page) (n : ℕ) (x : Page) → AllByRecursion P (row n x ++ m) → ((k : ℕ) → x.number ≤ k → k < x.number + n → P (record x { number = k })) × AllByRecursion P m
unfolding row
row-all P m zero x a = (λ k l h. absurd (omega arith), a)
row-all P m (suc n) x a =
    let rest = row-all P m n (next x) a.1 in (
      λ k l h. elim (cases_eq x.number k) [
        | inl e ↦ subst (λ j. P (record x { number = j })) e a.0
        | inr d ↦ rest.0 k (omega arith) (omega arith)
      ],
      rest.1,
    )

pub ascending-row : (m : List Page) (n : ℕ) (x : Page) → AllFrom (x.number + n) m → IsAscending m → IsAscending (row n x ++ m)
unfolding row
ascending-row m zero x l a = a
ascending-row m (suc n) x l a = (
  all-row (λ y. x.number < y.number) m n (next x) (λ k g u. omega arith) (AllFrom-lower (suc x.number) (x.number + suc n) m (omega arith) l),
  ascending-row m n (next x) (AllFrom-lower (x.number + 1 + n) (x.number + suc n) m (omega arith) l) a,
)

pub length-row : (n : ℕ) (x : Page) → length (row n x) ≡ n
unfolding row
length-row zero x = refl
length-row (suc n) x = omega (arith, length-row n (next x))

-- ---- rows cut and changed

pub row-cut : (a b : ℕ) (x : Page) → row (a + b) x ≡ row a x ++ row b (record x { number = x.number + a })
unfolding row
row-cut zero b x = rw (zero-add b, add-zero x.number)
row-cut (suc a) b x =
    let count : suc a + b ≡ suc (a + b) = omega arith in
    let start : x.number + 1 + a ≡ x.number + suc a = omega arith in
    ap (λ n. row n x) count ∙ ap (λ ys. x ∷ ys) (row-cut a b (next x) ∙ ap (λ k. row a (next x) ++ row b (record x { number = k })) start)

-- a change that makes these pages of the row
pub map-row : (f : Page → Page) (n : ℕ) (x y : Page) → x.number ≡ y.number → ((k : ℕ) → x.number ≤ k → k < x.number + n → f (record x { number = k }) ≡ record y { number = k }) → map f (row n x) ≡ row n y
unfolding row
map-row f zero x y e h = refl
map-row f (suc n) x y e h = ap₂ ◌∷◌ (h x.number (omega arith) (omega arith) ∙ ap (λ k. record y { number = k }) e) (map-row f n (next x) (next y) (omega arith) (λ k l u. h k (omega arith) (omega arith)))

-- ---- the map

-- a number of pages as a block, the first of which is this one
abbrev pub block_from : ℕ → Page → Descriptor
block_from n x = record { mtype = x.mtype; first = x.number; pages = n; attributes = x.attributes }

-- the row ends where the block begins, and is like it
abbrev pub row_goes_on_in : ℕ → Page → Descriptor → Bool
row_goes_on_in n x b = eqb (x.number + n) b.first && eqb x.mtype b.mtype && eqb x.attributes b.attributes

pub row_goes_on_first : (n : ℕ) (x : Page) (b : Descriptor) → row_goes_on_in n x b ≡ true → x.number + n ≡ b.first
row_goes_on_first n x b t = eqb-true (x.number + n) b.first (and_parts (eqb (x.number + n) b.first) (eqb x.mtype b.mtype) (and_parts (eqb (x.number + n) b.first && eqb x.mtype b.mtype) (eqb x.attributes b.attributes) t).0).0

-- the blocks of a row and of the pages above it, which make these blocks
abbrev pub with_row_below : ℕ → Page → List Descriptor → List Descriptor
with_row_below n x [] = block_from n x ∷ []
with_row_below n x (b ∷ bs) = cond (row_goes_on_in n x b) (block_from (b.pages + n) x ∷ bs) (block_from n x ∷ b ∷ bs)

page_joins : (x : Page) (k : ℕ) (bs : List Descriptor) → with_page_below x (block_from k (next x) ∷ bs) ≡ block_from (k + 1) x ∷ bs
page_joins x k bs = rw (eq-eqb (x.number + 1) (x.number + 1) refl, eq-eqb x.mtype x.mtype refl, eq-eqb x.attributes x.attributes refl)

row_grows : (x : Page) (n : ℕ) (bs : List Descriptor) → with_page_below x (with_row_below (suc n) (next x) bs) ≡ with_row_below (suc (suc n)) x bs
row_grows x n [] = page_joins x (suc n) [] ∙ ap (λ k. block_from k x ∷ []) (let e : suc n + 1 ≡ suc (suc n) = omega arith in e)
row_grows x n (b ∷ bs) =
    let ends : x.number + 1 + suc n ≡ x.number + suc (suc n) = omega arith in
    let same : row_goes_on_in (suc n) (next x) b ≡ row_goes_on_in (suc (suc n)) x b = ap (λ k. eqb k b.first && eqb x.mtype b.mtype && eqb x.attributes b.attributes) ends in
    elim (cases_Bool (row_goes_on_in (suc (suc n)) x b)) [
      | inl t ↦
          let count : b.pages + suc n + 1 ≡ b.pages + suc (suc n) = omega arith in
          ap (with_page_below x) (cond-true _ _ _ (same ∙ t)) ∙ page_joins x (b.pages + suc n) bs ∙ ap (λ k. block_from k x ∷ bs) count ∙ sym (cond-true _ _ _ t)
      | inr f ↦
          let count : suc n + 1 ≡ suc (suc n) = omega arith in
          ap (with_page_below x) (cond-false _ _ _ (same ∙ f)) ∙ page_joins x (suc n) (b ∷ bs) ∙ ap (λ k. block_from k x ∷ b ∷ bs) count ∙ sym (cond-false _ _ _ f)
    ]

page_is_row : (x : Page) (bs : List Descriptor) → with_page_below x bs ≡ with_row_below 1 x bs
page_is_row x [] = refl
page_is_row x (b ∷ bs) = refl

map-row_suc : (m : List Page) (n : ℕ) (x : Page) → memory_map (row (suc n) x ++ m) ≡ with_row_below (suc n) x (memory_map m)
unfolding row
map-row_suc m zero x = page_is_row x (memory_map m)
map-row_suc m (suc n) x = ap (with_page_below x) (map-row_suc m n (next x)) ∙ row_grows x n (memory_map m)

-- the map of a row and of the pages above it
pub memory_map-row : (m : List Page) (n : ℕ) (x : Page) → 0 < n → memory_map (row n x ++ m) ≡ with_row_below n x (memory_map m)
memory_map-row m n x h =
    let e : n ≡ suc (n - 1) = omega arith in
    ap (λ k. memory_map (row k x ++ m)) e ∙ map-row_suc m (n - 1) x ∙ ap (λ k. with_row_below k x (memory_map m)) (sym e)
