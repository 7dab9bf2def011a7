-- Runs by ascending page, and runs that have pages in common.
use Rattle.std.proofs.Common.{◌≡◌, ℕ, ◌+◌, ◌<◌, ◌≤◌, Bool, true, false, cond, ◌&&◌, ◌||◌, nat_lt, nat_le, List, [], ◌∷◌, Contains, count_by, refl, sym, ap, ◌∙◌, inl, inr, arith, zero-add, subst, ap₂, lt-ltb, le-ltb, ltb-false, leb-true, leb-false, IsPermutation}
use Rattle.std.specs.List.{AllByRecursion, list_any}
use Rattle.std.proofs.lemmas.List.Sorted.{IsPermutation-refl, IsPermutation-cons, IsPermutation-trans, IsPermutation-swap, sum_by-IsPermutation}
use Rattle.std.proofs.lemmas.List.Sums.{sum_by-cons}
use Rattle.page_ranges.specs.declared.ranges.Run.{Run}
use Rattle.page_ranges.specs.Runs.{AreRuns}
use Rattle.page_ranges.proofs.Members.{member_first, member_later, member_cases, member_none, member_all, all_implied}
use Rattle.machine_files.specs.MachineText.{shares_page, overlap, with_run, in_order}

HaveSome : List Run → Type 0
HaveSome = AllByRecursion (λ r. 0 < r.range.pages)

-- each begins no later than those after it
abbrev pub AreRising : List Run → Type 0
AreRising [] = Unit {0}
AreRising (r ∷ rs) = AllByRecursion (λ s. r.range.first ≤ s.range.first) rs × AreRising rs

-- ---- in order

two_swapped : (r s : Run) (rs : List Run) → IsPermutation (r ∷ s ∷ rs) (s ∷ r ∷ rs)
two_swapped r s rs = IsPermutation-swap (r ∷ s ∷ rs) (s ∷ r ∷ rs) 0 1 (omega arith) (omega arith) refl

with_run-permutes : (r : Run) (rs : List Run) → IsPermutation (r ∷ rs) (with_run r rs)
with_run-permutes r [] = IsPermutation-refl (r ∷ [])
with_run-permutes r (s ∷ rs) =
    elim (nat_le r.range.first s.range.first) as (λ b. IsPermutation (r ∷ s ∷ rs) (cond b (r ∷ s ∷ rs) (s ∷ with_run r rs))) [
      | true ↦ IsPermutation-refl (r ∷ s ∷ rs)
      | false ↦ IsPermutation-trans (r ∷ s ∷ rs) (s ∷ r ∷ rs) (s ∷ with_run r rs) (two_swapped r s rs) (IsPermutation-cons s (r ∷ rs) (with_run r rs) (with_run-permutes r rs))
    ]

pub in_order-permutes : (rs : List Run) → IsPermutation rs (in_order rs)
in_order-permutes [] = IsPermutation-refl []
in_order-permutes (r ∷ rs) = IsPermutation-trans (r ∷ rs) (r ∷ in_order rs) (in_order (r ∷ rs)) (IsPermutation-cons r rs (in_order rs) (in_order-permutes rs)) (with_run-permutes r (in_order rs))

all-with_run : (P : Run → Type 0) (r : Run) (rs : List Run) → P r → AllByRecursion P rs → AllByRecursion P (with_run r rs)
all-with_run P r [] h a = (h, tt)
all-with_run P r (s ∷ rs) h a =
    elim (nat_le r.range.first s.range.first) as (λ b. AllByRecursion P (cond b (r ∷ s ∷ rs) (s ∷ with_run r rs))) [
      | true ↦ (h, a)
      | false ↦ (a.0, all-with_run P r rs h a.1)
    ]

later : (m n : ℕ) (rs : List Run) → m ≤ n → AllByRecursion (λ s. n ≤ s.range.first) rs → AllByRecursion (λ s. m ≤ s.range.first) rs
later m n rs h = all_implied (λ s. n ≤ s.range.first) (λ s. m ≤ s.range.first) (λ s k. omega arith) rs

rising-with_run : (r : Run) (rs : List Run) → AreRising rs → AreRising (with_run r rs)
rising-with_run r [] a = (tt, tt)
rising-with_run r (s ∷ rs) a =
    let rising : (b : Bool) → nat_le r.range.first s.range.first ≡ b → AreRising (cond b (r ∷ s ∷ rs) (s ∷ with_run r rs)) = λ b. elim b as (λ b. nat_le r.range.first s.range.first ≡ b → AreRising (cond b (r ∷ s ∷ rs) (s ∷ with_run r rs))) [
      | true ↦ λ e. let h = leb-true r.range.first s.range.first e in ((h, later r.range.first s.range.first rs h a.0), a)
      | false ↦ λ e. let h = leb-false r.range.first s.range.first e in (all-with_run (λ t. s.range.first ≤ t.range.first) r rs (omega arith) a.0, rising-with_run r rs a.1)
    ] in
    rising (nat_le r.range.first s.range.first) refl

pub in_order-rising : (rs : List Run) → AreRising (in_order rs)
in_order-rising [] = tt
in_order-rising (r ∷ rs) = rising-with_run r (in_order rs) (in_order-rising rs)

-- ---- one order

-- two lists in order with the same runs are one
pub one_order : (ys zs : List Run) → AreRuns ys → AreRuns zs → ((x : Run) → Contains ys x → Contains zs x) → ((x : Run) → Contains zs x → Contains ys x) → ys ≡ zs
one_order [] [] a b f g = refl
one_order [] (z ∷ zs) a b f g = absurd (member_none z (g z (member_first z zs)))
one_order (y ∷ ys) [] a b f g = absurd (member_none y (f y (member_first y ys)))
one_order (y ∷ ys) (z ∷ zs) a b f g =
    let above_y : (x : Run) → Contains ys x → y.range.first + y.range.pages ≤ x.range.first = λ x. member_all (λ s. y.range.first + y.range.pages ≤ s.range.first) ys x a.1 in
    let above_z : (x : Run) → Contains zs x → z.range.first + z.range.pages ≤ x.range.first = λ x. member_all (λ s. z.range.first + z.range.pages ≤ s.range.first) zs x b.1 in
    let heads : y ≡ z = elim (member_cases z zs y (f y (member_first y ys))) [
      | inl e ↦ sym e
      | inr t ↦ elim (member_cases y ys z (g z (member_first z zs))) [
        | inl e ↦ e
        | inr u ↦ absurd (let p = above_z y t in let q = above_y z u in omega (arith, a.0, b.0))
      ]
    ] in
    let tails : ys ≡ zs = one_order ys zs a.2 b.2
    (λ x m. elim (member_cases z zs x (f x (member_later y ys x m))) [
      | inl e ↦ absurd (let p : y.range.first + y.range.pages ≤ y.range.first = subst (λ (t : Run). y.range.first + y.range.pages ≤ t.range.first) (sym (heads ∙ e)) (above_y x m) in omega (arith, a.0))
      | inr t ↦ t
    ])
    (λ x m. elim (member_cases y ys x (g x (member_later z zs x m))) [
      | inl e ↦ absurd (let p : z.range.first + z.range.pages ≤ z.range.first = subst (λ (t : Run). z.range.first + z.range.pages ≤ t.range.first) (sym (sym heads ∙ e)) (above_z x m) in omega (arith, b.0))
      | inr t ↦ t
    ]) in
    ap₂ ◌∷◌ heads tails

-- ---- pages in common

step : (b : Bool) (n : ℕ) (c : Bool) → c ≡ nat_lt 0 n → (b || c) ≡ nat_lt 0 (cond b 1 0 + n)
step true n c e = sym (lt-ltb 0 (1 + n) (omega arith))
step false n c e = e ∙ ap (nat_lt 0) (sym (zero-add n))

any_counted : (p : Run → Bool) (rs : List Run) → list_any p rs ≡ nat_lt 0 (count_by p rs)
any_counted p [] = refl
any_counted p (r ∷ rs) = step (p r) (count_by p rs) (list_any p rs) (any_counted p rs) ∙ ap (nat_lt 0) (sym (sum_by-cons (λ x. cond (p x) 1 0) r rs))

any_alike : (p q : Run → Bool) → ((r : Run) → p r ≡ q r) → (rs : List Run) → list_any p rs ≡ list_any q rs
any_alike p q h [] = refl
any_alike p q h (r ∷ rs) = ap₂ ◌||◌ (h r) (any_alike p q h rs)

pub overlap-permuted : (xs ys : List Run) → IsPermutation xs ys → overlap ys ≡ overlap xs
overlap-permuted xs ys h =
    let counts : (p : Run → Bool) → count_by p ys ≡ count_by p xs = λ p. sum_by-IsPermutation (λ x. cond (p x) 1 0) xs ys h in
    any_alike (λ r. nat_lt 1 (count_by (shares_page r) ys)) (λ r. nat_lt 1 (count_by (shares_page r) xs)) (λ r. ap (nat_lt 1) (counts (shares_page r))) ys
    ∙ any_counted (λ r. nat_lt 1 (count_by (shares_page r) xs)) ys
    ∙ ap (nat_lt 0) (counts (λ r. nat_lt 1 (count_by (shares_page r) xs)))
    ∙ sym (any_counted (λ r. nat_lt 1 (count_by (shares_page r) xs)) xs)

none_counted : (p : Run → Bool) (rs : List Run) → AllByRecursion (λ r. p r ≡ false) rs → count_by p rs ≡ 0
none_counted p [] a = refl
none_counted p (r ∷ rs) a = sum_by-cons (λ x. cond (p x) 1 0) r rs ∙ rw (a.0, none_counted p rs a.1) refl

count-cons : (p : Run → Bool) (r : Run) (rs : List Run) (b : Bool) → p r ≡ b → count_by p (r ∷ rs) ≡ cond b 1 0 + count_by p rs
count-cons p r rs b e = sum_by-cons (λ x. cond (p x) 1 0) r rs ∙ rw e refl

not_any : (p : Run → Bool) (rs : List Run) → AllByRecursion (λ r. p r ≡ false) rs → list_any p rs ≡ false
not_any p [] a = refl
not_any p (r ∷ rs) a = rw (a.0, not_any p rs a.1) refl

or_false : (b c : Bool) → (b || c) ≡ false → (b ≡ false) × (c ≡ false)
or_false true c e = absurd (cc)
or_false false c e = (refl, e)

all_not : (p : Run → Bool) (rs : List Run) → list_any p rs ≡ false → AllByRecursion (λ r. p r ≡ false) rs
all_not p [] e = tt
all_not p (r ∷ rs) e = let h = or_false (p r) (list_any p rs) e in (h.0, all_not p rs h.1)

and_false : (b : Bool) → (b && false) ≡ false
and_false true = refl
and_false false = refl

-- a run that ends before another has no page in common with it
before : (r s : Run) → r.range.first + r.range.pages ≤ s.range.first → (shares_page r s ≡ false) × (shares_page s r ≡ false)
before r s h =
    let no : nat_lt s.range.first (r.range.first + r.range.pages) ≡ false = le-ltb s.range.first (r.range.first + r.range.pages) h in
    (rw no (and_false (nat_lt r.range.first (s.range.first + s.range.pages))), rw no refl)

itself : (r : Run) → 0 < r.range.pages → shares_page r r ≡ true
itself r h = rw (lt-ltb r.range.first (r.range.first + r.range.pages) (omega arith)) refl

all_both : (P Q : Run → Type 0) (rs : List Run) → AllByRecursion P rs → AllByRecursion Q rs → AllByRecursion (λ r. P r × Q r) rs
all_both P Q [] a b = tt
all_both P Q (r ∷ rs) a b = ((a.0, b.0), all_both P Q rs a.1 b.1)

-- runs in order have no page in common
apart : (ys : List Run) → AreRuns ys → AllByRecursion (λ r. count_by (shares_page r) ys ≤ 1) ys
apart [] a = tt
apart (y ∷ ys) a =
    let none : count_by (shares_page y) ys ≡ 0 = none_counted (shares_page y) ys (all_implied (λ s. y.range.first + y.range.pages ≤ s.range.first) (λ s. shares_page y s ≡ false) (λ s h. (before y s h).0) ys a.1) in
    let first : count_by (shares_page y) (y ∷ ys) ≡ 1 + count_by (shares_page y) ys = count-cons (shares_page y) y ys true (itself y a.0) in (
      omega arith,
      all_implied
          (λ s. (y.range.first + y.range.pages ≤ s.range.first) × (count_by (shares_page s) ys ≤ 1))
          (λ s. count_by (shares_page s) (y ∷ ys) ≤ 1)
          (λ s h. let more : count_by (shares_page s) (y ∷ ys) ≡ 0 + count_by (shares_page s) ys = count-cons (shares_page s) y ys false (before y s h.0).1 in omega (arith, h.1))
          ys (all_both (λ s. y.range.first + y.range.pages ≤ s.range.first) (λ s. count_by (shares_page s) ys ≤ 1) ys a.1 (apart ys a.2)),
    )

pub overlap-in_order : (ys : List Run) → AreRuns ys → overlap ys ≡ false
overlap-in_order ys a = not_any (λ r. nat_lt 1 (count_by (shares_page r) ys)) ys (all_implied (λ r. count_by (shares_page r) ys ≤ 1) (λ r. nat_lt 1 (count_by (shares_page r) ys) ≡ false) (λ r h. le-ltb 1 (count_by (shares_page r) ys) h) ys (apart ys a))

fewer : (p : Run → Bool) (y : Run) (ys : List Run) → count_by p (y ∷ ys) ≤ 1 → count_by p ys ≤ 1
fewer p y ys h = let e : count_by p (y ∷ ys) ≡ cond (p y) 1 0 + count_by p ys = sum_by-cons (λ x. cond (p x) 1 0) y ys in omega arith

-- where a run that begins no later has no page in common, it ends before
ends_before : (r s : Run) → 0 < s.range.pages → r.range.first ≤ s.range.first → shares_page r s ≡ false → r.range.first + r.range.pages ≤ s.range.first
ends_before r s some h e =
    let yes : nat_lt r.range.first (s.range.first + s.range.pages) ≡ true = lt-ltb r.range.first (s.range.first + s.range.pages) (omega arith) in
    ltb-false s.range.first (r.range.first + r.range.pages) (rw yes at e)

-- rising runs with no page in common are runs in order
rising_apart : (ys : List Run) → AllByRecursion (λ r. 0 < r.range.pages) ys → AreRising ys → AllByRecursion (λ r. count_by (shares_page r) ys ≤ 1) ys → AreRuns ys
rising_apart [] some a h = tt
rising_apart (y ∷ ys) some a h =
    let first : count_by (shares_page y) (y ∷ ys) ≡ 1 + count_by (shares_page y) ys = count-cons (shares_page y) y ys true (itself y some.0) in
    let most : count_by (shares_page y) (y ∷ ys) ≤ 1 = h.0 in
    let none : AllByRecursion (λ s. shares_page y s ≡ false) ys = all_not (shares_page y) ys (any_counted (shares_page y) ys ∙ le-ltb 0 (count_by (shares_page y) ys) (omega arith)) in
    let rest : AllByRecursion (λ s. count_by (shares_page s) ys ≤ 1) ys = all_implied (λ s. count_by (shares_page s) (y ∷ ys) ≤ 1) (λ s. count_by (shares_page s) ys ≤ 1) (λ s k. fewer (shares_page s) y ys k) ys h.1 in (
      some.0,
      all_implied
          (λ s. ((0 < s.range.pages) × (y.range.first ≤ s.range.first)) × (shares_page y s ≡ false))
          (λ s. y.range.first + y.range.pages ≤ s.range.first)
          (λ s k. ends_before y s k.0.0 k.0.1 k.1)
          ys (all_both (λ s. (0 < s.range.pages) × (y.range.first ≤ s.range.first)) (λ s. shares_page y s ≡ false) ys (all_both (λ s. 0 < s.range.pages) (λ s. y.range.first ≤ s.range.first) ys some.1 a.0) none),
      rising_apart ys some.1 a.1 rest,
    )

pub apart_in_order : (ys : List Run) → AllByRecursion (λ r. 0 < r.range.pages) ys → AreRising ys → overlap ys ≡ false → AreRuns ys
apart_in_order ys some a e = rising_apart ys some a (all_implied (λ r. nat_lt 1 (count_by (shares_page r) ys) ≡ false) (λ r. count_by (shares_page r) ys ≤ 1) (λ r h. ltb-false 1 (count_by (shares_page r) ys) h) ys (all_not (λ r. nat_lt 1 (count_by (shares_page r) ys)) ys e))
