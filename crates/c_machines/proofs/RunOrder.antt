-- Runs by ascending page.
use Rattle.std.proofs.Common.{◌≡◌, ℕ, suc, ◌+◌, ◌<◌, ◌≤◌, Bool, true, cond, nat_le, List, [], ◌∷◌, length, get_or, Contains, count_by, IsPermutation, refl, sym, ap, ◌∙◌, subst, inl, inr, arith}
use Rattle.std.proofs.lemmas.Bool.{le-leb, lt-leb}
use Rattle.std.specs.List.{AllByRecursion}
use Rattle.std.specs.List.Sorted.{IsNonDecreasingBy}
use Rattle.std.proofs.lemmas.List.Sorted.{IsPermutation-sym, Contains-permutation, sum_by-IsPermutation}
use Rattle.std.proofs.lemmas.List.Sums.{sum_by-cons}
use Rattle.page_ranges.specs.declared.ranges.Run.{Run}
use Rattle.page_ranges.specs.Runs.{AreRuns}
use Rattle.page_ranges.proofs.Members.{member_first, member_later, member_cases, member_none, member_all, all_implied}

-- each begins no later than those after it
abbrev pub AreRising : List Run → Type 0
AreRising [] = Unit {0}
AreRising (r ∷ rs) = AllByRecursion (λ s. r.range.first ≤ s.range.first) rs × AreRising rs

all_from_places : (P : Run → Type 0) (rs : List Run) → ((i : ℕ) (d : Run) → i < length rs → P (get_or rs i d)) → AllByRecursion P rs
all_from_places P [] f = tt
all_from_places P (r ∷ rs) f = (f 0 r (omega arith), all_from_places P rs (λ i d l. f (suc i) d (omega arith)))

pub rising : (rs : List Run) → IsNonDecreasingBy (λ (r : Run). r.range.first) rs → AreRising rs
rising [] h = tt
rising (r ∷ rs) h = (all_from_places (λ s. r.range.first ≤ s.range.first) rs (λ i d l. h 0 (suc i) d (omega arith) (omega arith)), rising rs (λ i j d l m. h (suc i) (suc j) d (omega arith) (omega arith)))

-- ---- one order

-- 1 for a run that passes
abbrev weight : (Run → Bool) → Run → ℕ
weight p r = cond (p r) 1 0

-- the runs of one list are those of the other, each as often
pub record AreSame (ys zs : List Run) : Type 0 where
  pub forth : (x : Run) → Contains ys x → Contains zs x
  pub back : (x : Run) → Contains zs x → Contains ys x
  pub counts : (p : Run → Bool) → count_by p ys ≡ count_by p zs

pub permuted : (ys zs : List Run) → IsPermutation ys zs → AreSame ys zs
permuted ys zs h = record {
  forth = λ x. Contains-permutation ys zs x h;
  back = λ x. Contains-permutation zs ys x (IsPermutation-sym ys zs h);
  counts = λ p. sym (sum_by-IsPermutation (weight p) ys zs h);
}

-- begins no later than a page
abbrev upto : ℕ → Run → Bool
upto n r = nat_le r.range.first n

none_upto : (n : ℕ) (rs : List Run) → AllByRecursion (λ s. n < s.range.first) rs → count_by (upto n) rs ≡ 0
none_upto n [] a = refl
none_upto n (r ∷ rs) a =
    let e : weight (upto n) r ≡ 0 = ap (λ (b : Bool). let k : ℕ = cond b 1 0 in k) (lt-leb r.range.first n a.0) in
    let g : count_by (upto n) (r ∷ rs) ≡ weight (upto n) r + count_by (upto n) rs = sum_by-cons (weight (upto n)) r rs in
    omega (arith, e, g, none_upto n rs a.1)

counted : (p : Run → Bool) (rs : List Run) (x : Run) → p x ≡ true → Contains rs x → 0 < count_by p rs
counted p [] x e m = absurd (member_none x m)
counted p (r ∷ rs) x e m = elim (member_cases r rs x m) [
  | inl same ↦ let f : weight p r ≡ 1 = ap (weight p) same ∙ ap (λ (b : Bool). let n : ℕ = cond b 1 0 in n) e in let g : count_by p (r ∷ rs) ≡ weight p r + count_by p rs = sum_by-cons (weight p) r rs in omega (arith, f, g)
  | inr later ↦ let g : count_by p (r ∷ rs) ≡ weight p r + count_by p rs = sum_by-cons (weight p) r rs in omega (arith, g, counted p rs x e later)
]

module _ (y z : Run) (ys zs : List Run) (up : AreRising (y ∷ ys)) (runs : AreRuns (z ∷ zs)) (same : AreSame (y ∷ ys) (z ∷ zs)) where
  above : (x : Run) → Contains zs x → z.range.first < x.range.first
  above x m = let h : z.range.first + z.range.pages ≤ x.range.first = member_all (λ s. z.range.first + z.range.pages ≤ s.range.first) zs x runs.1 m in omega (arith, h, runs.0)

  heads : y ≡ z
  heads = elim (member_cases z zs y (same.forth y (member_first y ys))) [
    | inl e ↦ sym e
    | inr t ↦ elim (member_cases y ys z (same.back z (member_first z zs))) [
      | inl e ↦ e
      | inr u ↦ absurd (let h : y.range.first ≤ z.range.first = member_all (λ s. y.range.first ≤ s.range.first) ys z up.0 u in omega (arith, above y t, h))
    ]
  ]

  fewer : (p : Run → Bool) → count_by p ys ≡ count_by p zs
  fewer p =
      let a : count_by p (y ∷ ys) ≡ weight p y + count_by p ys = sum_by-cons (weight p) y ys in
      let b : count_by p (z ∷ zs) ≡ weight p z + count_by p zs = sum_by-cons (weight p) z zs in
      let e : weight p y ≡ weight p z = ap (weight p) heads in
      omega (arith, a, b, e, same.counts p)

  others : AreSame ys zs
  others = record {
    forth = λ x m. elim (member_cases z zs x (same.forth x (member_later y ys x m))) [
      | inl e ↦ absurd (
          let none : count_by (upto z.range.first) zs ≡ 0 = none_upto z.range.first zs (all_implied (λ s. z.range.first + z.range.pages ≤ s.range.first) (λ s. z.range.first < s.range.first) (λ s h. omega (arith, h, runs.0)) zs runs.1) in
          let at : upto z.range.first x ≡ true = subst (λ (r : Run). upto z.range.first r ≡ true) e (le-leb z.range.first z.range.first (omega arith)) in
          omega (arith, none, fewer (upto z.range.first), counted (upto z.range.first) ys x at m))
      | inr t ↦ t
    ];
    back = λ x m. elim (member_cases y ys x (same.back x (member_later z zs x m))) [
      | inl e ↦ absurd (let f : z.range.first ≡ x.range.first = ap (λ (r : Run). r.range.first) (sym heads ∙ e) in omega (arith, f, above x m))
      | inr t ↦ t
    ];
    counts = fewer;
  }

-- runs by ascending page are runs in order, if the same runs are so in some order
pub one_order : (ys zs : List Run) → AreRising ys → AreRuns zs → AreSame ys zs → ys ≡ zs
one_order [] [] up runs same = refl
one_order [] (z ∷ zs) up runs same = absurd (member_none z (same.back z (member_first z zs)))
one_order (y ∷ ys) [] up runs same = absurd (member_none y (same.forth y (member_first y ys)))
one_order (y ∷ ys) (z ∷ zs) up runs same =
    let head = heads y z ys zs up runs same in
    let tail = one_order ys zs up.1 runs.2 (others y z ys zs up runs same) in
    λ i. head i ∷ tail i
