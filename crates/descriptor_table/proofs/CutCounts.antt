-- How many more runs there are once a range cuts some.
use Rattle.std.proofs.Common.{◌≡◌, ℕ, zero, suc, ◌+◌, ◌<◌, ◌≤◌, Bool, true, false, ◌&&◌, if◌then◌else◌, List, [], ◌∷◌, ◌++◌, length, length-append, get_or, take, drop, inl, inr, refl, sym, ap, ap₂, subst, ◌∙◌, append-nil, append_assoc, take-append-drop, arith}
use Rattle.std.specs.Prelude.{nat_lt, Result, Ok, Err, OnErr}
use Rattle.std.specs.List.{AllByRecursion}
use Rattle.std.proofs.lemmas.List.{take_more}
use Rattle.std.proofs.lemmas.Bool.{cases_lt, le-ltb}
use Rattle.page_ranges.specs.declared.ranges.PageRange.{PageRange}
use Rattle.page_ranges.specs.declared.ranges.Run.{Run}
use Rattle.page_ranges.specs.Runs.{AreRuns}
use Rattle.page_ranges.proofs.Members.{all_implied}
use Rattle.page_ranges.proofs.RunLists.{runs-right}
use Rattle.descriptor_table.specs.Leaves.{runs_in}
use Rattle.descriptor_table.specs.Reserves.{cuts_at, cut_count}
use Rattle.descriptor_table.proofs.Begun.{runs_with_leaf}
use Rattle.descriptor_table.proofs.LeafLists.{runs_in-append}

-- what holds holds on a failure
pub on_err : {T E P : Type 0} (r : Result T E) → P → OnErr r P
on_err (Ok x) h = tt
on_err (Err e) h = h

-- ---- one run

neither : (a b : Bool) → b ≡ false → ◌≡◌ {A = ℕ} (if a && b then 1 else 0) 0
neither true b e = rw e refl
neither false b e = refl

one_at_most : (a b : Bool) → (if a && b then 1 else 0) ≤ 1
one_at_most true true = omega arith
one_at_most true false = omega arith
one_at_most false b = omega arith

cuts_none_below : (k : ℕ) (r : Run) → k ≤ r.range.first → cuts_at k r ≡ 0
cuts_none_below k r h = rw (le-ltb r.range.first k h) refl

cuts_none_above : (k : ℕ) (r : Run) → r.range.first + r.range.pages ≤ k → cuts_at k r ≡ 0
cuts_none_above k r h = neither (nat_lt r.range.first k) (nat_lt k (r.range.first + r.range.pages)) (le-ltb k (r.range.first + r.range.pages) h)

cuts_few : (k : ℕ) (r : Run) → cuts_at k r ≤ 1
cuts_few k r = one_at_most (nat_lt r.range.first k) (nat_lt k (r.range.first + r.range.pages))

-- ---- runs one after the other

-- how many runs a page cuts
cuts_in : ℕ → List Run → ℕ
cuts_in k [] = 0
cuts_in k (r ∷ rs) = cuts_at k r + cuts_in k rs

none_above : (k : ℕ) (rs : List Run) → AllByRecursion (λ s. k ≤ s.range.first) rs → cuts_in k rs ≡ 0
unfolding cuts_in
none_above k [] a = refl
none_above k (r ∷ rs) a = omega (arith, cuts_none_below k r a.0, none_above k rs a.1)

one_cut : (k : ℕ) (rs : List Run) → AreRuns rs → cuts_in k rs ≤ 1
unfolding cuts_in
one_cut k [] a = omega arith
one_cut k (r ∷ rs) a =
    elim (cases_lt k (r.range.first + r.range.pages)) [
      | inl h ↦ omega (arith, cuts_few k r, none_above k rs (all_implied (λ s. r.range.first + r.range.pages ≤ s.range.first) (λ s. k ≤ s.range.first) (λ s e. omega arith) rs a.1))
      | inr h ↦ omega (arith, cuts_none_above k r h, one_cut k rs a.2)
    ]

cuts_of_both : (range : PageRange) (rs : List Run) → cut_count range rs ≡ cuts_in range.first rs + cuts_in (range.first + range.pages) rs
unfolding cuts_in
cuts_of_both range [] = refl
cuts_of_both range (r ∷ rs) = omega (arith, cuts_of_both range rs)

-- a page lies in one run at most
pub two_cuts : (range : PageRange) (rs : List Run) → AreRuns rs → cut_count range rs ≤ 2
two_cuts range rs a = omega (arith, cuts_of_both range rs, one_cut range.first rs a, one_cut (range.first + range.pages) rs a)

pub cuts-append : (range : PageRange) (rs ss : List Run) → cut_count range (rs ++ ss) ≡ cut_count range rs + cut_count range ss
cuts-append range [] ss = omega arith
cuts-append range (r ∷ rs) ss = omega (arith, cuts-append range rs ss)

-- the cuts of one more run
pub cuts_more : (range : PageRange) (rs : List Run) (i : ℕ) (r : Run) → i < length rs → r ≡ get_or rs i r → cut_count range (take (i + 1) rs) ≡ cut_count range (take i rs) + (cuts_at range.first r + cuts_at (range.first + range.pages) r)
cuts_more range rs i r h e =
    ap (cut_count range) (take_more rs i r h) ∙ cuts-append range (take i rs) (get_or rs i r ∷ [])
    ∙ ap (λ s. cut_count range (take i rs) + cut_count range (s ∷ [])) (sym e) ∙ omega arith

-- the first of some runs are cut no more than all
pub cuts_of_first : (range : PageRange) (rs : List Run) (i : ℕ) → cut_count range (take i rs) ≤ cut_count range rs
cuts_of_first range rs i = omega (arith, cuts-append range (take i rs) (drop i rs), ap (cut_count range) (take-append-drop i rs))

-- how many runs there are at most once a range cuts them
abbrev pub most_parts : PageRange → List Run → ℕ
most_parts range rs = length rs + cut_count range rs

pub most-append : (range : PageRange) (rs ss : List Run) → most_parts range (rs ++ ss) ≡ most_parts range rs + most_parts range ss
most-append range rs ss = omega (arith, length-append rs ss, cuts-append range rs ss)

-- with the parts of one more run there are no more than those of all runs
pub parts_of_one_more : (range : PageRange) (rs : List Run) (i : ℕ) (r : Run) → i < length rs → r ≡ get_or rs i r → i + cut_count range (take i rs) + (1 + (cuts_at range.first r + cuts_at (range.first + range.pages) r)) ≤ most_parts range rs
parts_of_one_more range rs i r h e = omega (arith, cuts_more range rs i r h e, cuts_of_first range rs (i + 1))

-- ---- leaves one after the other

next_leaf : (ls : List (List Run)) (j : ℕ) (d : List Run) → j < length ls → runs_in (drop j ls) ≡ get_or ls j d ++ runs_in (drop (suc j) ls)
next_leaf [] j d h = absurd (omega arith)
next_leaf (l ∷ ls) zero d h = refl
next_leaf (l ∷ ls) (suc j) d h = next_leaf ls j d (omega arith)

pub leaf_and_rest : (ls : List (List Run)) (last l : List Run) (j : ℕ) → j < length ls → l ≡ get_or ls j l → runs_in (drop j ls) ++ last ≡ l ++ (runs_in (drop (j + 1) ls) ++ last)
leaf_and_rest ls last l j h at =
    let e : suc j ≡ j + 1 = omega arith in
    ap (λ rs. rs ++ last) (next_leaf ls j l h ∙ ap₂ (λ x k. x ++ runs_in (drop k ls)) (sym at) e) ∙ append_assoc l (runs_in (drop (j + 1) ls)) last

pub with_next : (ls : List (List Run)) (first l : List Run) (j : ℕ) → j < length ls → l ≡ get_or ls j l → (first ++ runs_in (take j ls)) ++ l ≡ first ++ runs_in (take (j + 1) ls)
with_next ls first l j h at =
    let e : suc j ≡ j + 1 = omega arith in
    ap (λ x. (first ++ runs_in (take j ls)) ++ x) at ∙ sym (runs_with_leaf first ls j l h) ∙ ap (λ k. first ++ runs_in (take k ls)) e

pub runs_of_both : (ls : List (List Run)) (j : ℕ) → runs_in ls ≡ runs_in (take j ls) ++ runs_in (drop j ls)
runs_of_both ls j = ap runs_in (sym (take-append-drop j ls)) ∙ runs_in-append (take j ls) (drop j ls)

pub rest_is_runs : (ls : List (List Run)) (j : ℕ) → AreRuns (runs_in ls) → AreRuns (runs_in (drop j ls))
rest_is_runs ls j a = runs-right (runs_in (take j ls)) (runs_in (drop j ls)) (subst AreRuns (runs_of_both ls j) a)

module _ (ls : List (List Run)) (l : List Run) (j : ℕ) (h : j < length ls) (e : l ≡ get_or ls j l) where
  pub leaf_then_rest : runs_in (drop j ls) ≡ l ++ runs_in (drop (j + 1) ls)
  leaf_then_rest = sym (append-nil (runs_in (drop j ls))) ∙ leaf_and_rest ls [] l j h e ∙ ap (λ rs. l ++ rs) (append-nil (runs_in (drop (j + 1) ls)))

  pub leaf_behind_first : runs_in (take j ls) ++ l ≡ runs_in (take (j + 1) ls)
  leaf_behind_first = with_next ls [] l j h e

  -- the parts of one more leaf
  pub most_of_next : (range : PageRange) → most_parts range (runs_in (take j ls)) + most_parts range l ≡ most_parts range (runs_in (take (j + 1) ls))
  most_of_next range = sym (most-append range (runs_in (take j ls)) l) ∙ ap (most_parts range) leaf_behind_first

  -- they are no more than the runs of all leaves and two
  pub next_fits : (range : PageRange) → AreRuns (runs_in ls) → most_parts range (runs_in (take j ls)) + most_parts range l ≤ length (runs_in ls) + 2
  next_fits range a =
      omega (arith, most_of_next range, ap (most_parts range) (runs_of_both ls (j + 1)), most-append range (runs_in (take (j + 1) ls)) (runs_in (drop (j + 1) ls)), two_cuts range (runs_in ls) a)
