-- Two lists of runs one after the other: whether the last run of the first goes on in the first run of the second.
use Rattle.std.proofs.Common.{◌≡◌, ℕ, ◌+◌, ◌≤◌, Bool, true, false, cond, List, [], ◌∷◌, ◌++◌, refl, sym, ap, ◌∙◌, arith}
use Rattle.std.specs.List.{AllByRecursion}
use Rattle.page_ranges.specs.declared.ranges.Run.{Run}
use Rattle.page_ranges.specs.Runs.{should_be_one_run, IsApartRun, AreRuns, AreMaximalRuns}
use Rattle.page_ranges.proofs.Members.{all_implied, all_append, all_append_left}
use Rattle.page_ranges.proofs.RunMaps.{runs_join, length_of_last, length_of_runs}
use Rattle.descriptor_table.specs.Tables.{EndBy}
use Rattle.descriptor_table.specs.Leaves.{entry_count}

-- the last of a run and the runs after it
abbrev pub last_run : Run → List Run → Run
last_run x [] = x
last_run x (y ∷ ys) = last_run y ys

-- the answer of a test at the last run of one list and the first of another, `false` where one of them is empty
abbrev pub meet : (Run → Run → Bool) → List Run → List Run → Bool
meet test [] ys = false
meet test (x ∷ xs) [] = false
meet test (x ∷ xs) (y ∷ ys) = test (last_run x xs) y

pub meet-rest : (test : Run → Run → Bool) (x y : Run) (xs zs : List Run) → meet test (x ∷ y ∷ xs) zs ≡ meet test (y ∷ xs) zs
meet-rest test x y xs [] = refl
meet-rest test x y xs (z ∷ zs) = refl

pub meet-append : (test : Run → Run → Bool) (xs : List Run) (y : Run) (ys zs : List Run) → meet test xs ((y ∷ ys) ++ zs) ≡ meet test xs (y ∷ ys)
meet-append test [] y ys zs = refl
meet-append test (x ∷ xs) y ys zs = refl

-- ---- maximal runs

apart-left : (x : Run) (xs ys : List Run) → IsApartRun x (xs ++ ys) → IsApartRun x xs
apart-left x [] ys a = tt
apart-left x (y ∷ xs) ys a = a

pub maximal-left : (xs ys : List Run) → AreMaximalRuns (xs ++ ys) → AreMaximalRuns xs
maximal-left [] ys a = tt
maximal-left (x ∷ xs) ys a = (a.0, all_append_left (λ s. x.range.first + x.range.pages ≤ s.range.first) xs ys a.1, apart-left x xs ys a.2, maximal-left xs ys a.3)

pub maximal-right : (xs ys : List Run) → AreMaximalRuns (xs ++ ys) → AreMaximalRuns ys
maximal-right [] ys a = a
maximal-right (x ∷ xs) ys a = maximal-right xs ys a.3

pub maximal-meet : (xs ys : List Run) → AreMaximalRuns (xs ++ ys) → meet should_be_one_run xs ys ≡ false
maximal-meet [] ys a = refl
maximal-meet (x ∷ []) [] a = refl
maximal-meet (x ∷ []) (y ∷ ys) a = a.2
maximal-meet (x ∷ y ∷ xs) ys a = meet-rest should_be_one_run x y xs ys ∙ maximal-meet (y ∷ xs) ys a.3

apart-append : (x : Run) (xs ys : List Run) → IsApartRun x xs → meet should_be_one_run (x ∷ xs) ys ≡ false → IsApartRun x (xs ++ ys)
apart-append x [] [] a m = tt
apart-append x [] (y ∷ ys) a m = m
apart-append x (y ∷ xs) ys a m = a

pub maximal-append : (n : ℕ) (xs ys : List Run) → AreMaximalRuns xs → EndBy n xs → AreMaximalRuns ys → AllByRecursion (λ s. n ≤ s.range.first) ys → meet should_be_one_run xs ys ≡ false → AreMaximalRuns (xs ++ ys)
maximal-append n [] ys a e b f m = b
maximal-append n (x ∷ []) ys a e b f m =
    (a.0, all_implied (λ s. n ≤ s.range.first) (λ s. x.range.first + x.range.pages ≤ s.range.first) (λ s h. omega (arith, e.0)) ys f, apart-append x [] ys tt m, b)
maximal-append n (x ∷ y ∷ xs) ys a e b f m =
    (a.0, all_append (λ s. x.range.first + x.range.pages ≤ s.range.first) (y ∷ xs) ys a.1 (all_implied (λ s. n ≤ s.range.first) (λ s. x.range.first + x.range.pages ≤ s.range.first) (λ s h. omega (arith, e.0)) ys f), a.2, maximal-append n (y ∷ xs) ys a.3 e.1 b f (sym (meet-rest should_be_one_run x y xs ys) ∙ m))

-- ---- entries of the map

abbrev pub one_if : Bool → ℕ
one_if joins = cond joins 1 0

one_or_none : (joins : Bool) (n : ℕ) → cond joins 0 1 + n + cond joins 1 0 ≡ 1 + n
one_or_none true n = omega arith
one_or_none false n = omega arith

-- where the two lists meet in one entry, that entry counts once
pub count-append : (xs ys : List Run) → AreRuns xs → AreRuns ys → entry_count (xs ++ ys) + cond (meet runs_join xs ys) 1 0 ≡ entry_count xs + entry_count ys
count-append [] ys a b = omega arith
count-append (x ∷ []) [] a b = refl
count-append (x ∷ []) (y ∷ ys) a b = omega (arith, length_of_last x a.0, length_of_runs x y ys a.0 b.0, one_or_none (runs_join x y) (entry_count (y ∷ ys)))
count-append (x ∷ y ∷ xs) ys a b =
    let same = ap one_if (meet-rest runs_join x y xs ys) in
    omega (arith, length_of_runs x y (xs ++ ys) a.0 a.2.0, length_of_runs x y xs a.0 a.2.0, count-append (y ∷ xs) ys a.2 b, same)
