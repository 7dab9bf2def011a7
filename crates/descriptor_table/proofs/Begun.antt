-- Where some runs meet, and the leaves up to one of them.
use Rattle.std.proofs.Common.{◌≡◌, ℕ, zero, suc, ◌+◌, ◌<◌, Bool, List, [], ◌∷◌, ◌++◌, length, get_or, take, drop, append_assoc, refl, sym, ap, ◌∙◌, arith}
use Rattle.std.proofs.Math.ListN.{set}
use Rattle.std.proofs.lemmas.List.{take-append-drop}
use Rattle.page_ranges.specs.declared.ranges.Run.{Run}
use Rattle.page_ranges.specs.Runs.{AreRuns}
use Rattle.page_ranges.proofs.RunMaps.{length_of_last, length_of_runs}
use Rattle.descriptor_table.specs.Leaves.{runs_in, entry_count}
use Rattle.descriptor_table.proofs.LeafLists.{runs_in-append, runs_in-last}
use Rattle.descriptor_table.proofs.Meetings.{last_run, meet, meet-rest}

-- ---- the last of some runs

last_at : (x : Run) (xs : List Run) (i : ℕ) (d : Run) → i ≡ length xs → get_or (x ∷ xs) i d ≡ last_run x xs
last_at x [] zero d e = refl
last_at x [] (suc i) d e = absurd (omega arith)
last_at x (y ∷ ys) zero d e = absurd (omega arith)
last_at x (y ∷ ys) (suc i) d e = last_at y ys i d (omega arith)

-- where two lists meet, by index
pub meet_at : (test : Run → Run → Bool) (xs ys : List Run) (i : ℕ) (x y : Run) → i + 1 ≡ length xs → 0 < length ys → x ≡ get_or xs i x → y ≡ get_or ys 0 y → meet test xs ys ≡ test x y
meet_at test [] ys i x y n h e f = absurd (omega arith)
meet_at test (w ∷ ws) [] i x y n h e f = absurd (omega arith)
meet_at test (w ∷ ws) (z ∷ zs) i x y n h e f = ap (λ r. test r z) (sym (e ∙ last_at w ws i x (omega arith))) ∙ ap (test x) (sym f)

pub meet_behind : (test : Run → Run → Bool) (rs bs zs : List Run) → 0 < length bs → meet test (rs ++ bs) zs ≡ meet test bs zs
meet_behind test [] bs zs h = refl
meet_behind test (r ∷ rs) [] zs h = absurd (omega arith)
meet_behind test (r ∷ []) (b ∷ bs) zs h = meet-rest test r b bs zs
meet_behind test (r ∷ q ∷ rs) (b ∷ bs) zs h = meet-rest test r q (rs ++ b ∷ bs) zs ∙ meet_behind test (q ∷ rs) (b ∷ bs) zs h

-- ---- entries

pub some_entry : (r : Run) (rs : List Run) → AreRuns (r ∷ rs) → 0 < entry_count (r ∷ rs)
some_entry r [] a = omega (arith, length_of_last r a.0)
some_entry r (s ∷ rs) a = omega (arith, length_of_runs r s rs a.0 a.2.0, some_entry s rs a.2)

pub some_entries : (rs : List Run) → AreRuns rs → 0 < length rs → 0 < entry_count rs
some_entries [] a h = absurd (omega arith)
some_entries (r ∷ rs) a h = some_entry r rs a

-- ---- leaves

-- the leaves up to one of them
pub with_leaf : (ls : List (List Run)) (i : ℕ) (d : List Run) → i < length ls → take (suc i) ls ≡ take i ls ++ get_or ls i d ∷ []
with_leaf [] i d h = absurd (omega arith)
with_leaf (l ∷ ls) zero d h = refl
with_leaf (l ∷ ls) (suc i) d h = ap (λ ms. l ∷ ms) (with_leaf ls i d (omega arith))

pub runs_with_leaf : (before : List Run) (ls : List (List Run)) (i : ℕ) (d : List Run) → i < length ls → before ++ runs_in (take (suc i) ls) ≡ (before ++ runs_in (take i ls)) ++ get_or ls i d
runs_with_leaf before ls i d h =
    ap (λ ms. before ++ runs_in ms) (with_leaf ls i d h) ∙ ap (λ rs. before ++ rs) (runs_in-last (take i ls) (get_or ls i d)) ∙ sym (append_assoc before (runs_in (take i ls)) (get_or ls i d))

pub all_with_leaf : (before : List Run) (ls : List (List Run)) (i : ℕ) (d : List Run) → i < length ls → before ++ runs_in ls ≡ ((before ++ runs_in (take i ls)) ++ get_or ls i d) ++ runs_in (drop (suc i) ls)
all_with_leaf before ls i d h =
    ap (λ ms. before ++ runs_in ms) (sym (take-append-drop (suc i) ls)) ∙ ap (λ rs. before ++ rs) (runs_in-append (take (suc i) ls) (drop (suc i) ls))
    ∙ sym (append_assoc before (runs_in (take (suc i) ls)) (runs_in (drop (suc i) ls))) ∙ ap (λ rs. rs ++ runs_in (drop (suc i) ls)) (runs_with_leaf before ls i d h)

-- one item that changes
pub set_parts : {X : Type 0} (xs : List X) (i : ℕ) (x : X) → i < length xs → set xs i x ≡ take i xs ++ (x ∷ [] ++ drop (suc i) xs)
set_parts [] i x h = absurd (omega arith)
set_parts (y ∷ xs) zero x h = refl
set_parts (y ∷ xs) (suc i) x h = ap (λ zs. y ∷ zs) (set_parts xs i x (omega arith))
