-- Some leaves of all, and one leaf that changes.
use Rattle.std.proofs.Common.{◌≡◌, ℕ, zero, suc, ◌+◌, ◌-◌, ◌<◌, ◌≤◌, List, [], ◌∷◌, ◌++◌, length, length-append, length-drop, get_or, take, drop, append_assoc, refl, sym, ap, ◌∙◌, arith}
use Rattle.std.proofs.Math.ListN.{set}
use Rattle.std.proofs.lemmas.List.{drop-drop, length-take-le, take-append-drop}
use Rattle.page_ranges.specs.declared.ranges.Run.{Run}
use Rattle.descriptor_table.specs.Leaves.{runs_in, IsLeaf, AreLeaves}
use Rattle.descriptor_table.proofs.LeafLists.{runs_in-append}

module _ (ls : List (List Run)) (from to : ℕ) where
  abbrev pub some_leaves : List (List Run)
  some_leaves = take (to - from) (drop from ls)

  pub leaf_parts : from ≤ to → runs_in ls ≡ runs_in (take from ls) ++ (runs_in some_leaves ++ runs_in (drop to ls))
  leaf_parts h =
      let rest : drop (to - from) (drop from ls) ≡ drop to ls = drop-drop (to - from) from ls ∙ ap (λ k. drop k ls) (let e : from + (to - from) ≡ to = omega arith in e) in
      let parts : ls ≡ take from ls ++ (some_leaves ++ drop to ls) = sym (take-append-drop from ls) ∙ ap (λ ys. take from ls ++ ys) (sym (take-append-drop (to - from) (drop from ls)) ∙ ap (λ ys. some_leaves ++ ys) rest) in
      ap runs_in parts ∙ runs_in-append (take from ls) (some_leaves ++ drop to ls) ∙ ap (λ rs. runs_in (take from ls) ++ rs) (runs_in-append some_leaves (drop to ls))

-- ---- one leaf that changes

pub set_runs : (ls : List (List Run)) (i : ℕ) (x : List Run) → i < length ls → runs_in (set ls i x) ≡ runs_in (take i ls) ++ (x ++ runs_in (drop (suc i) ls))
set_runs [] i x h = absurd (omega arith)
set_runs (l ∷ ls) zero x h = refl
set_runs (l ∷ ls) (suc i) x h = ap (λ rs. l ++ rs) (set_runs ls i x (omega arith)) ∙ sym (append_assoc l (runs_in (take i ls)) (x ++ runs_in (drop (suc i) ls)))

pub set_leaves : (ls : List (List Run)) (i : ℕ) (x : List Run) → AreLeaves ls → IsLeaf x → AreLeaves (set ls i x)
set_leaves [] i x a b = tt
set_leaves (l ∷ ls) zero x a b = (b, a.1)
set_leaves (l ∷ ls) (suc i) x a b = (a.0, set_leaves ls i x a.1 b)

pub set_same : (ls : List (List Run)) (i : ℕ) (d : List Run) → set ls i (get_or ls i d) ≡ ls
set_same [] i d = refl
set_same (l ∷ ls) zero d = refl
set_same (l ∷ ls) (suc i) d = ap (λ ms. l ∷ ms) (set_same ls i d)

pub replaced_length : (rs parts : List Run) (low high : ℕ) → low ≤ high → high ≤ length rs → length (take low rs ++ (parts ++ drop high rs)) + (high - low) ≡ length rs + length parts
replaced_length rs parts low high a b = omega (arith, length-append (take low rs) (parts ++ drop high rs), length-append parts (drop high rs), length-take-le low rs (omega arith), length-drop high rs)
