-- A leaf whose last runs go to a new leaf after it.
use Rattle.std.proofs.Common.{◌≡◌, ◌≢◌, ℕ, zero, suc, ◌+◌, ◌-◌, ◌<◌, ◌≤◌, List, [], ◌∷◌, ◌++◌, length, length-drop, take, drop, take_all, take-append-drop, append_assoc, refl, sym, ap, ap₂, ◌∙◌, arith}
use Rattle.std.proofs.lemmas.List.{get_or-set_other, length-take-le}
use Rattle.std.specs.List.{insert}
use Rattle.std.proofs.Math.ListN.{set}
use Rattle.page_ranges.specs.declared.ranges.Run.{Run}
use Rattle.descriptor_table.specs.LeafRows.{excess_at_border, excess_of}
use Rattle.descriptor_table.specs.Leaves.{leaf_at, runs_in, AreLeaves, IsLeaf}

-- a leaf's excess is no more than that of all
pub excess_at : (ls : List (List Run)) (i : ℕ) → length (leaf_at ls i) - 16 ≤ excess_of ls
excess_at [] i = omega arith
excess_at (l ∷ ls) zero = omega arith
excess_at (l ∷ ls) (suc i) = omega (arith, excess_at ls i)

-- one leaf that changes, and the excess
pub excess_set : (ls : List (List Run)) (i : ℕ) (x : List Run) → i < length ls → excess_of (set ls i x) + (length (leaf_at ls i) - 16) ≡ excess_of ls + (length x - 16)
excess_set [] i x h = absurd (omega arith)
excess_set (l ∷ ls) zero x h = omega arith
excess_set (l ∷ ls) (suc i) x h = omega (arith, excess_set ls i x (omega arith))

-- nor is that of a leaf and the one before it
pub border_within : (ls : List (List Run)) (at : ℕ) → (0 < at) × (at < length ls) → excess_at_border at ls ≤ excess_of ls
border_within ls at bound =
    let apart : at ≢ at - 1 = omega (arith, bound.0) in
    let rest = set ls (at - 1) [] in
    omega (arith, excess_set ls (at - 1) [] (omega (arith, bound.1)), excess_at rest at, ap length (get_or-set_other ls (at - 1) at [] [] apart))

module _ (x y : List Run) where
  abbrev pub split_at : List (List Run) → ℕ → List (List Run)
  split_at ls i = insert (set ls i x) (suc i) y

  pub split_behind : (ls : List (List Run)) (i : ℕ) → i < length ls → leaf_at ls i ≡ x ++ y → runs_in (drop i (split_at ls i)) ≡ runs_in (drop i ls)
  split_behind [] i h e = absurd (omega arith)
  split_behind (l ∷ ls) zero h e = sym (append_assoc x y (runs_in ls)) ∙ ap (λ rs. rs ++ runs_in ls) (sym e)
  split_behind (l ∷ ls) (suc i) h e = split_behind ls i (omega arith) e

  pub split_runs : (ls : List (List Run)) (i : ℕ) → i < length ls → leaf_at ls i ≡ x ++ y → runs_in (split_at ls i) ≡ runs_in ls
  split_runs [] i h e = absurd (omega arith)
  split_runs (l ∷ ls) zero h e = split_behind (l ∷ ls) zero h e
  split_runs (l ∷ ls) (suc i) h e = ap (λ rs. l ++ rs) (split_runs ls i (omega arith) e)

  pub split_first : (ls : List (List Run)) (i : ℕ) → i < length ls → leaf_at (split_at ls i) i ≡ x
  split_first [] i h = absurd (omega arith)
  split_first (l ∷ ls) zero h = refl
  split_first (l ∷ ls) (suc i) h = split_first ls i (omega arith)

  pub split_excess : (ls : List (List Run)) (i : ℕ) → i < length ls → excess_of (split_at ls i) + (length (leaf_at ls i) - 16) ≡ excess_of ls + (length x - 16) + (length y - 16)
  split_excess [] i h = absurd (omega arith)
  split_excess (l ∷ ls) zero h = omega arith
  split_excess (l ∷ ls) (suc i) h = omega (arith, split_excess ls i (omega arith))

  pub split_leaves : (ls : List (List Run)) (i : ℕ) → i < length ls → AreLeaves ls → IsLeaf x → IsLeaf y → AreLeaves (split_at ls i)
  split_leaves [] i h a b c = absurd (omega arith)
  split_leaves (l ∷ ls) zero h a b c = (b, (c, a.1))
  split_leaves (l ∷ ls) (suc i) h a b c = (a.0, split_leaves ls i (omega arith) a.1 b c)

  pub split_length : (ls : List (List Run)) (i : ℕ) → i < length ls → length (split_at ls i) ≡ length ls + 1
  split_length [] i h = absurd (omega arith)
  split_length (l ∷ ls) zero h = omega arith
  split_length (l ∷ ls) (suc i) h = omega (arith, split_length ls i (omega arith))

-- ---- a full leaf and its two halves

module _ (ls : List (List Run)) (i : ℕ) (h : i < length ls) where
  abbrev pub low_half : List Run
  low_half = take 16 (leaf_at ls i)

  abbrev pub high_half : List Run
  high_half = drop 16 (leaf_at ls i)

  pub split_put : (new : List (List Run)) (runs leaf front back : List Run) → runs ≡ leaf_at ls i → leaf ≡ leaf_at ls i → front ≡ take 16 leaf → back ≡ take (length runs - 16) (drop 16 runs) → new ≡ insert (set ls i front) (i + 1) back → new ≡ split_at low_half high_half ls i
  split_put new runs leaf front back a b c d e =
      let next : i + 1 ≡ suc i = omega arith in
      let second : back ≡ high_half = d ∙ take_all (length runs - 16) (drop 16 runs) (omega (arith, length-drop 16 runs)) ∙ ap (drop 16) a in
      e ∙ ap₂ (λ x y. insert (set ls i x) (i + 1) y) (c ∙ ap (take 16) b) second ∙ ap (λ k. insert (set ls i low_half) k high_half) next

  pub halves : leaf_at ls i ≡ low_half ++ high_half
  halves = sym (take-append-drop 16 (leaf_at ls i))

  module _ (full : 31 ≤ length (leaf_at ls i)) (most : length (leaf_at ls i) ≤ 32) where
    pub low_length : length low_half ≡ 16
    low_length = length-take-le 16 (leaf_at ls i) (omega arith)

    pub high_length : length high_half ≡ length (leaf_at ls i) - 16
    high_length = length-drop 16 (leaf_at ls i)

    pub half_leaves : AreLeaves ls → AreLeaves (split_at low_half high_half ls i)
    half_leaves a = split_leaves low_half high_half ls i h a (omega (arith, low_length), omega (arith, low_length)) (omega (arith, full, high_length), omega (arith, most, high_length))

    pub half_excess : excess_of (split_at low_half high_half ls i) + (length (leaf_at ls i) - 16) ≡ excess_of ls
    half_excess = omega (arith, split_excess low_half high_half ls i h, low_length, high_length, most)
