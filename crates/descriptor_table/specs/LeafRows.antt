-- A row of leaves, and spare leaves.
use Rattle.std.specs.Prelude.{◌≡◌, ◌⊎◌, ℕ, ◌+◌, ◌-◌, ◌*◌, ◌≤◌, List, [], ◌∷◌, ◌++◌, length, set, take, drop, Vec, vec_capacity}
use Rattle.std.specs.List.{AllByRecursion, remove}
use Rattle.page_ranges.specs.declared.ranges.Run.{Run}
use Rattle.page_ranges.specs.MemoryTypes.{page_count}
use Rattle.page_ranges.specs.Runs.{pages_of, AreMaximalRuns, AreRuns}
use Rattle.descriptor_table.specs.Leaves.{entry_count, leaf_at, runs_in, AreLeaves}
use Rattle.descriptor_table.specs.Tables.{EndBy}

-- the leaves, and the number of spare ones
pub record Row : Type 0 where
  pub leaves : List (List Run)
  pub spare : ℕ

-- the runs of the leaves before an index, and of those from an index on
abbrev pub runs_up_to : ℕ → List (List Run) → List Run
runs_up_to at ls = runs_in (take at ls)

abbrev pub runs_from : ℕ → List (List Run) → List Run
runs_from at ls = runs_in (drop at ls)

-- the leaves from an index on have maximal runs
abbrev pub AreMaximalFrom : ℕ → List (List Run) → Type 0
AreMaximalFrom at ls = AreMaximalRuns (runs_from at ls)

-- runs begin at a page or above it
abbrev pub BeginFrom : ℕ → List Run → Type 0
BeginFrom page rs = AllByRecursion (λ r. page ≤ r.range.first) rs

-- the entries of two maps: of the runs before an index, and of those from it on
abbrev pub entries_in_two : ℕ → List (List Run) → ℕ
entries_in_two at ls = entry_count (runs_up_to at ls) + entry_count (runs_from at ls)

-- the entries of three maps: of the runs before a leaf, of its own, and of those after it
abbrev pub entries_in_three : ℕ → List (List Run) → ℕ
entries_in_three at ls =
    entry_count (runs_up_to at ls) + entry_count (leaf_at ls at)
    + entry_count (runs_from (at + 1) ls)

-- the sum over the leaves of the runs that each has above 16
abbrev pub excess_of : List (List Run) → ℕ
excess_of [] = 0
excess_of (l ∷ ls) = (length l - 16) + excess_of ls

-- the excess of a leaf and of the one before it
abbrev pub excess_at_border : ℕ → List (List Run) → ℕ
excess_at_border at ls = (length (leaf_at ls (at - 1)) - 16) + (length (leaf_at ls at) - 16)

-- how many runs a leaf and the one before it have
abbrev pub runs_at_border : ℕ → List (List Run) → ℕ
runs_at_border at ls = length (leaf_at ls (at - 1)) + length (leaf_at ls at)

-- Each spare leaf counts for 15 runs, since a split of a full leaf lowers the excess by 15 or more.
-- What the spare leaves count for, less the excess, falls by at most n.
abbrev pub Takes : ℕ → Row → Row → Type 0
Takes n old new =
    excess_of new.leaves + 15 * old.spare ≤ excess_of old.leaves + n + 15 * new.spare

-- a leaf is empty, or has few enough runs to be merged into the one before it
abbrev pub AreFew : List Run → List Run → Type 0
AreFew before l = (length l ≡ 0) ⊎ (length before + length l ≤ 24)

-- only a leaf and the one before it change
abbrev pub ChangesTwo : ℕ → List (List Run) → List (List Run) → Type 0
ChangesTwo at old new = new ≡ set (set old (at - 1) (leaf_at new (at - 1))) at (leaf_at new at)

-- the first new leaves have the pages of the first old ones
abbrev pub KeepsPages : ℕ → List (List Run) → ℕ → List (List Run) → Type 0
KeepsPages at old now new = pages_of (runs_up_to now new) ≡ pages_of (runs_up_to at old)

-- the first new leaves end where the first old ones do, or below
abbrev pub KeepsEnds : ℕ → List (List Run) → List (List Run) → Type 0
KeepsEnds at old new = (n : ℕ) → EndBy n (runs_up_to at old) → EndBy n (runs_up_to at new)

-- If the runs of a leaf and others after it are maximal, the leaves up to that one with the same others
-- are maximal too after the border before the leaf is joined.
abbrev pub JoinsLeaves : ℕ → List (List Run) → List (List Run) → Type 0
JoinsLeaves at old new =
    (after : List Run) → AreMaximalRuns (leaf_at old at ++ after)
    → AreRuns (runs_up_to (at + 1) old ++ after)
    → AreMaximalRuns (runs_up_to (at + 1) new ++ after)

-- The two runs at the border before a leaf are one where they should be. Only that leaf and the one
-- before it change, and they keep their pages. The one before has as many runs as it had, and the
-- leaf has no more.
pub record JoinsBorder (at : ℕ) (old new : List (List Run)) : Type 0 where
  pub two : ChangesTwo at old new
  pub pages : KeepsPages (at + 1) old (at + 1) new
  pub order : JoinsLeaves at old new
  pub ends : KeepsEnds (at + 1) old new
  pub count : length (leaf_at new (at - 1)) ≡ length (leaf_at old (at - 1))
  pub fewer : length (leaf_at new at) ≤ length (leaf_at old at)

-- the leaves once one is merged into the one before it
abbrev pub merged_at : ℕ → List (List Run) → List (List Run)
merged_at at ls = set (remove ls at) (at - 1) (leaf_at ls (at - 1) ++ leaf_at ls at)

-- Runs in order, in leaves, with the number of their map entries and their excess. Both vectors have
-- capacity for all leaves, and the buffer has capacity for the runs of one.
pub record IsRow {A : Type 0} (leaves spare : Vec (List Run) A) (count beyond : ℕ)
    (parts : Vec Run A)
    : Type 0 where
  pub are_leaves : AreLeaves leaves.items
  pub runs : AreRuns (runs_in leaves.items)
  pub ends : EndBy page_count (runs_in leaves.items)
  pub entries : count ≡ entry_count (runs_in leaves.items)
  pub excess : beyond ≡ excess_of leaves.items
  pub fits : length leaves.items + length spare.items ≤ vec_capacity leaves
  pub spare_fit : length leaves.items + length spare.items ≤ vec_capacity spare
  pub parts_fit : 32 ≤ vec_capacity parts
