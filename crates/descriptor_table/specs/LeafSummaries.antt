-- What is kept of a leaf.
use Rattle.std.specs.Prelude.{◌≡◌, ℕ, ◌+◌, ◌-◌, ◌⊎◌, ◌<◌, ◌≤◌, ◌++◌, Bool, List, Some, length, take, drop, slice_get}
use Rattle.std.specs.Int.{bit_at}
use Rattle.page_ranges.specs.declared.ranges.Run.{Run}
use Rattle.page_ranges.specs.MemoryTypes.{conventional}
use Rattle.descriptor_table.specs.declared.summaries.Summary.{Summary}
use Rattle.descriptor_table.specs.Leaves.{first_page, run_before}
use Rattle.descriptor_table.specs.Summaries.{Allows, AllowsRun, BeginsFree, EndsFree, IsFreeRun}

-- the bit of each free run is set
abbrev pub MarksFree : ℕ → List Run → Type 0
MarksFree marks rs = (i : ℕ) → IsFreeRun (slice_get rs i) → bit_at marks i ≡ 1

-- no bit is set from one index on and below another
abbrev pub NoneMarked : ℕ → ℕ → ℕ → Type 0
NoneMarked marks low high = (j : ℕ) → low ≤ j → j < high → bit_at marks j ≡ 0

-- Runs of which those between two indices gave way to others, no more than a leaf has room for: where old
-- bits are set for the free ones of any runs before, new bits are for those after.
abbrev pub StillMarks : ℕ → ℕ × ℕ → List Run → ℕ → Type 0
StillMarks old window parts new =
    (rs : List Run) → MarksFree old rs → window.1 ≤ length rs
    → length rs + length parts ≤ 32 + (window.1 - window.0)
    → MarksFree new (take window.0 rs ++ (parts ++ drop window.1 rs))

-- the first page of a leaf, marks that are set if its first run or its last one is free, a summary
-- that allows each free run, how many runs there are, and a bit for each free one
abbrev pub IsKeptOf : List Run → ℕ → Bool → Bool → Summary → ℕ → ℕ → Type 0
IsKeptOf rs first begins_free ends_free summary count marks = (first ≡ first_page rs)
    × BeginsFree begins_free rs × EndsFree ends_free rs × Allows summary rs × (count ≡ length rs)
    × MarksFree marks rs

-- A new summary of runs allows each free run between two indices or beside these, and each that the old
-- one allows.
abbrev pub AllowsNear : List Run → ℕ → ℕ → Summary → Summary → Type 0
AllowsNear rs low high old new =
    (i : ℕ) (r : Run) → slice_get rs i ≡ Some r → r.mtype ≡ conventional
    → ((low ≤ i + 1) × (i ≤ high)) ⊎ AllowsRun old (run_before rs i) r (slice_get rs (i + 1))
    → AllowsRun new (run_before rs i) r (slice_get rs (i + 1))
