-- Walks along the runs of leaves, and the entries that they come to.
use Rattle.std.specs.Prelude.{◌≡◌, ℕ, ◌+◌, ◌-◌, ◌<◌, ◌≤◌, ◌==◌, List, ◌∷◌, Option, Some, filter, length, take, slice_get}
use Rattle.page_ranges.specs.declared.ranges.Descriptor.{Descriptor}
use Rattle.page_ranges.specs.declared.ranges.Run.{Run}
use Rattle.page_ranges.specs.MemoryTypes.{conventional, page_count}
use Rattle.page_ranges.specs.Memory.{IsProperMemory}
use Rattle.page_ranges.specs.MemoryMap.{memory_map}
use Rattle.page_ranges.specs.Cursors.{IsBlockAt}
use Rattle.page_ranges.specs.Runs.{pages_of, AreMaximalRuns, AreRuns}
use Rattle.descriptor_table.specs.Leaves.{leaf_at, run_before, runs_in, runs_with_first, AreLeaves, IsPlace}
use Rattle.descriptor_table.specs.LeafSummaries.{MarksFree}
use Rattle.descriptor_table.specs.Tables.{EndBy, IsBlockBelow}

-- ---- runs by their ends

-- a run ends above a page
abbrev pub EndsAbove : ℕ → Run → Type 0
EndsAbove page r = page < r.range.first + r.range.pages

-- a run ends at a page or above it
abbrev pub EndsFrom : ℕ → Run → Type 0
EndsFrom page r = page ≤ r.range.first + r.range.pages

-- ---- entries

-- the memory map of some runs
abbrev pub map_of_runs : List Run → List Descriptor
map_of_runs rs = memory_map (pages_of rs)

-- the memory map of a run that was passed, if there is one, and the runs to come
abbrev pub map_from : Option Run → List Run → List Descriptor
map_from passed rs = map_of_runs (runs_with_first passed rs)

-- runs in order that lie among all pages
abbrev pub AreRunsOfPages : List Run → Type 0
AreRunsOfPages rs = AreRuns rs × EndBy page_count rs

-- the conventional entries of the memory map of some runs
abbrev pub free_in : List Run → List Descriptor
free_in rs = filter (λ e. e.mtype == conventional) (memory_map (pages_of rs))

-- the entry that begins with a run and ends where a page begins
abbrev pub entry_up_to : Run → ℕ → Descriptor
entry_up_to r end =
    record {
      mtype = r.mtype;
      first = r.range.first;
      pages = end - r.range.first;
      attributes = r.attributes;
    }

-- ---- places in leaves

-- the run before the one at an index of a leaf
abbrev pub run_below : List (List Run) → ℕ → ℕ → Option Run
run_below ls leaf index = run_before (runs_in ls) (length (runs_in (take leaf ls)) + index)

-- the run after the one at an index of a leaf
abbrev pub run_above : List (List Run) → ℕ → ℕ → Option Run
run_above ls leaf index = slice_get (runs_in ls) (length (runs_in (take leaf ls)) + index + 1)

-- leaves whose runs are maximal and make a proper memory
abbrev pub AreProperLeaves : List (List Run) → Type 0
AreProperLeaves ls =
    AreLeaves ls × AreMaximalRuns (runs_in ls) × IsProperMemory (pages_of (runs_in ls))

-- leaves whose runs are maximal and make a proper memory, and an index of one of them or their number
abbrev pub AreLeavesDownFrom : List (List Run) → ℕ → Type 0
AreLeavesDownFrom ls leaf = AreProperLeaves ls × (leaf ≤ length ls)

-- the runs of the leaf at an index, with a bit for each free one, and a number of them
abbrev pub AreRunsOfLeaf : List (List Run) → ℕ → List Run → ℕ → ℕ → Type 0
AreRunsOfLeaf ls leaf rs marks count = AreProperLeaves ls × (leaf < length ls)
    × (rs ≡ leaf_at ls leaf) × MarksFree marks rs × (count ≤ length rs)

-- a free one of these runs and its index
abbrev pub IsFreeRunOfLeaf : List (List Run) → ℕ → List Run → ℕ → ℕ → Run → Type 0
IsFreeRunOfLeaf ls leaf rs marks index run = AreProperLeaves ls × (leaf < length ls)
    × (rs ≡ leaf_at ls leaf) × MarksFree marks rs × (slice_get rs index ≡ Some run)
    × (run.mtype ≡ conventional)

-- ---- blocks beside a run

-- In each memory of maximal runs in which a run comes right after another one, or is the first, the
-- answer is a block with the page just below it.
abbrev pub IsBelowRun : Option Run → Run → Option Descriptor → Type 0
IsBelowRun below r result = (rs ss : List Run) → AreMaximalRuns rs → IsProperMemory (pages_of rs)
    → IsPlace rs (record { before = below; rest = r ∷ ss })
    → IsBlockBelow (pages_of rs) r.range.first result

-- In each memory of maximal runs in which another one comes right after a run, or the run is the
-- last, the answer is a block with the page just after it.
abbrev pub IsAboveRun : Run → Option Run → Option Descriptor → Type 0
IsAboveRun r above result = (rs ss : List Run) (o : Option Run) → AreMaximalRuns rs
    → IsProperMemory (pages_of rs) → IsPlace rs (record { before = o; rest = r ∷ ss })
    → above ≡ slice_get ss 0
    → IsBlockAt (pages_of rs) (r.range.first + r.range.pages) result
