-- Sorted runs as the table of a memory.
use Rattle.std.specs.Prelude.{◌≡◌, ℕ, zero, suc, ◌+◌, ◌<◌, ◌≤◌, List, [], ◌∷◌, ◌++◌, take, drop, length, Contains, IfSome, Option, Some, None}
use Rattle.std.specs.List.{AllByRecursion}
use Rattle.std.specs.Option.{option_map}
use Rattle.page_ranges.specs.declared.ranges.PageRange.{PageRange}
use Rattle.page_ranges.specs.declared.ranges.Run.{Run}
use Rattle.page_ranges.specs.declared.ranges.Descriptor.{Descriptor}
use Rattle.page_ranges.specs.Memory.{Page, page_at, IsProperMemory}
use Rattle.page_ranges.specs.MemoryMap.{memory_map}
use Rattle.page_ranges.specs.Cursors.{IsBlockAt}
use Rattle.page_ranges.specs.Runs.{page_in, pages_of, runs_of, IsInRun, AreMaximalRuns}

-- a run as an entry of a map, its owner left out
abbrev pub entry_of : Run → Descriptor
entry_of r =
    record {
      mtype = r.mtype;
      first = r.range.first;
      pages = r.range.pages;
      attributes = r.attributes;
    }

-- all runs end at a page number or below it
abbrev pub EndBy : ℕ → List Run → Type 0
EndBy n rs = AllByRecursion (λ r. r.range.first + r.range.pages ≤ n) rs

-- maximal runs that end at a page number or below it
abbrev pub AreMaximalUpTo : ℕ → List Run → Type 0
AreMaximalUpTo n rs = AreMaximalRuns rs × EndBy n rs

-- maximal runs with the pages of the old ones and of a run after these, where they end
pub record PutsBehind (old : List Run) (r : Run) (new : List Run) : Type 0 where
  pub pages : pages_of new ≡ pages_of old ++ pages_of (r ∷ [])
  pub order : AreMaximalUpTo (r.range.first + r.range.pages) new

-- A table: maximal runs that make a proper memory, and the number of entries of its map.
pub record IsTable (rs : List Run) (count : ℕ) : Type 0 where
  pub maximal : AreMaximalRuns rs
  pub proper : IsProperMemory (pages_of rs)
  pub entries : count ≡ length (memory_map (pages_of rs))

-- the run that was found shows what the page of a number is
abbrev pub ShowsPage : List Run → ℕ → Option Run → Type 0
ShowsPage rs k found = page_at (pages_of rs) k ≡ option_map (page_in k) found

-- a run that was found is one of some and holds the page of a number
abbrev pub IsHolder : List Run → ℕ → Option Run → Type 0
IsHolder rs k found = IfSome found (λ r. Contains rs r × IsInRun r k)

-- the answer to which run holds a page: a maximal run of the memory with the page in it, or none
-- where the page is absent
abbrev pub HoldsPage : List Page → ℕ → Option Run → Type 0
HoldsPage m k None = page_at m k ≡ None
HoldsPage m k (Some r) = Contains (runs_of m) r × IsInRun r k

-- the answer to which block holds the page just below a number; there is none below 0
abbrev pub IsBlockBelow : List Page → ℕ → Option Descriptor → Type 0
IsBlockBelow m zero o = o ≡ None
IsBlockBelow m (suc k) o = IsBlockAt m k o

-- Between two indices are all runs that share a page with a range or touch it: those before end
-- below it, and those after begin above it.
pub record IsWindow (rs : List Run) (range : PageRange) (low high : ℕ) : Type 0 where
  pub order : low ≤ high
  pub bound : high ≤ length rs
  pub below : AllByRecursion (λ r. r.range.first + r.range.pages < range.first) (take low rs)
  pub above : AllByRecursion (λ r. range.first + range.pages < r.range.first) (drop high rs)
