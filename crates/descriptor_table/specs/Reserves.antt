-- What a table keeps so that a change takes no memory.
use Rattle.std.specs.Prelude.{ℕ, ◌+◌, ◌*◌, ◌≤◌, ◌^◌, nat_lt, ◌&&◌, List, [], ◌∷◌, if◌then◌else◌}
use Rattle.page_ranges.specs.declared.ranges.PageRange.{PageRange}
use Rattle.page_ranges.specs.declared.ranges.Run.{Run}
use Rattle.page_ranges.specs.Memory.{Page, IsProperMemory}
use Rattle.page_ranges.specs.Runs.{pages_of, AreMaximalRuns}
use Rattle.descriptor_table.specs.Leaves.{runs_in}
use Rattle.descriptor_table.specs.LeafRows.{Row, excess_of}

-- the pages of a table, and for how many changes memory is reserved
pub record Table : Type 0 where
  pub pages : List Page
  pub reserved : ℕ

-- a table with memory reserved for another number of changes
abbrev pub reserving : ℕ → Table → Table
reserving n t = record { pages = t.pages; reserved = n }

-- Maximal runs of a proper memory in leaves. Leaves for later have room for the excess and for the two
-- runs that each reserved change brings at most.
pub record IsReservedTable (row : Row) (reserved : ℕ) : Type 0 where
  pub maximal : AreMaximalRuns (runs_in row.leaves)
  pub proper : IsProperMemory (pages_of (runs_in row.leaves))
  pub room : excess_of row.leaves + 2 * reserved ≤ 15 * row.spare
  pub few : reserved ≤ 2 ^ 40

-- ---- how many runs a change brings

-- 1 where a page, which is not its first one, lies in a run
abbrev pub cuts_at : ℕ → Run → ℕ
cuts_at k r =
    if nat_lt r.range.first k && nat_lt k (r.range.first + r.range.pages) then 1 else 0

-- how many more runs there are once runs end where a range begins and where it ends
abbrev pub cut_count : PageRange → List Run → ℕ
cut_count range [] = 0
cut_count range (r ∷ rs) =
    cuts_at range.first r + (cuts_at (range.first + range.pages) r + cut_count range rs)
