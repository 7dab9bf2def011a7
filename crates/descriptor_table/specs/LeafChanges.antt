-- What runs hold once some of them gave way to others.
use Rattle.std.specs.Prelude.{◌≡◌, ℕ, ◌-◌, List, ◌++◌}
use Rattle.std.specs.List.{AllByRecursion}
use Rattle.page_ranges.specs.declared.ranges.Owner.{Owner}
use Rattle.page_ranges.specs.declared.ranges.PageRange.{PageRange}
use Rattle.page_ranges.specs.declared.ranges.Run.{Run}
use Rattle.page_ranges.specs.Memory.{retyped, row}
use Rattle.page_ranges.specs.Runs.{page_in, pages_of}
use Rattle.descriptor_table.specs.declared.retyping.Retyping.{Retyping}
use Rattle.descriptor_table.specs.Tables.{EndBy}

-- the pages of runs become those of a part of a run after others, from one page up to another
abbrev pub AppendsPart : ℕ → ℕ → Run → List Run → List Run → Type 0
AppendsPart first end run old new =
    pages_of new ≡ pages_of old ++ row (end - first) (page_in first run)

-- the pages of runs become those of others with a range retyped, after those that were there
abbrev pub AppendsRetyped : PageRange → ℕ → Owner → List Run → List Run → List Run → Type 0
AppendsRetyped range mtype owner runs old new =
    pages_of new ≡ pages_of old ++ retyped range mtype owner (pages_of runs)

-- each of some runs begins where others end, or above
abbrev pub BeginBehind : List Run → List Run → Type 0
BeginBehind others runs = AllByRecursion (λ r. EndBy r.range.first others) runs

-- new runs end by any page number by which the old ones and some others end
abbrev pub EndsWith : List Run → List Run → List Run → Type 0
EndsWith runs old new = (end : ℕ) → EndBy end runs → EndBy end old → EndBy end new

-- the pages of a range have a type and an owner in the new runs, and the others are as in the old
abbrev pub RetypesRuns : PageRange → ℕ → Owner → List Run → List Run → Type 0
RetypesRuns range mtype owner old new = pages_of new ≡ retyped range mtype owner (pages_of old)

abbrev pub Retypes : Retyping → List Run → List Run → Type 0
Retypes r old new = RetypesRuns r.range r.mtype r.owner old new
