-- Runs: pages in a row of one type, one set of attributes and one owner. A list of them represents
-- a memory.
use Rattle.std.specs.Prelude.{◌≡◌, ℕ, ◌+◌, ◌≤◌, ◌<◌, Bool, true, false, ◌&&◌, ◌==◌, List, [], ◌∷◌, flat_map, if◌then◌else◌}
use Rattle.std.specs.List.{AllByRecursion}
use Rattle.page_ranges.specs.declared.ranges.Owner.{Owner}
use Rattle.page_ranges.specs.declared.ranges.Owner.TheVariants.{Given, Pages, Pool}
use Rattle.page_ranges.specs.declared.ranges.Run.{Run}
use Rattle.page_ranges.specs.MemoryTypes.{is_machine_type}
use Rattle.page_ranges.specs.Memory.{Page, row, IsProperMemory}

-- the page with a number, as one of a run
abbrev pub page_in : ℕ → Run → Page
page_in k r = record { number = k; mtype = r.mtype; attributes = r.attributes; owner = r.owner }

-- the pages of runs
abbrev pub pages_of : List Run → List Page
pages_of rs = flat_map (λ r. row r.range.pages (page_in r.range.first r)) rs

-- the page number is one of the run's
pub record IsInRun (r : Run) (k : ℕ) : Type 0 where
  pub low : r.range.first ≤ k
  pub high : k < r.range.first + r.range.pages

-- nonempty runs, each of which ends before those after it
abbrev pub AreRuns : List Run → Type 0
AreRuns [] = Unit {0}
AreRuns (r ∷ rs) =
    (0 < r.range.pages) × AllByRecursion (λ s. r.range.first + r.range.pages ≤ s.range.first) rs
    × AreRuns rs

-- A machine: runs in order, of the machine's own, of types that a machine may have, which make a
-- proper memory.
pub record IsValidMachine (rs : List Run) : Type 0 where
  pub runs : AreRuns rs
  pub given : AllByRecursion (λ r. r.owner ≡ Given) rs
  pub mtypes : AllByRecursion (λ r. is_machine_type r.mtype ≡ true) rs
  pub proper : IsProperMemory (pages_of rs)

-- ---- maximal runs

abbrev pub is_same_owner : Owner → Owner → Bool
is_same_owner Given Given = true
is_same_owner Pages Pages = true
is_same_owner Pool Pool = true
is_same_owner a b = false

-- the second run begins where the first ends, and has its type, attributes and owner
abbrev pub should_be_one_run : Run → Run → Bool
should_be_one_run r s =
    (r.range.first + r.range.pages == s.range.first) && (r.mtype == s.mtype)
    && (r.attributes == s.attributes) && is_same_owner r.owner s.owner

-- a page as a run of its own
abbrev pub run_of : Page → Run
run_of x =
    record {
      range = record { first = x.number; pages = 1 };
      mtype = x.mtype;
      attributes = x.attributes;
      owner = x.owner;
    }

-- the runs of a page and of the pages above it, which make these runs: the page goes on in the
-- first, or is alone
abbrev pub with_page_below_runs : Page → List Run → List Run
with_page_below_runs x [] = run_of x ∷ []
with_page_below_runs x (r ∷ rs) =
    if should_be_one_run (run_of x) r
    then record (run_of x) { range = record { first = x.number; pages = r.range.pages + 1 } } ∷ rs
    else run_of x ∷ r ∷ rs

-- the maximal runs of a memory, ascending
abbrev pub runs_of : List Page → List Run
runs_of [] = []
runs_of (x ∷ xs) = with_page_below_runs x (runs_of xs)

-- the next run, if there is one, is another
abbrev pub IsApartRun : Run → List Run → Type 0
IsApartRun r [] = Unit {0}
IsApartRun r (s ∷ ss) = should_be_one_run r s ≡ false

-- runs in order, no two neighbours of which should be one
abbrev pub AreMaximalRuns : List Run → Type 0
AreMaximalRuns [] = Unit {0}
AreMaximalRuns (r ∷ rs) =
    (0 < r.range.pages) × AllByRecursion (λ s. r.range.first + r.range.pages ≤ s.range.first) rs
    × IsApartRun r rs × AreMaximalRuns rs
