-- Runs in leaves.
use Rattle.std.specs.Prelude.{◌≡◌, ℕ, ◌<◌, ◌≤◌, zero, suc, List, [], ◌∷◌, Option, Some, None, length, drop, slice_get, slice_index_or, flat_map}
use Rattle.std.specs.List.{AllByRecursion}
use Rattle.page_ranges.specs.declared.ranges.Run.{Run}
use Rattle.page_ranges.specs.MemoryMap.{memory_map}
use Rattle.page_ranges.specs.Runs.{pages_of}

-- the first page of the first run
abbrev pub first_page : List Run → ℕ
first_page [] = 0
first_page (r ∷ rs) = r.range.first

-- the runs of leaves, one leaf after the other
abbrev pub runs_in : List (List Run) → List Run
runs_in ls = flat_map (λ l. l) ls

-- the leaf at an index
abbrev pub leaf_at : List (List Run) → ℕ → List Run
leaf_at ls i = slice_index_or ls i []

-- a leaf has at least one run, and at most 32
abbrev pub IsLeaf : List Run → Type 0
IsLeaf l = (0 < length l) × (length l ≤ 32)

abbrev pub AreLeaves : List (List Run) → Type 0
AreLeaves ls = AllByRecursion IsLeaf ls

-- how many entries the map of runs has
abbrev pub entry_count : List Run → ℕ
entry_count rs = length (memory_map (pages_of rs))

-- ---- a walk along runs

-- the answer is the next run, and the others are left; or none is left
abbrev pub PassesRun : List Run → Option Run → List Run → Type 0
PassesRun old None new = (old ≡ []) × (new ≡ old)
PassesRun old (Some r) new = old ≡ r ∷ new

-- the runs from one on that was passed last; none where there is no such run
abbrev pub runs_with_first : Option Run → List Run → List Run
runs_with_first None rs = []
runs_with_first (Some r) rs = r ∷ rs

-- the run before the one at an index
abbrev pub run_before : List Run → ℕ → Option Run
run_before rs zero = None
run_before rs (suc i) = slice_get rs i

-- the run that was passed last, and the runs that are still to come
pub record RunPlace : Type 0 where
  pub before : Option Run
  pub rest : List Run

-- a place among runs: those from an index on are to come
pub record IsPlace (rs : List Run) (p : RunPlace) : Type 0 where
  pub index : ℕ
  pub bound : index ≤ length rs
  pub to_come : p.rest ≡ drop index rs
  pub passed : p.before ≡ run_before rs index
