-- What a store represents: a region, how many cells it has, and the head of its list of free runs.
use Rattle.std.specs.Prelude.{◌≡◌, ◌≢◌, ◌≤◌, ◌<◌, ℕ, ◌+◌, ◌-◌, ◌*◌, ◌/◌, ◌==◌, min, cond, List, [], ◌∷◌, length, slice_index, Option, MatchOption}
use Rattle.std.specs.List.{AllByRecursion}
use Rattle.raw_pool.specs.Bytes.{Bytes, extended, put, word}
use Rattle.raw_pool.specs.Blocks.{Block, Pool, longest_run}
use Rattle.raw_pool.specs.FreeList.{FreeRun, block_in, blocks_in, link}
use Rattle.raw_pool.specs.Searches.{IsRegion, IsStore, Scan, pool_of, runs_of, with_link, with_run}
use Rattle.raw_pool.specs.declared.store.Store.{Store}

-- the store is laid out
abbrev pub IsLaidStore : {A : Type 0} → Store A → Type 0
IsLaidStore s = IsStore s.region.bytes s.region.marks s.cells s.head

-- the pool that it represents
abbrev pub pool_in : {A : Type 0} → Store A → Pool
pool_in s = pool_of s.region.bytes s.region.marks s.cells

-- its blocks
abbrev pub blocks_of : {A : Type 0} → Store A → List Block
blocks_of s = blocks_in s.region.bytes.set s.region.marks.set

-- the number that it keeps is how many cells its longest free run has
abbrev pub KnowsLongest : {A : Type 0} → Store A → Type 0
KnowsLongest s = s.longest ≡ longest_run s.cells 0 (blocks_of s)

-- it is fresh or laid out, and knows its longest free run
abbrev pub IsWholeStore : {A : Type 0} → Store A → Type 0
IsWholeStore s = IsRegion s.region.bytes s.region.marks s.cells s.head × KnowsLongest s

-- what a block at a cell is by its header
abbrev pub block_by_header : {A : Type 0} → Store A → ℕ → Block
block_by_header s cell = block_in s.region.bytes.set cell

-- its free runs
abbrev pub free_runs_of : {A : Type 0} → Store A → List FreeRun
free_runs_of s = runs_of s.region.bytes s.region.marks s.cells

-- the first cell behind a free run
abbrev pub run_end : {A : Type 0} → Store A → ℕ → ℕ
run_end s run = run + word s.region.bytes.set (32 * run)

-- the run behind a free run, or behind the list's head
abbrev pub run_behind : {A : Type 0} → Store A → ℕ → ℕ
run_behind s run = link s.region.bytes.set s.cells s.head run

-- a cell's mark says that a block begins there
abbrev pub IsMarked : {A : Type 0} → Store A → ℕ → Type 0
IsMarked s cell = (cell < length s.region.marks.set) × (slice_index s.region.marks.set cell ≢ 0)

-- a free run's header is set, and its cells are among those of the store
abbrev pub IsRunIn : {A : Type 0} → Store A → ℕ → Type 0
IsRunIn s run = (32 * run + 16 ≤ length s.region.bytes.set) × (run_end s run ≤ s.cells)

-- the same of a run that begins before a cell
abbrev pub IsRunBefore : {A : Type 0} → Store A → ℕ → ℕ → Type 0
IsRunBefore s run cell =
    (32 * run + 16 ≤ length s.region.bytes.set) × (run_end s run ≤ s.cells) × (run < cell)

-- all free runs up to `last` were passed, and the run behind it begins at `next`
abbrev pub HasPassed : {A : Type 0} → (FreeRun → Type 0) → Store A → ℕ → ℕ → Type 0
HasPassed passes s last next =
    Scan passes s.region.bytes.set s.cells s.head (free_runs_of s) last next

-- the first free run of at least this many cells, with what lies before it in the list
abbrev pub IsFit : {A : Type 0} → Store A → ℕ → Option (ℕ × ℕ) → Type 0
IsFit s need found =
    MatchOption found (AllByRecursion (λ r. r.cells < need) (free_runs_of s))
    (λ p. HasPassed (λ r. r.cells < need) s p.0 p.1 × (p.1 < s.cells)
    × (need ≤ word s.region.bytes.set (32 * p.1)))

-- ---- what a change leaves

-- the bytes once the link behind a run is set; the list's head is not among them
abbrev pub bytes_with_link : {A : Type 0} → Store A → ℕ → ℕ → Bytes
bytes_with_link s run next =
    record { set = with_link s.region.bytes.set s.cells run next; room = s.region.bytes.room }

-- the bytes once the header of a free run is written
abbrev pub bytes_with_run : {A : Type 0} → Store A → ℕ → ℕ → ℕ → Bytes
bytes_with_run s run cells next =
    record { set = with_run s.region.bytes.set run cells next; room = s.region.bytes.room }

-- where the page of a cell ends, in cells
abbrev pub page_end : ℕ → ℕ → ℕ
page_end cells cell = min cells ((cell / 128 + 1) * 128)

-- the marks once a cell is marked as the first of a block, where those of its page are set
abbrev pub marks_with : {A : Type 0} → Store A → ℕ → Bytes
marks_with s cell =
    record {
      set = put (extended s.region.marks.set (page_end s.cells cell)) cell (1 ∷ []);
      room = s.region.marks.room;
    }

-- only bytes and the head change
abbrev pub ChangesLinks : {A : Type 0} → Store A → Store A → Type 0
ChangesLinks old new =
    (new.region.marks ≡ old.region.marks) × (new.cells ≡ old.cells) × (new.longest ≡ old.longest)

-- only bytes change
abbrev pub ChangesBytes : {A : Type 0} → Store A → Store A → Type 0
ChangesBytes old new =
    (new.head ≡ old.head) × (new.region.marks ≡ old.region.marks) × (new.cells ≡ old.cells)
    × (new.longest ≡ old.longest)

-- only the bytes that are set change
abbrev pub ChangesSet : {A : Type 0} → Store A → Store A → Type 0
ChangesSet old new =
    (new.region.bytes.room ≡ old.region.bytes.room) × (new.head ≡ old.head)
    × (new.region.marks ≡ old.region.marks) × (new.cells ≡ old.cells)
    × (new.longest ≡ old.longest)

-- only marks change
abbrev pub ChangesMarks : {A : Type 0} → Store A → Store A → Type 0
ChangesMarks old new =
    (new.region.bytes ≡ old.region.bytes) × (new.head ≡ old.head) × (new.cells ≡ old.cells)
    × (new.longest ≡ old.longest)

-- Where free cells follow a cell at once, they end where the run at that cell ends.
abbrev pub EndsWithRun : {A : Type 0} → Store A → ℕ → ℕ → ℕ × ℕ → Type 0
EndsWithRun s cell next result =
    next ≡ cell → next < s.cells → (result.0 ≡ run_end s next) × (result.1 ≡ run_behind s next)

-- Where a free run ends at a cell, it goes on up to `end`, and `after` is the run behind it. It has
-- `count` cells then.
abbrev pub JoinsRun : {A : Type 0} → Store A → ℕ → ℕ → ℕ → ℕ → Store A → ℕ → Type 0
JoinsRun old last cell end after new count =
    last < old.cells → run_end old last ≡ cell →
    (new.region.bytes ≡ bytes_with_run old last (end - last) after) × (new.head ≡ old.head)
    × (count ≡ end - last)

-- Where none ends there, a run of `count` cells begins at the cell, and the list has it behind
-- `last`.
abbrev pub AddsRun : {A : Type 0} → Store A → ℕ → ℕ → ℕ → ℕ → Store A → ℕ → Type 0
AddsRun old last cell end after new count =
    (last < old.cells → run_end old last ≡ cell → ⊥) →
    (new.region.bytes
    ≡ record {
      set = with_link
          (with_run old.region.bytes.set cell (end - cell) after) old.cells last cell;
      room =
          old.region.bytes.room;
    })
    × (new.head ≡ cond (last == old.cells) cell old.head) × (count ≡ end - cell)
