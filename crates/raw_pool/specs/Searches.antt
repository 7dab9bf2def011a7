-- What a walk along the free list has found.
use Rattle.std.specs.Prelude.{None, ◌≡◌, ◌≤◌, ◌<◌, ℕ, ◌+◌, ◌-◌, ◌*◌, ◌^◌, ◌⊎◌, ◌==◌, cond, replicate, List, [], ◌∷◌, ◌++◌, length}
use Rattle.std.specs.List.{AllByRecursion}
use Rattle.byteorder.specs.Endian.{little_bytes}
use Rattle.raw_pool.specs.Bytes.{Bytes, part, put, put_words, word}
use Rattle.raw_pool.specs.Blocks.{Pool}
use Rattle.raw_pool.specs.FreeList.{FreeRun, IsRun, AreLinked, IsLaidOut, link, free_runs, marked, blocks_in}

-- the free runs that lead from one place of the list, a run or its head, to another
abbrev pub IsPath : List ℕ → ℕ → ℕ → ℕ → List FreeRun → ℕ → Type 0
IsPath bytes cells head from [] to = to ≡ from
IsPath bytes cells head from (r ∷ rs) to =
    (link bytes cells head from ≡ r.first) × IsRun bytes r × IsPath bytes cells head r.first rs to

-- all runs up to the place `last` were passed, and the run behind it begins at `next`
pub record Scan (passes : FreeRun → Type 0) (bytes : List ℕ) (cells head : ℕ) (runs : List FreeRun)
    (last next : ℕ) : Type 0 where
  pub before : List FreeRun
  pub after : List FreeRun
  pub is : runs ≡ before ++ after
  pub passed : AllByRecursion passes before
  pub path : IsPath bytes cells head cells before last
  pub linked : AreLinked bytes cells head next after
  pub next_is : next ≡ link bytes cells head last

-- A region of the given number of cells with a mark for each, laid out.
pub record IsStore (bytes marks : Bytes) (cells head : ℕ) : Type 0 where
  pub laid : IsLaidOut bytes.set marks.set cells head
  pub room : bytes.room ≡ 32 * cells
  pub marks_room : marks.room ≡ cells
  pub some : 0 < cells
  pub few : cells ≤ 2 ^ 28

-- The given number of cells were taken off the front of a free run, and are 0 now; what the list
-- goes on with is the rest of the run, or the next run.
pub record IsCut (old new : List ℕ) (cells head at need rest : ℕ) : Type 0 where
  pub longer : length old ≤ length new
  pub parts : (off n : ℕ) → (off + n ≤ 32 * at) ⊎ (32 * (at + word old (32 * at)) ≤ off)
      → part new off n ≡ part old off n
  pub zeros : (off n : ℕ) → 32 * at ≤ off → off + n ≤ 32 * (at + need)
      → part new off n ≡ replicate n 0
  pub set : 32 * (at + need) ≤ length new
  pub whole : word old (32 * at) ≤ need → rest ≡ link old cells head at
  pub left : need < word old (32 * at)
      → (rest ≡ at + need) × (word new (32 * (at + need)) ≡ word old (32 * at) - need)
      × (word new (32 * (at + need) + 8) ≡ link old cells head at)
      × (32 * (at + need) + 16 ≤ length new)

-- the bytes once the link of a run is set; the list's head is not among them
abbrev pub with_link : List ℕ → ℕ → ℕ → ℕ → List ℕ
with_link bytes cells run to =
    cond (run == cells) bytes (put bytes (32 * run + 8) (little_bytes 8 to))

-- the bytes once the header of a free run is written: its cells, and which run is behind it
abbrev pub with_run : List ℕ → ℕ → ℕ → ℕ → List ℕ
with_run bytes run cells next =
    put_words bytes (32 * run) cells next

-- the pool that a store represents
abbrev pub pool_of : Bytes → Bytes → ℕ → Pool
pool_of bytes marks cells =
    record { cells = cells; blocks = blocks_in bytes.set marks.set; lies = None }

-- all free runs of a store
abbrev pub runs_of : Bytes → Bytes → ℕ → List FreeRun
runs_of bytes marks cells = free_runs bytes.set cells 0 (marked 0 marks.set)

-- a region of which nothing was taken yet: none of its bytes is set
pub record IsFresh (bytes marks : Bytes) (cells : ℕ) : Type 0 where
  pub bytes_is : bytes ≡ record { set = []; room = 32 * cells }
  pub marks_is : marks ≡ record { set = []; room = cells }
  pub some : 0 < cells
  pub few : cells ≤ 2 ^ 28

-- a region, fresh or laid out
abbrev pub IsRegion : Bytes → Bytes → ℕ → ℕ → Type 0
IsRegion bytes marks cells head = IsFresh bytes marks cells ⊎ IsStore bytes marks cells head
