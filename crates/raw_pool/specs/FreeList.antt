-- What a region's bytes represent: blocks with their headers, and the list of the free runs.
use Rattle.std.specs.Prelude.{◌≡◌, ◌≤◌, ℕ, ◌+◌, ◌-◌, ◌*◌, ◌==◌, nat_lt, cond, List, [], ◌∷◌, ◌++◌, length, map}
use Rattle.raw_pool.specs.Bytes.{word, part}
use Rattle.raw_pool.specs.Blocks.{Block, cells_for}

-- the cells, counted from a number on, whose mark is not 0
abbrev pub marked : ℕ → List ℕ → List ℕ
marked k [] = []
marked k (m ∷ ms) = cond (m == 0) (marked (k + 1) ms) (k ∷ marked (k + 1) ms)

-- the block at a cell: a header of 8 bytes with its size, and its bytes
unfoldable pub block_in : List ℕ → ℕ → Block
block_in bytes cell =
    record {
      first = cell;
      size = word bytes (32 * cell);
      bytes = part bytes (32 * cell + 8) (word bytes (32 * cell));
    }

-- the cells of the block at a cell
abbrev pub cells_in : List ℕ → ℕ → ℕ
cells_in bytes cell = cells_for (block_in bytes cell).size

-- a run of free cells
pub record FreeRun : Type 0 where
  pub first : ℕ
  pub cells : ℕ

-- the run from a cell up to another, if there are cells between
abbrev pub gap : ℕ → ℕ → List FreeRun
gap from to = cond (nat_lt from to) (record { first = from; cells = to - from } ∷ []) []

-- the free runs before each of the blocks at some cells, from a cell on
abbrev pub gaps : List ℕ → ℕ → List ℕ → List FreeRun
gaps bytes from [] = []
gaps bytes from (c ∷ cs) = gap from c ++ gaps bytes (c + cells_in bytes c) cs

-- the first cell behind the blocks at some cells, from a cell on
abbrev pub behind : List ℕ → ℕ → List ℕ → ℕ
behind bytes from [] = from
behind bytes from (c ∷ cs) = behind bytes (c + cells_in bytes c) cs

-- all free runs of a region with blocks at some cells
abbrev pub free_runs : List ℕ → ℕ → ℕ → List ℕ → List FreeRun
free_runs bytes cells from starts = gaps bytes from starts ++ gap (behind bytes from starts) cells

-- blocks at ascending cells, one behind the other, all of whose bytes are set
abbrev pub AreApart : List ℕ → ℕ → ℕ → List ℕ → Type 0
AreApart bytes cells from [] = from ≤ cells
AreApart bytes cells from (c ∷ cs) =
    (from ≤ c) × (32 * (c + cells_in bytes c) ≤ length bytes)
    × AreApart bytes cells (c + cells_in bytes c) cs

-- the link behind a free run; the list's head is the link of the number of cells
unfoldable pub link : List ℕ → ℕ → ℕ → ℕ → ℕ
link bytes cells head run = cond (run == cells) head (word bytes (32 * run + 8))

-- a free run's header: how many cells it has
abbrev pub IsRun : List ℕ → FreeRun → Type 0
IsRun bytes run = (word bytes (32 * run.first) ≡ run.cells) × (32 * run.first + 16 ≤ length bytes)

-- free runs in the order of the list, from a link on to the list's end
abbrev pub AreLinked : List ℕ → ℕ → ℕ → ℕ → List FreeRun → Type 0
AreLinked bytes cells head to [] = to ≡ cells
AreLinked bytes cells head to (r ∷ rs) =
    (to ≡ r.first) × IsRun bytes r × AreLinked bytes cells head (link bytes cells head r.first) rs

-- The representation: the marks show where blocks begin, and the list has all free runs.
pub record IsLaidOut (bytes marks : List ℕ) (cells head : ℕ) : Type 0 where
  pub apart : AreApart bytes cells 0 (marked 0 marks)
  pub linked : AreLinked bytes cells head head (free_runs bytes cells 0 (marked 0 marks))

-- the blocks that bytes and marks represent
abbrev pub blocks_in : List ℕ → List ℕ → List Block
blocks_in bytes marks = map (block_in bytes) (marked 0 marks)
