-- The blocks of a pool.
use Rattle.std.specs.Prelude.{ℕ, ◌+◌, ◌-◌, ◌/◌, max, ◌==◌, nat_le, nat_lt, cond, List, [], ◌∷◌, replicate, Bool, false, Option, Some, None}
use Rattle.raw_pool.specs.Bytes.{put}

-- a block: its first cell, its size in bytes, and its bytes
pub record Block : Type 0 where
  pub first : ℕ
  pub size : ℕ
  pub bytes : List ℕ

-- a region of the given number of cells, and its blocks by ascending first cell; and the number of
-- the page that the cells lie at, where they are pages of a machine
pub record Pool : Type 0 where
  pub cells : ℕ
  pub blocks : List Block
  pub lies : Option ℕ

-- the cells of 32 bytes that a block of a size takes: a header of 8 bytes comes before its bytes
abbrev pub cells_for : ℕ → ℕ
cells_for size = (size + 8 + 31) / 32

-- the first cell behind a block
abbrev pub end_of : Block → ℕ
end_of b = b.first + cells_for b.size

-- the block that begins at a cell
abbrev pub block_at : ℕ → List Block → Option Block
block_at cell [] = None
block_at cell (b ∷ bs) = cond (b.first == cell) (Some b) (block_at cell bs)

-- the first of the given number of free cells in a row, the lowest from a cell on, where the blocks
-- from there on are given
abbrev pub lowest_fit : ℕ → ℕ → ℕ → List Block → Option ℕ
lowest_fit cells need from [] = cond (nat_le (from + need) cells) (Some from) None
lowest_fit cells need from (b ∷ bs) =
    cond (nat_le (from + need) b.first) (Some from) (lowest_fit cells need (end_of b) bs)

-- the blocks with one more among them
abbrev pub with_block : Block → List Block → List Block
with_block b [] = b ∷ []
with_block b (x ∷ xs) = cond (nat_lt x.first b.first) (x ∷ with_block b xs) (b ∷ x ∷ xs)

-- a new block, all of whose bytes are 0
abbrev pub new_block : ℕ → ℕ → Block
new_block cell size = record { first = cell; size = size; bytes = replicate size 0 }

-- the pool once a block is taken at a cell, if there is one to take it at
abbrev pub taken : Pool → ℕ → Option ℕ → Pool
taken p size None = p
taken p size (Some cell) =
    record { cells = p.cells; blocks = with_block (new_block cell size) p.blocks; lies = p.lies }

-- the blocks without the one that begins at a cell
abbrev pub without_block : ℕ → List Block → List Block
without_block cell [] = []
without_block cell (b ∷ bs) = cond (b.first == cell) bs (b ∷ without_block cell bs)

-- the pool once the block that begins at a cell is given back
abbrev pub given : Pool → ℕ → Pool
given p cell = record { cells = p.cells; blocks = without_block cell p.blocks; lies = p.lies }

-- the blocks once bytes are written into the one that begins at a cell
abbrev pub with_bytes : ℕ → ℕ → List ℕ → List Block → List Block
with_bytes cell at bytes [] = []
with_bytes cell at bytes (b ∷ bs) =
    cond (b.first == cell)
    (record { first = b.first; size = b.size; bytes = put b.bytes at bytes } ∷ bs)
    (b ∷ with_bytes cell at bytes bs)

-- whether the given number of bytes from an index on lie in a block, if there is one
abbrev pub holds_range : ℕ → ℕ → Option Block → Bool
holds_range at count None = false
holds_range at count (Some b) = nat_le (at + count) b.size

-- the pool once bytes are written into a block, if they are
abbrev pub written : Bool → ℕ → ℕ → List ℕ → Pool → Pool
written done cell at bytes p =
    cond done
    (record { cells = p.cells; blocks = with_bytes cell at bytes p.blocks; lies = p.lies }) p

-- how many cells the longest run of free cells has, of those from a cell on, where the blocks from
-- there on are given
abbrev pub longest_run : ℕ → ℕ → List Block → ℕ
longest_run cells from [] = cells - from
longest_run cells from (b ∷ bs) = max (b.first - from) (longest_run cells (end_of b) bs)
