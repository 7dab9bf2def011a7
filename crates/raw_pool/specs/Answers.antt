-- What the pool's functions answer of a region, of cells and of blocks.
use Rattle.std.specs.Prelude.{◌≡◌, ℕ, ◌<◌, ◌≤◌, ◌^◌, List, [], Option}
use Rattle.std.specs.Option.{option_map}
use Rattle.raw_pool.specs.Blocks.{Block, block_at}
use Rattle.raw_pool.specs.Bytes.{Parts}

-- a region with room for bytes and marks, none of which is set
abbrev pub IsUnset : ℕ → ℕ → Parts → Type 0
IsUnset bytes marks r = (r.bytes ≡ record { set = []; room = bytes })
    × (r.marks ≡ record { set = []; room = marks })

-- the bytes of the block at a cell
abbrev pub bytes_at : ℕ → List Block → Option (List ℕ)
bytes_at cell blocks = option_map (λ b. b.bytes) (block_at cell blocks)

-- The cells of a region are not too many. Those from a cell up to another one are some of them, and
-- a run is in the region or behind it.
abbrev pub AreCellsIn : ℕ → ℕ → ℕ → ℕ → Type 0
AreCellsIn cells cell end last = (cells ≤ 2 ^ 28) × (cell < end) × (end ≤ cells) × (last ≤ cells)
