-- How large a region serves a core.
use Rattle.std.specs.Prelude.{ℕ, ◌+◌, ◌*◌, ◌^◌, ◌-◌, min}

-- each number is taken as no more than this
abbrev pub most : ℕ
most = 2 ^ 32 - 1

-- the bytes for a core with a memory map of this many entries, this many handles with 8 interfaces
-- each, and this many pages of the pool
abbrev pub room_for : ℕ → ℕ → ℕ → ℕ
room_for entries handles pool_pages =
    16384 + 512 * min entries most + 4096 * min handles most + 8192 * min pool_pages most
