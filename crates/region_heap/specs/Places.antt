-- Where a heap's units of 16 bytes lie, and its blocks among them.
use Rattle.std.specs.Prelude.{◌≡◌, ℕ, ◌+◌, ◌*◌, ◌^◌, ◌<◌, ◌/◌}
use denote.RawPtr.{Ptr, block_ptr}

-- a number of units, from an offset of an object on
pub record Place : Type 0 where
  pub object : ℕ
  pub start : ℕ
  pub units : ℕ

-- the pointer to a unit
abbrev pub unit_ptr : Place → ℕ → Ptr
unit_ptr p at = block_ptr p.object (p.start + 16 * at)

-- a pointer at which the units begin
abbrev pub IsStart : Place → Ptr → Type 0
IsStart p start = (start ≡ block_ptr p.object p.start) × (16 * p.units < 2 ^ 63)

-- a block of a number of units from a unit on, with one more behind it that holds its number
abbrev pub IsBlock : Place → Ptr → ℕ → ℕ → Type 0
IsBlock p ptr at units = (ptr ≡ unit_ptr p at) × (at + units < p.units) × (16 * p.units < 2 ^ 63)

-- the units that hold a number of bytes
abbrev pub units_for : ℕ → ℕ
units_for size = (size + 15) / 16
