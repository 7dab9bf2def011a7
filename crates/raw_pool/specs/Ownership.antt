-- What a row of bytes behind a raw pointer owns and lends, and where the two rows of a block lie.
use Rattle.std.specs.Prelude.{◌≡◌, ℕ, ◌+◌, ◌-◌, List}
use base.Fraction.{full_share}
use base.Fml.{Lft, Fml, fsep}
use mir.Syntax.{Ty, w8, ty_int, ty_array}
use denote.Array.{Array}
use denote.Builtin.{u8}
use denote.RawPtr.{Ptr, lies_at, room_for, in_block, ◌+ₚ◌}
use denote.Struct.Lending.{lent_at}

-- the type of the given number of bytes in a row
abbrev pub byte_row : ℕ → Ty
byte_row n = ty_array (ty_int w8) n

-- at p the n bytes that are set, and behind them memory for the others, of which none is set
abbrev pub row_owned : Ptr → ℕ → ℕ → List ℕ → Fml
row_owned p n room xs =
    in_block p
    (fsep (lies_at (Array u8 n) full_share p xs) (room_for (byte_row (room - n)) (p +ₚ n)))

-- what a `&` to the row lends: the bytes that are set
abbrev pub row_lent : Ptr → ℕ → List ℕ → Lft → Fml
row_lent p n xs = lent_at (Array u8 n) p xs

-- the right, t's, to free the block of n bytes at p
abbrev pub leased : (Ty → Ptr → Fml) → Ptr → ℕ → Fml
leased t p n = t (byte_row n) p

-- a row of `first` bytes at p and one of `second` bytes at q are a whole block of n bytes at b
pub record AreBlock (p : Ptr) (first : ℕ) (q : Ptr) (second : ℕ) (b : Ptr) (n : ℕ) : Type 0 where
  pub start : b ≡ p
  pub behind : q ≡ p +ₚ first
  pub whole : n ≡ first + second
