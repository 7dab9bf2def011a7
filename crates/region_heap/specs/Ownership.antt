-- What a heap's free units and its blocks own.
use Rattle.std.specs.Prelude.{ℕ, ◌+◌, ◌*◌, ◌==◌, cond, List, [], ◌∷◌}
use mir.Syntax.{Ty, w64, ty_int}
use mir.Val.{vint}
use prog.Memory.{size}
use base.Fraction.{full_share}
use base.Fml.{Fml, ftrue, fsep, fex, fwand, fat, froom}
use denote.RawPtr.{Ptr, room_for}
use Rattle.linked_list_allocator.specs.Ownership.{units_of}
use Rattle.region_heap.specs.Places.{Place, IsBlock, units_for}

module _ (b : ℕ) where
  -- the units from an offset on that are free by their marks
  abbrev pub free_from : ℕ → List ℕ → Fml
  free_from o [] = ftrue
  free_from o (m ∷ ms) =
      fsep (cond (m == 0) (froom (units_of 16) b o) ftrue) (free_from (o + 16) ms)

-- a unit with a number in its first 8 bytes
abbrev pub numbered : ℕ → ℕ → ℕ → Fml
numbered b o n =
    fsep (fat full_share (ty_int w64) b o (vint w64 n))
    (fwand (froom (ty_int w64) b o) (froom (units_of 16) b o))

-- a block's units, and the unit behind them with the number of its first unit
abbrev pub block_owned : Place → ℕ → ℕ → Fml
block_owned p at units =
    fsep (froom (units_of (16 * units)) p.object (p.start + 16 * at))
    (numbered p.object (p.start + 16 * (at + units)) at)

-- the right to give the block for a τ at a pointer back
abbrev pub block_token : Place → Ty → Ptr → Fml
block_token p τ ptr =
    fex ℕ
    (λ at. fex (IsBlock p ptr at (units_for (size τ)))
    (λ _. fwand (room_for τ ptr) (block_owned p at (units_for (size τ)))))
