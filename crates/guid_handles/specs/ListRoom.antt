-- That the keys of a handle have room.
use Rattle.std.specs.Borrow.{RattleType}
use Rattle.std.specs.declared.alloc.Allocator.{Ghosts}
use Rattle.smallvec.specs.Iter.{SmallVecFitsInMemory}
use denote.Builtin.{usize}
use denote.Param.{number}

-- the type of a small vector with four keys in place takes fewer than 2 ^ 63 bytes
abbrev pub ShortListFits : (A : RattleType) → Ghosts A.Denot → Type 0
ShortListFits A alloc = SmallVecFitsInMemory usize (number 4) A alloc
