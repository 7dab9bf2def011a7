-- A value in a block of its own.
use Rattle.std.specs.Borrow.{Fml}
use Rattle.std.specs.Ptr.{Ptr}
use denote.RattleType.{RattleType}
use Rattle.std.specs.declared.alloc.Global.{Global}
use Rattle.std.specs.contracts.impls.GlobalAllocator.TheImpl.{ghosts}
use Rattle.std.specs.Box.Ownership.{box_owns}

-- The value lies at p, in a block of its own that may be given back.
abbrev pub block_of : (R : RattleType) → Global → Ptr → R.Denot → Fml
block_of R alloc p x = box_owns (ghosts.dealloc_token alloc) R p x
