-- The live blocks, as they are listed.
use Rattle.std.specs.Prelude.{ℕ, nat_le, Bool, List, map}
use Rattle.std.specs.List.{flat_map}
use Rattle.raw_pool.specs.Blocks.{Block}
use Rattle.pool_services.specs.declared.listed.PoolBlock.{PoolBlock}
use Rattle.pool_services.specs.Extents.{Extent, address_of}

-- a block of an extent by its address, its size and the type of its pages
abbrev pub listed : Extent → Block → PoolBlock
listed e b = record { address = address_of e.first b.first; size = b.size; mtype = e.mtype }

-- the live blocks, by ascending address
abbrev pub blocks_of : List Extent → List PoolBlock
blocks_of es = flat_map (λ e. map (listed e) e.blocks) es

-- a block lies at or above an address
abbrev pub is_from : ℕ → PoolBlock → Bool
is_from address b = nat_le address b.address

-- a block begins at a cell or above it
abbrev pub begins_from : ℕ → Block → Bool
begins_from cell b = nat_le cell b.first
