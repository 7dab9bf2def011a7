use Rattle.std.proofs.Common.{◌≡◌, drop}
use Rattle.std.specs.List.{find}
use Rattle.pool_services.specs.Listed.{blocks_of, is_from}
use Rattle.pool_services.proofs.extent_group.ExtentGroup.block_from.Given as goal

abbrev pub invariant-loop-at : goal.invariant-loop-at
invariant-loop-at g l = find (is_from l.address) (blocks_of l.self.extents.items) ≡ find (is_from l.address) (blocks_of (drop l.at l.self.extents.items))
