use Rattle.std.proofs.Common.{◌≡◌, drop}
use Rattle.std.specs.List.{find}
use Rattle.pool_services.specs.Groups.{joined, rows_of}
use Rattle.pool_services.specs.Listed.{blocks_of, is_from}
use Rattle.pool_services.proofs.extent_groups.ExtentGroups.block_from.Given as goal

abbrev pub invariant-loop-at : goal.invariant-loop-at
invariant-loop-at g l = find (is_from l.address) (blocks_of (joined (rows_of l.self))) ≡ find (is_from l.address) (blocks_of (joined (drop l.at (rows_of l.self))))
