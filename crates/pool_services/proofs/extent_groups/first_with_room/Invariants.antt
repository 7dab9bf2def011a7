use Rattle.std.proofs.Common.{◌≡◌, false, take}
use Rattle.std.specs.List.{AllByRecursion}
use Rattle.raw_pool.specs.Blocks.{cells_for}
use Rattle.pool_services.specs.Groups.{joined, rows_of}
use Rattle.pool_services.specs.Searches.{has_run}
use Rattle.pool_services.proofs.extent_groups.first_with_room.Given as goal

abbrev pub invariant-loop-group : goal.invariant-loop-group
invariant-loop-group g l = record {
  same : rows_of l.groups.items ≡ rows_of l.fn.groups.items;
  none : AllByRecursion (λ e. has_run l.mtype (cells_for l.size) e ≡ false) (joined (take l.group (rows_of l.fn.groups.items)));
}
