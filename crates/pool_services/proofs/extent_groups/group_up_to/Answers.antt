use Rattle.std.proofs.Common.{rules}
use Rattle.std.proofs.lemmas.List.Sorted.{IsPartitionPoint-from_clause}
use Rattle.pool_services.proofs.GroupLists.{groups-parted, is-begun, up-to}
use Rattle.pool_services.proofs.extent_groups.group_up_to.Goals as goal

pub returns : goal.returns
returns g c =
    up-to c.args.page c.partition_point-count.result c.saturating_sub.result c.args.groups.now c.requires.0 c.requires.1 c.partition_point-count.ensures.bound c.saturating_sub.ensures
    (IsPartitionPoint-from_clause (is-begun c.args.page) _ _ c.partition_point-count.ensures.partitioned (groups-parted c.args.page c.args.groups.now c.requires.0 c.requires.1) (λ a r q k. search rules))
