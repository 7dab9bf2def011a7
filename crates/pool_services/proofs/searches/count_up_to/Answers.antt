use Rattle.std.proofs.Common.{rules, nat_le, ◌∙◌}
use Rattle.std.proofs.lemmas.List.Sorted.{IsPartitionPoint-from_clause}
use Rattle.pool_services.specs.declared.rooms.Room.{Room}
use Rattle.pool_services.proofs.ExtentLists.{place-is}
use Rattle.pool_services.proofs.RoomLists.{rooms-parted, rooms-place}
use Rattle.pool_services.proofs.searches.count_up_to.Goals as goal

pub returns-clause-place : goal.returns-clause-place
returns-clause-place c es a e =
    place-is (λ (r : Room). nat_le r.first c.args.page) _ _ c.partition_point.ensures.bound
    (IsPartitionPoint-from_clause (λ (r : Room). nat_le r.first c.args.page) _ _ c.partition_point.ensures.partitioned (rooms-parted c.args.page c.args.rooms.now es a e) (λ a r q k. search rules))
    ∙ rooms-place c.args.page c.args.rooms.now es e
