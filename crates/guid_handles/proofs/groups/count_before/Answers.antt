use Rattle.std.proofs.Common.{rules}
use Rattle.std.proofs.lemmas.List.Sorted.{IsPartitionPoint-from_clause}
use Rattle.guid_handles.specs.Indexes.{is_before}
use Rattle.guid_handles.proofs.SortedLists.{partitioned, place_is}
use Rattle.guid_handles.proofs.GuidOrder.{guid_falls}
use Rattle.guid_handles.proofs.groups.count_before.Goals as goal

pub returns-clause-place : goal.returns-clause-place
returns-clause-place g c =
    let parted = partitioned (is_before c.args.guid) c.args.groups.now (guid_falls c.args.guid _ c.requires) in
    place_is (is_before c.args.guid) _ _ c.partition_point.ensures.bound
    (IsPartitionPoint-from_clause (is_before c.args.guid) _ _ c.partition_point.ensures.partitioned parted (λ a r q k. search rules))
