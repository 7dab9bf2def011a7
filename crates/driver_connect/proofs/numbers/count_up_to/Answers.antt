use Rattle.std.proofs.Common.{rules, ℕ, Bool, nat_lt, not}
use Rattle.std.proofs.lemmas.List.Sorted.{IsPartitionPoint-from_clause}
use Rattle.guid_handles.proofs.SortedLists.{partitioned, place_is}
use Rattle.driver_connect.proofs.Pending.{numbers_fall}
use Rattle.driver_connect.proofs.numbers.count_up_to.Goals as goal

pub returns-clause-place : goal.returns-clause-place
returns-clause-place c =
    let early : ℕ → Bool = λ n. not (nat_lt c.args.last n) in
    let parted = partitioned early c.args.numbers.now (numbers_fall c.args.last _ c.requires) in
    place_is early _ _ c.partition_point.ensures.bound
    (IsPartitionPoint-from_clause early _ _ c.partition_point.ensures.partitioned parted (λ a r q k. search rules))
