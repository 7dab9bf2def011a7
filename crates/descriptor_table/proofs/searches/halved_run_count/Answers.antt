use Rattle.std.proofs.Common.{rules, ltb, ltb-true, ltb-false}
use Rattle.std.proofs.lemmas.List.Sorted.{IsPartitionPoint-from_clause, IsPartitionedBy-ltb}
use Rattle.descriptor_table.proofs.Order.{firsts_rise}
use Rattle.descriptor_table.proofs.searches.halved_run_count.Goals as goal

pub returns-clause-below : goal.returns-clause-below
returns-clause-below c =
    let parted = IsPartitionedBy-ltb (λ r. r.range.first) _ c.args.page (firsts_rise _ c.requires) in
    let point = IsPartitionPoint-from_clause (λ r. ltb r.range.first c.args.page) _ _ c.partition_point.ensures.partitioned parted (λ a r q k. search rules) in
    λ k d l h. ltb-true _ _ (point.0 k d l h)

pub returns-clause-above : goal.returns-clause-above
returns-clause-above c =
    let parted = IsPartitionedBy-ltb (λ r. r.range.first) _ c.args.page (firsts_rise _ c.requires) in
    let point = IsPartitionPoint-from_clause (λ r. ltb r.range.first c.args.page) _ _ c.partition_point.ensures.partitioned parted (λ a r q k. search rules) in
    λ k d l h. ltb-false _ _ (point.1 k d l h)
