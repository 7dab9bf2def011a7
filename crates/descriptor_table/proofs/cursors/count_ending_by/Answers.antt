use Rattle.std.proofs.Common.{rules, ◌+◌, leb, leb-true, leb-false}
use Rattle.std.proofs.lemmas.List.Sorted.{IsPartitionPoint-from_clause, IsPartitionedBy-leb}
use Rattle.descriptor_table.proofs.Order.{ends_rise}
use Rattle.descriptor_table.proofs.cursors.count_ending_by.Goals as goal

pub returns-clause-by : goal.returns-clause-by
returns-clause-by c =
    let parted = IsPartitionedBy-leb (λ r. r.range.first + r.range.pages) _ c.args.page (ends_rise _ c.requires.runs) in
    let point = IsPartitionPoint-from_clause (λ r. leb (r.range.first + r.range.pages) c.args.page) _ _ c.partition_point.ensures.partitioned parted (λ a r q k. search rules) in
    λ k d l h. leb-true _ _ (point.0 k d l h)

pub returns-clause-above : goal.returns-clause-above
returns-clause-above c =
    let parted = IsPartitionedBy-leb (λ r. r.range.first + r.range.pages) _ c.args.page (ends_rise _ c.requires.runs) in
    let point = IsPartitionPoint-from_clause (λ r. leb (r.range.first + r.range.pages) c.args.page) _ _ c.partition_point.ensures.partitioned parted (λ a r q k. search rules) in
    λ k d l h. leb-false _ _ (point.1 k d l h)
