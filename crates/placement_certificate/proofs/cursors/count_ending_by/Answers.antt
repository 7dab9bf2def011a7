use Rattle.std.proofs.Common.{rules, ◌+◌, leb, leb-true, leb-false}
use Rattle.std.proofs.lemmas.List.Sorted.{IsPartitionPoint-from_clause, IsPartitionedBy-leb}
use Rattle.placement_certificate.proofs.MapLists.{ends_rise}
use Rattle.placement_certificate.proofs.cursors.count_ending_by.Goals as goal

pub returns-clause-by : goal.returns-clause-by
returns-clause-by c =
    let parted = IsPartitionedBy-leb (λ e. e.first + e.pages) _ c.args.page (ends_rise _ c.requires) in
    let point = IsPartitionPoint-from_clause (λ e. leb (e.first + e.pages) c.args.page) _ _ c.partition_point.ensures.partitioned parted (λ a r q k. search rules) in
    λ k d l h. leb-true _ _ (point.0 k d l h)

pub returns-clause-above : goal.returns-clause-above
returns-clause-above c =
    let parted = IsPartitionedBy-leb (λ e. e.first + e.pages) _ c.args.page (ends_rise _ c.requires) in
    let point = IsPartitionPoint-from_clause (λ e. leb (e.first + e.pages) c.args.page) _ _ c.partition_point.ensures.partitioned parted (λ a r q k. search rules) in
    λ k d l h. leb-false _ _ (point.1 k d l h)
