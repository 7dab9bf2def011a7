use Rattle.std.proofs.Common.{rules, leb, leb-true, leb-false}
use Rattle.std.proofs.lemmas.List.Sorted.{IsPartitionPoint-from_clause, IsPartitionedBy-leb}
use Rattle.descriptor_table.specs.Leaves.{first_page}
use Rattle.descriptor_table.proofs.LeafLists.{leaf_firsts_rise}
use Rattle.descriptor_table.proofs.leaf_searches.count_leaves_by.Goals as goal

pub returns-clause-by : goal.returns-clause-by
returns-clause-by g c =
    let parted = IsPartitionedBy-leb first_page _ c.args.page (leaf_firsts_rise _ c.requires.leaves c.requires.runs) in
    let point = IsPartitionPoint-from_clause (λ l. leb (first_page l) c.args.page) _ _ c.partition_point.ensures.partitioned parted (λ a r q k. search rules) in
    λ k d l h. leb-true _ _ (point.0 k d l h)

pub returns-clause-above : goal.returns-clause-above
returns-clause-above g c =
    let parted = IsPartitionedBy-leb first_page _ c.args.page (leaf_firsts_rise _ c.requires.leaves c.requires.runs) in
    let point = IsPartitionPoint-from_clause (λ l. leb (first_page l) c.args.page) _ _ c.partition_point.ensures.partitioned parted (λ a r q k. search rules) in
    λ k d l h. leb-false _ _ (point.1 k d l h)
