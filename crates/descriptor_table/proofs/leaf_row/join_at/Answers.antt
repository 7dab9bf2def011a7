use Rattle.std.proofs.Common.{length, ap, sym, ◌∙◌, take, drop}
use Rattle.descriptor_table.proofs.LeafRows.{joined_border, pair_ends, pair_runs}
use Rattle.descriptor_table.proofs.leaf_row.join_at.Goals as goal

pub join-requires-clause-runs : goal.join-requires-clause-runs
join-requires-clause-runs g c =
    let split = c.split_at_mut-below in
    let is = c.as_mut_slice.ensures.value in
    pair_runs c.args.leaves.now.items split.result.0.now split.result.1.now c.args.at c.index-below-at.result c.index-above-0.result c.requires.bound
    (split.ensures.front ∙ ap (take c.args.at) is) (split.ensures.back ∙ ap (drop c.args.at) is) c.requires.runs

pub join-requires-clause-ends : goal.join-requires-clause-ends
join-requires-clause-ends g c =
    let split = c.split_at_mut-below in
    let is = c.as_mut_slice.ensures.value in
    pair_ends c.args.leaves.now.items split.result.0.now split.result.1.now c.args.at c.index-below-at.result c.index-above-0.result c.requires.bound
    (split.ensures.front ∙ ap (take c.args.at) is) (split.ensures.back ∙ ap (drop c.args.at) is) c.requires.ends

pub returns-clause-joined : goal.returns-clause-joined
returns-clause-joined g c =
    let split = c.split_at_mut-below in
    let is = c.as_mut_slice.ensures.value in
    let join = c.join.ensures in
    joined_border c.args.leaves.now.items split.result.0.now split.result.1.now c.args.at c.index-below-at.result c.index-above-0.result c.requires.bound
    (split.ensures.front ∙ ap (take c.args.at) is) (split.ensures.back ∙ ap (drop c.args.at) is) c.join.new.self c.join.new.next
    _ (ap length (sym is) ∙ c.as_mut_slice.ensures.len) c.requires.below join.pages join.order join.ends join.count join.fewer
