use Rattle.std.proofs.Common.{◌-◌, ◌∙◌, sym, ap, subst, arith}
use Rattle.std.specs.Option.{option_map}
use Rattle.page_ranges.specs.Memory.{page_at}
use Rattle.page_ranges.specs.Runs.{pages_of, AreRuns}
use Rattle.descriptor_table.proofs.LeafLists.{leaf_runs, page_at_leaf, page_at_no_leaf, found_in_leaf}
use Rattle.descriptor_table.proofs.leaf_searches.run_in_leaves.Goals as goal

pub returns-then-count-eq0-clause-page : goal.returns-then-count-eq0-clause-page
returns-then-count-eq0-clause-page g c = page_at_no_leaf c.args.leaves.now c.args.page c.requires.runs (λ j e h. c.count_leaves_by-count.ensures.above j e (omega arith) h)

pub run_holding-requires : goal.run_holding-requires
run_holding-requires g c =
    subst AreRuns (sym (c.runs.ensures ∙ c.index-leaves-count.is)) (leaf_runs c.args.leaves.now (c.count_leaves_by-count.result - 1) c.index-leaves-count.result c.requires.runs (omega arith))

pub returns-clause-page : goal.returns-clause-page
returns-clause-page g c =
    let count = c.count_leaves_by-count in
    let leaf = c.index-leaves-count.result in
    page_at_leaf c.args.leaves.now (count.result - 1) c.args.page leaf c.requires.leaves c.requires.runs (omega arith) (count.ensures.by (count.result - 1) leaf (omega arith) (omega arith)) (λ j e m u. count.ensures.above j e (omega arith) u)
    ∙ sym (ap (λ rs. page_at (pages_of rs) c.args.page) (c.runs.ensures ∙ c.index-leaves-count.is)) ∙ c.run_holding.ensures.page

pub returns-clause-member : goal.returns-clause-member
returns-clause-member g c =
    found_in_leaf c.args.leaves.now (c.count_leaves_by-count.result - 1) c.args.page c.index-leaves-count.result _ (option_map (λ r. r.now) c.run_holding.result) (omega arith) (c.runs.ensures ∙ c.index-leaves-count.is) c.run_holding.ensures.member
