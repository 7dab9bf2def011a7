use Rattle.std.proofs.Common.{Contains, sym, subst, arith, ◌∙◌}
use Rattle.std.proofs.lemmas.List.Elements.{Contains-get_or}
use Rattle.descriptor_table.proofs.LeafLists.{leaf_member}
use Rattle.descriptor_table.proofs.leaf_searches.run_at_place.Goals as goal

pub returns-then-place-runs : goal.returns-then-place-runs
returns-then-place-runs g c =
    let ls = c.args.leaves.now in
    let leaf = c.index-leaves-place.result in
    let run = c.index-runs-place.result in
    let own = subst (Contains c.runs-runs.result.now) (sym c.index-runs-place.is) (Contains-get_or c.runs-runs.result.now c.args.place.1 run (omega arith)) in
    leaf_member ls c.args.place.0 leaf run (omega arith) (subst (λ rs. Contains rs run) (c.runs-runs.ensures ∙ c.index-leaves-place.is) own)
