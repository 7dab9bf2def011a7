use Rattle.std.proofs.Common.{◌≡◌, ◌-◌, get_or, sym, subst, ◌∙◌, arith}
use Rattle.page_ranges.specs.Runs.{should_be_one_run}
use Rattle.descriptor_table.specs.LeafRows.{runs_from, runs_up_to}
use Rattle.descriptor_table.proofs.LeafApart.{are_apart}
use Rattle.descriptor_table.proofs.LeafRows.{last_end, meet_leaves}
use Rattle.descriptor_table.proofs.leaf_row.is_open.Goals as goal

pub should_be_one-requires : goal.should_be_one-requires
should_be_one-requires g c =
    let ls = c.args.leaves.now in
    let low = c.args.at - 1 in
    let below = subst (λ l. l ≡ get_or ls low l) (sym c.runs-below.ensures) c.index-leaves-at.is in
    omega (arith, last_end ls low c.runs-below.result.now c.index-below-below.result c.requires.leaves c.requires.ends (omega arith) below c.index-below-below.is)

pub returns-else-should_be_one : goal.returns-else-should_be_one
returns-else-should_be_one g c = λ _.
    let ls = c.args.leaves.now in
    let low = c.args.at - 1 in
    let below = subst (λ l. l ≡ get_or ls low l) (sym c.runs-below.ensures) c.index-leaves-at.is in
    let above = subst (λ l. l ≡ get_or ls c.args.at l) (sym c.runs-above.ensures) c.index-leaves-at-2.is in
    let meets =
    meet_leaves should_be_one_run ls low c.args.at c.runs-below.result.now c.runs-above.result.now c.index-below-below.result c.index-above-0.result (omega arith) (omega arith) c.requires.leaves below above c.index-below-below.is c.index-above-0.is in
    are_apart (runs_up_to c.args.at ls) (runs_from c.args.at ls) (meets ∙ sym c.should_be_one.ensures ∙ c.if-should_be_one.false)
