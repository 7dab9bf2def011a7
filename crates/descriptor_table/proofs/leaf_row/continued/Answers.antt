use Rattle.page_ranges.proofs.RunMaps.{runs_join}
use mir.Val.{bool_byte}
use Rattle.std.proofs.Common.{◌≡◌, ◌-◌, Bool, true, false, get_or, refl, ap, sym, subst, ◌∙◌, arith}
use Rattle.descriptor_table.proofs.LeafRows.{count_leaves, last_end, meet_leaves}
use Rattle.descriptor_table.proofs.Meetings.{one_if}
use Rattle.descriptor_table.proofs.leaf_row.continued.Goals as goal

as_number : (b : Bool) → bool_byte b ≡ one_if b
as_number true = refl
as_number false = refl

pub goes_on-requires : goal.goes_on-requires
goes_on-requires g c =
    let ls = c.args.leaves.now in
    let low = c.args.at - 1 in
    let below = subst (λ l. l ≡ get_or ls low l) (sym c.runs-below.ensures) c.index-leaves-at.is in
    omega (arith, last_end ls low c.runs-below.result.now c.index-below-below.result c.requires.leaves c.requires.ends (omega arith) below c.index-below-below.is)

pub returns-clause-entries : goal.returns-clause-entries
returns-clause-entries g c =
    let ls = c.args.leaves.now in
    let low = c.args.at - 1 in
    let below = subst (λ l. l ≡ get_or ls low l) (sym c.runs-below.ensures) c.index-leaves-at.is in
    let above = subst (λ l. l ≡ get_or ls c.args.at l) (sym c.runs-above.ensures) c.index-leaves-at-2.is in
    let meets = meet_leaves runs_join ls low c.args.at c.runs-below.result.now c.runs-above.result.now c.index-below-below.result c.index-above-0.result (omega arith) (omega arith) c.requires.leaves below above c.index-below-below.is c.index-above-0.is in
    let one = c.from.ensures ∙ as_number c.goes_on.result in
    omega (arith, count_leaves ls c.args.at c.requires.runs, one, ap one_if (meets ∙ sym c.goes_on.ensures))
