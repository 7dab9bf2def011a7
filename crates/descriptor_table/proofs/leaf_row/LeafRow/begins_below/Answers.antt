use Rattle.std.proofs.Common.{[], get_or, ap, ◌∙◌, arith}
use Rattle.std.proofs.lemmas.Bool.{ltb-false}
use Rattle.std.proofs.lemmas.List.{get_or_default}
use Rattle.descriptor_table.specs.Leaves.{first_page}
use Rattle.descriptor_table.proofs.ChangedLeaves.{begin_above}
use Rattle.descriptor_table.proofs.leaf_row.LeafRow.begins_below.Goals as goal

pub returns-then-at-leaves-clause-none : goal.returns-then-at-leaves-clause-none
returns-then-at-leaves-clause-none g c = λ not_below.
    let ls = c.args.self.now.leaves in
    let at = c.args.at in
    let value = c.leaves-leaves.ensures.value in
    let h = rw value at c.if-at-leaves.true in
    let is = c.index-leaves-at.is ∙ ap (λ ms. get_or ms at c.index-leaves-at.result) value ∙ get_or_default ls at c.index-leaves-at.result [] h in
    let low = ltb-false c.first.result c.args.page not_below in
    begin_above ls at c.args.page h (rw value at c.leaves-leaves.ensures.leaves) (rw value at c.leaves-leaves.ensures.runs) (omega (arith, low, c.first.ensures, ap first_page is))
