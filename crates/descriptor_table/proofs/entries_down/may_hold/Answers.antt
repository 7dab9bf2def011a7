use Rattle.std.proofs.Common.{[], ◌∙◌, subst}
use Rattle.std.proofs.lemmas.List.{get_or_default}
use Rattle.descriptor_table.specs.Summaries.{IsLeafOfNoUse}
use Rattle.descriptor_table.proofs.entries_down.may_hold.Goals as goal

pub returns : goal.returns
returns g c = λ f.
    let l = c.index-leaves-leaf.result in
    subst (λ x. IsLeafOfNoUse c.args.wanted.now c.args.goes_on x) (c.index-leaves-leaf.is ∙ get_or_default c.args.leaves.now c.args.leaf l [] c.requires) (c.may_hold.ensures f)
