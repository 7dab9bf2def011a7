use Rattle.std.proofs.Common.{◌∙◌, sym, true≢false}
use Rattle.descriptor_table.proofs.FreeBounds.{leaf_of_no_use}
use Rattle.descriptor_table.proofs.leaves.Leaf.may_hold.Goals as goal

pub returns-then-goes_on : goal.returns-then-goes_on
returns-then-goes_on g c = λ f.
    rw (← c.self.view_is) (leaf_of_no_use c.self.inside.summary c.args.wanted.now c.self.inside.runs.value.items c.args.goes_on c.self.inside.ends_free (sym c.may_hold.ensures.may ∙ c.if-may_hold.false) c.may_hold.ensures.pages c.self.invariant.3 c.self.invariant.2 (λ t. f))

pub returns-else-goes_on : goal.returns-else-goes_on
returns-else-goes_on g c = λ f.
    rw (← c.self.view_is) (leaf_of_no_use c.self.inside.summary c.args.wanted.now c.self.inside.runs.value.items c.args.goes_on c.self.inside.ends_free (sym c.may_hold.ensures.may ∙ c.if-may_hold.false) c.may_hold.ensures.pages c.self.invariant.3 c.self.invariant.2 (λ t. absurd (true≢false (sym t ∙ f))))
