use Rattle.std.proofs.Common.{sym, subst}
use Rattle.pool_services.specs.Extents.{AreExtents}
use Rattle.pool_services.proofs.GroupLists.{some-more}
use Rattle.pool_services.proofs.GroupChanges.{more-groups, order-at, used-some}
use Rattle.pool_services.proofs.extent_groups.ExtentGroups.add.Goals as goal

pub add-requires-clause-order : goal.add-requires-clause-order
add-requires-clause-order g c = order-at c.self.inside.groups.items c.args.at c.index_mut.result.now c.self.invariant.0 (rw (← c.self.view_is) at c.requires.place).0 c.index_mut.ensures.value

pub invariant_of-self : goal.invariant_of-self
invariant_of-self g c =
    let l = (rw (← c.self.view_is) at c.requires.place).0 in (
      subst AreExtents (sym (more-groups c.self.inside.groups.items c.args.at c.index_mut.result.now c.add.new.self l c.index_mut.ensures.value c.args.extent (rw (← c.self.view_is) at c.requires.group) c.add.ensures)) (rw (← c.self.view_is) at c.requires.apart),
      used-some c.self.inside.groups.items c.args.at c.index_mut.result.now c.add.new.self l c.index_mut.ensures.value c.self.invariant.1 (λ h. rw c.add.ensures (some-more c.args.extent c.index_mut.result.now.extents.items)),
    )

pub returns : goal.returns
returns g c =
    rw (← c.self.view_is) (more-groups c.self.inside.groups.items c.args.at c.index_mut.result.now c.add.new.self (rw (← c.self.view_is) at c.requires.place).0 c.index_mut.ensures.value c.args.extent (rw (← c.self.view_is) at c.requires.group) c.add.ensures)
