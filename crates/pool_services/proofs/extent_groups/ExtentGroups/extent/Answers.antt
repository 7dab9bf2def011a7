use Rattle.pool_services.proofs.GroupChanges.{in-groups, at-all-groups, in-spot}
use Rattle.pool_services.proofs.extent_groups.ExtentGroups.extent.Goals as goal

pub returns : goal.returns
returns g c =
    let gs = c.self.inside.groups.items in let s = rw (← c.self.view_is) at c.requires in let l = in-groups gs c.args.spot.group s.0 in let x = c.index.result.now in
    rw (← c.self.view_is) (at-all-groups gs c.args.spot.group x x l c.index.ensures c.args.spot.at c.index-2.result.now (in-spot gs c.args.spot.group x x l c.index.ensures c.args.spot.at s.1, c.index-2.ensures))
