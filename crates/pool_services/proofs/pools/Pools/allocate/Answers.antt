use Rattle.std.proofs.Common.{List, Some, ap, subst}
use Rattle.pool_services.specs.Extents.{Extent}
use Rattle.pool_services.specs.PoolRules.{PoolValue}
use Rattle.pool_services.specs.Searches.{IsTakenLive}
use Rattle.pool_services.specs.Spots.{extents_of}
use Rattle.pool_services.proofs.ExtentChanges.{owns-new-block}
use Rattle.pool_services.proofs.KeptEnds.{taken-ends}
use Rattle.pool_services.proofs.pools.Pools.allocate.Goals as goal

pub returns-in-Some-clause-owns : goal.returns-in-Some-clause-owns
returns-in-Some-clause-owns g c =
    owns-new-block c.args.book.now.memory c.in_ok-mtype.mtype c.args.size c.in-Some.address c.args.self.now.extents (extents_of c.take.new.self) c.requires.owns
    (subst (λ (es : List Extent). IsTakenLive c.in_ok-mtype.mtype c.args.size es (Some c.in-Some.address) (extents_of c.take.new.self)) (ap (λ (v : PoolValue). v.extents) c.self.view_is) c.in-Some.ensures)

pub returns-in-Some-clause-reserved : goal.returns-in-Some-clause-reserved
returns-in-Some-clause-reserved g c reserved =
    taken-ends c.args.book.now c.in_ok-mtype.mtype c.args.size c.in-Some.address c.args.self.now.extents (extents_of c.take.new.self) reserved
    (subst (λ (es : List Extent). IsTakenLive c.in_ok-mtype.mtype c.args.size es (Some c.in-Some.address) (extents_of c.take.new.self)) (ap (λ (v : PoolValue). v.extents) c.self.view_is) c.in-Some.ensures)
