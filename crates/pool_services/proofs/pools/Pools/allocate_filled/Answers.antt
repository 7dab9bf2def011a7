use Rattle.std.proofs.Common.{arith, ap, subst}
use Rattle.page_services.specs.PageRules.{IsBestChoice}
use Rattle.pool_services.specs.Extents.{AreExtents}
use Rattle.pool_services.specs.PoolRules.{PoolValue}
use Rattle.pool_services.proofs.KeptPools.{written-keeps}
use Rattle.pool_services.proofs.FilledBlocks.{not-refused}
use Rattle.pool_services.proofs.KeptEnds.{written-ends}
use Rattle.pool_services.proofs.pools.Pools.allocate_filled.Goals as goal

pub unreachable-requires : goal.unreachable-requires
unreachable-requires g c =
    let old : AreExtents c.args.self.now.extents = subst AreExtents (ap (λ (v : PoolValue). v.extents) c.self.view_is) c.apart_law.ensures in
    let placed : AreExtents c.allocate.new.self.extents = subst AreExtents (ap (λ (v : PoolValue). v.extents) c.self-2.view_is) c.apart_law-2.ensures in
    not-refused IsBestChoice c.args.book.now c.allocate.new.book c.args.self.now.extents c.allocate.new.self.extents c.args.mtype _ c.in_ok-answer.answer _ c.in_default.field-0 c.write.new.self.extents old placed c.in_ok-answer.ensures.allocates c.in_default.ensures.writes (omega arith)

pub returns-clause-owns : goal.returns-clause-owns
returns-clause-owns g c =
    let placed : AreExtents c.allocate.new.self.extents = subst AreExtents (ap (λ (v : PoolValue). v.extents) c.self-2.view_is) c.apart_law-2.ensures in
    (written-keeps c.allocate.new.book.memory c.allocate.new.self.extents c.in_ok-answer.answer.0 _ c.write.result c.write.new.self.extents placed c.in_ok-answer.ensures.owns c.write.ensures.writes).1

pub returns-clause-reserved : goal.returns-clause-reserved
returns-clause-reserved g c reserved =
    written-ends c.allocate.new.book c.allocate.new.self.extents c.in_ok-answer.answer.0 _ c.write.result c.write.new.self.extents (c.in_ok-answer.ensures.reserved reserved) c.write.ensures.writes
