use Rattle.std.proofs.Common.{refl}
use Rattle.protocol_services.proofs.FreeToGo.{carried_at_turn, free_after, goes_after}
use Rattle.protocol_services.proofs.RemovedMany.{all_gone}
use Rattle.protocol_services.proofs.protocols.Protocols.take_each_out.Goals as goal

pub loop-pair-init : goal.loop-pair-init
loop-pair-init g c = record { free = c.requires; same = λ ds. refl }

pub take_idle_out-requires-clause-open : goal.take_idle_out-requires-clause-open
take_idle_out-requires-clause-open g c = rw (← c.self.view_is) c.usage-is_open.ensures.open

pub take_idle_out-requires-clause-there : goal.take_idle_out-requires-clause-there
take_idle_out-requires-clause-there g c = carried_at_turn c.loop-pair.self c.args.handle c.loop-pair.pair-index c.pair-item.result c.args.pairs.now c.loop-pair-test.true c.pair-item.is c.loop-pair.invariant.free

pub loop-pair-preserved : goal.loop-pair-preserved
loop-pair-preserved g c =
    let i = c.loop-pair.pair-index in
    rw c.take_idle_out.ensures record {
      free = free_after c.loop-pair.self c.args.handle i c.pair-item.result c.args.pairs.now c.loop-pair-test.true c.pair-item.is c.loop-pair.invariant.free;
      same = λ ds. goes_after ds c.args.self.now c.loop-pair.self c.args.handle i c.pair-item.result c.args.pairs.now c.loop-pair-test.true c.pair-item.is c.loop-pair.invariant.free (c.loop-pair.invariant.same ds);
    }

pub returns : goal.returns
returns g c = λ ds. all_gone ds c.args.handle c.loop-pair.pair-index c.args.pairs.now c.args.self.now c.loop-pair.self c.loop-pair-test.false (c.loop-pair.invariant.same ds)
