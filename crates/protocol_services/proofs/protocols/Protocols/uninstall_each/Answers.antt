use Rattle.std.proofs.Common.{◌∙◌, map}
use Rattle.protocol_services.proofs.RemovedMany.{all_gone, gone_on, refused_on, uninstalls_keep}
use Rattle.protocol_services.proofs.protocols.Protocols.uninstall_each.Goals as goal

pub returns-in-Err-clause-each : goal.returns-in-Err-clause-each
returns-in-Err-clause-each g c =
    let ds = map g.D.Driver.meaning c.args.drivers.now in
    rw c.refusal_of_all.ensures
    (refused_on ds c.args.handle c.loop-pair.pair-index c.pair-item.result c.args.pairs.now c.in-Err.status c.args.self.now c.loop-pair.self c.uninstall.new.self c.loop-pair-test.true c.pair-item.is c.loop-pair.invariant.all c.in-Err.ensures.uninstalls)

pub loop-pair-preserved : goal.loop-pair-preserved
loop-pair-preserved g c =
    let ds = map g.D.Driver.meaning c.args.drivers.now in
    record {
      all = gone_on ds c.args.handle c.loop-pair.pair-index c.pair-item.result c.args.pairs.now c.in_default.field-0 c.args.self.now c.loop-pair.self c.uninstall.new.self c.loop-pair-test.true c.pair-item.is c.loop-pair.invariant.all c.in_default.ensures.uninstalls;
      registrations = uninstalls_keep ds c.loop-pair.self c.args.handle c.pair-item.result.0 c.pair-item.result.1 _ c.uninstall.new.self c.in_default.ensures.uninstalls ∙ c.loop-pair.invariant.registrations;
    }

pub returns-clause-each : goal.returns-clause-each
returns-clause-each g c = all_gone (map g.D.Driver.meaning c.args.drivers.now) c.args.handle c.loop-pair.pair-index c.args.pairs.now c.args.self.now c.loop-pair.self c.loop-pair-test.false c.loop-pair.invariant.all
