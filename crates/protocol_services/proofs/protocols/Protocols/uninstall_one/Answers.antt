use Rattle.std.proofs.Common.{map}
use Rattle.protocol_services.proofs.RemovedMany.{alone_gone, alone_refused}
use Rattle.protocol_services.proofs.protocols.Protocols.uninstall_one.Goals as goal

pub returns-in-Ok-clause-uninstalls : goal.returns-in-Ok-clause-uninstalls
returns-in-Ok-clause-uninstalls g c =
    alone_gone (map g.D.Driver.meaning c.args.drivers.now) c.args.handle c.args.pair.now c.in-Ok.field-0 c.args.self.now c.uninstall.new.self c.in-Ok.ensures.uninstalls

pub returns-in-Ok-clause-raised : goal.returns-in-Ok-clause-raised
returns-in-Ok-clause-raised g c = c.in-Ok.ensures.raised

pub returns-in-Err-clause-uninstalls : goal.returns-in-Err-clause-uninstalls
returns-in-Err-clause-uninstalls g c =
    rw c.refusal_of_all.ensures
    (alone_refused (map g.D.Driver.meaning c.args.drivers.now) c.args.handle c.args.pair.now c.in-Err.status c.args.self.now c.uninstall.new.self c.in-Err.ensures.uninstalls)

pub returns-in-Err-clause-raised : goal.returns-in-Err-clause-raised
returns-in-Err-clause-raised g c = c.in-Err.ensures.raised
