use Rattle.std.proofs.Common.{map}
use Rattle.protocol_services.proofs.RemovedMany.{all_raised}
use Rattle.protocol_services.proofs.protocols.Protocols.uninstall_or_put_back.Goals as goal

pub returns-clause-raised : goal.returns-clause-raised
returns-clause-raised g c = all_raised (map g.D.Driver.meaning c.args.drivers.now) c.args.handle c.args.pairs.now c.args.self.now c.uninstall_each.new.self c.in_default-uninstall_each.ensures.each
