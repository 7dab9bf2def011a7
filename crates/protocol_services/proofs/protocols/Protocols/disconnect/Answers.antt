use Rattle.std.proofs.Common.{map}
use Rattle.protocol_services.proofs.Raised.{disconnect_raised}
use Rattle.protocol_services.proofs.protocols.Protocols.disconnect.Goals as goal

pub returns-clause-raised : goal.returns-clause-raised
returns-clause-raised g c =
    rw (← c.self.view_is)
    (disconnect_raised (map g.D.Driver.meaning c.args.drivers.now) (record { handles = c.self.inside.handles; opens = c.self.inside.opens; registrations = c.self.inside.registrations }) c.args.handle c.args.driver
    c.disconnect.result c.disconnect.new.handles c.disconnect.new.opens c.disconnect.ensures)
