use Rattle.driver_connect.specs.Sites.{begun, site_at}
use Rattle.driver_connect.proofs.EventsFirst.{below_after}
use Rattle.driver_connect.proofs.starting.Starter.connect_below.Goals as goal

pub returns-clause-ok : goal.returns-clause-ok
returns-clause-ok g c =
    below_after (site_at g.D.Driver.meaning c.args.self.now c.args.handle) c.args.handles.now c.args.opens.now c.args.given.items (begun c.connect_in_place.new.handles c.connect_in_place.new.opens c.in_ok-events.events) c.in_ok-events.ensures.whole.1
