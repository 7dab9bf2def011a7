use Rattle.std.proofs.Common.{◌≡◌, ◌∙◌, ap}
use Rattle.open_agents.specs.Blocks.{items_near}
use Rattle.open_agents.specs.OpenItems.{items_on}
use Rattle.open_agents.proofs.Asked.{items_near as near_ones}
use Rattle.protocol_services.specs.Lists.{Lists}
use Rattle.protocol_services.specs.Removing.{drivers_among, drivers_on}
use Rattle.protocol_services.proofs.protocols.Protocols.stops_on_interface.Goals as goal

pub returns : goal.returns
returns g c =
    let l : Lists = record { handles = c.self.inside.handles; opens = c.self.inside.opens; registrations = c.self.inside.registrations } in
    let near : drivers_on (items_near c.near.result) c.args.handle c.args.guid ≡ drivers_on l.opens c.args.handle c.args.guid =
    ap (λ items. drivers_among (items_on items c.args.handle c.args.guid)) c.near.ensures ∙ ap drivers_among (near_ones l.opens c.args.handle c.args.guid) in
    let drivers = c.in_ok-pairs.ensures ∙ near in
    rw (← c.self.view_is) (rw (c.lists.ensures.handles, c.lists.ensures.opens, ← c.self.view_is, drivers) at c.pairs_to_stop.ensures)
