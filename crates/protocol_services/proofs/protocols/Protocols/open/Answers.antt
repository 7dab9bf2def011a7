use Rattle.std.proofs.Common.{refl, sym, ◌∙◌, map}
use Rattle.protocol_services.proofs.Decided.{added_by_any, counted_by_any, equal_counted, none_added}
use Rattle.protocol_services.proofs.Raised.{stays_raised}
use Rattle.protocol_services.proofs.protocols.Protocols.open.Goals as goal

pub decide-requires : goal.decide-requires
decide-requires g c = rw (← c.self.view_is) c.interface-value.ensures.there

pub count_open-requires : goal.count_open-requires
count_open-requires g c = rw (← c.self.view_is) c.interface-value.ensures.value

pub add_open-requires-clause-value : goal.add_open-requires-clause-value
add_open-requires-clause-value g c = rw (← c.self.view_is) c.interface-value.ensures.value

pub returns-in-Refuse-clause-opens : goal.returns-in-Refuse-clause-opens
returns-in-Refuse-clause-opens g c = rw (sym c.decide.ensures ∙ c.in-Refuse.is) (refl, refl)

pub returns-in-Refuse-clause-raised : goal.returns-in-Refuse-clause-raised
returns-in-Refuse-clause-raised g c = stays_raised c.args.self.now

pub returns-in-StopFirst-clause-opens : goal.returns-in-StopFirst-clause-opens
returns-in-StopFirst-clause-opens g c = rw (sym c.decide.ensures ∙ c.in-StopFirst.is) c.open_after_stop.ensures.opens

pub returns-in-StopFirst-clause-raised : goal.returns-in-StopFirst-clause-raised
returns-in-StopFirst-clause-raised g c = c.open_after_stop.ensures.raised

pub returns-in-Count-clause-raised : goal.returns-in-Count-clause-raised
returns-in-Count-clause-raised g c = c.count_open.ensures.raised

pub returns-in-Add-clause-raised : goal.returns-in-Add-clause-raised
returns-in-Add-clause-raised g c = c.add_open.ensures.raised

pub add_open-requires-clause-new : goal.add_open-requires-clause-new
add_open-requires-clause-new g c = none_added c.args.self.now.handles c.args.self.now.opens c.args.request.now.handle c.args.request.now.guid c.args.request.now.agent c.args.request.now.controller c.args.request.now.attributes (sym c.decide.ensures ∙ c.in-Add.is)

pub returns-in-Count-clause-opens : goal.returns-in-Count-clause-opens
returns-in-Count-clause-opens g c =
    let counted = sym c.decide.ensures ∙ c.in-Count.is in
    let equal = equal_counted c.args.self.now.handles c.args.self.now.opens c.args.request.now.handle c.args.request.now.guid c.args.request.now.agent c.args.request.now.controller c.args.request.now.attributes counted in
    rw counted (counted_by_any (map g.D.Driver.meaning c.args.drivers.now) c.args.self.now c.args.request.now.handle c.args.request.now.guid c.args.request.now.agent c.args.request.now.controller c.args.request.now.attributes c.count_open.result c.count_open.new.self (c.count_open.ensures.counts equal))

pub returns-in-Add-clause-opens : goal.returns-in-Add-clause-opens
returns-in-Add-clause-opens g c =
    rw (sym c.decide.ensures ∙ c.in-Add.is) (added_by_any (map g.D.Driver.meaning c.args.drivers.now) c.args.self.now c.args.request.now.handle c.args.request.now.guid c.args.request.now.agent c.args.request.now.controller c.args.request.now.attributes c.add_open.result c.add_open.new.self c.add_open.ensures.adds)
