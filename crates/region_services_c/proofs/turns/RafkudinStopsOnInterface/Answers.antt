use Rattle.std.proofs.Common.{subst}
use Rattle.c_interface.specs.Stops.{ListsStops}
use Rattle.region_services_c.specs.Cores.{Core}
use Rattle.region_services_c.proofs.turns.RafkudinStopsOnInterface.Goals as goal

pub returns-clause-returned : goal.returns-clause-returned
returns-clause-returned c = subst (λ (core : Core). ListsStops core c.args.handle c.args.guid.now c.args.count.now c.args.stops.now c.stops_on_interface.result c.stops_on_interface.new.count c.stops_on_interface.new.buffer) c.held.ensures.value c.stops_on_interface.ensures
