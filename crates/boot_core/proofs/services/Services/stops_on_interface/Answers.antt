use Rattle.boot_core.proofs.services.Services.stops_on_interface.Goals as goal

pub returns : goal.returns
returns g c = rw (← c.self.view_is) c.stops_on_interface.ensures
