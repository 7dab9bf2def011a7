use Rattle.boot_core.proofs.services.Services.children.Goals as goal

pub returns : goal.returns
returns g c = rw (← c.self.view_is) c.children.ensures
