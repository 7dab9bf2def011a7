use Rattle.std.proofs.Common.{ap, ◌∙◌}
use Rattle.open_agents.specs.OpenItems.{managers_of_any}
use Rattle.driver_connect.proofs.MadeHandles.{managers_of_made_handles}
use Rattle.driver_connect.proofs.protocols.Lists.managers_of_made.Goals as goal

pub returns : goal.returns
returns g c =
    let t = c.args.self.now.handles.now in
    let opens = c.args.self.now.opens.now in
    let same = ap (managers_of_any opens) (c.as_slice.ensures.value ∙ c.in_ok-made.ensures.made) ∙ managers_of_made_handles t opens c.args.pairs.now in
    rw same at c.managers_of_any.ensures
