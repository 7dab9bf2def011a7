use Rattle.std.proofs.Common.{arith, sym, ◌∙◌}
use Rattle.guid_handles.specs.HandleTables.{is_on}
use Rattle.guid_handles.proofs.Stored.{some_on}
use Rattle.guid_handles.proofs.handles.Handles.remove_handle.Goals as goal

pub loop-self-smaller : goal.loop-self-smaller
loop-self-smaller g c =
    omega (arith, c.take_first.ensures.fewer, some_on (is_on c.args.handle) c.loop-self.self.interfaces (sym c.has_any.ensures.any ∙ c.loop-self-test.true))
