use Rattle.std.proofs.Common.{◌∙◌}
use Rattle.guid_handles.proofs.Stored.{taken_back}
use Rattle.guid_handles.proofs.handles.Handles.take_back.Goals as goal

pub invariant_of-self : goal.invariant_of-self
invariant_of-self g c = (taken_back _ _ _ _ _ _ c.self.invariant c.args.self.now _ (c.self.view_is ∙ c.take_out.ensures) c.requires.newest c.requires.some).1

pub returns : goal.returns
returns g c = (taken_back _ _ _ _ _ _ c.self.invariant c.args.self.now _ (c.self.view_is ∙ c.take_out.ensures) c.requires.newest c.requires.some).0
