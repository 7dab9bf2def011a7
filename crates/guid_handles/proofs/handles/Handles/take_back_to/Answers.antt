use Rattle.std.proofs.Common.{◌∙◌}
use Rattle.guid_handles.proofs.TakenBack.{taken_back_to_mark}
use Rattle.guid_handles.proofs.handles.Handles.take_back_to.Goals as goal

pub invariant_of-self : goal.invariant_of-self
invariant_of-self g c = (taken_back_to_mark _ _ _ _ _ _ c.self.invariant c.args.self.now c.args.last_number c.args.last_stamp (c.self.view_is ∙ c.remove_above.ensures) c.requires).1

pub returns : goal.returns
returns g c = (taken_back_to_mark _ _ _ _ _ _ c.self.invariant c.args.self.now c.args.last_number c.args.last_stamp (c.self.view_is ∙ c.remove_above.ensures) c.requires).0
