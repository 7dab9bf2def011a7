use Rattle.guid_handles.proofs.Following.{next_listed, none_later}
use Rattle.guid_handles.proofs.handles.Handles.after_stamp.Goals as goal

pub returns : goal.returns
returns g c = rw (← c.self.view_is) (next_listed _ _ _ _ _ _ c.self.invariant c.args.guid c.args.mark _ c.after.ensures)

pub returns-then-mark-self : goal.returns-then-mark-self
returns-then-mark-self g c = rw (← c.self.view_is) (none_later _ _ _ _ _ _ c.self.invariant c.args.guid c.args.mark c.if-mark-self.true)
