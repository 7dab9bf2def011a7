use Rattle.std.proofs.Common.{◌∙◌}
use Rattle.guid_handles.proofs.TakenBack.{fewer_handles, none_above, still_above}
use Rattle.guid_handles.proofs.handles.Handles.remove_above.Goals as goal

pub loop-last-smaller : goal.loop-last-smaller
loop-last-smaller g c = rw c.remove_handle.ensures (fewer_handles c.in-Some.last c.loop-last.self.handles (rw c.all.ensures.numbers at c.in-Some.ensures.there.1))

pub loop-last-preserved : goal.loop-last-preserved
loop-last-preserved g c = rw c.remove_handle.ensures (still_above c.args.number c.in-Some.last c.loop-last.self c.in-Some.ensures.there.0) ∙ c.loop-last.invariant

pub returns : goal.returns
returns g c = none_above c.args.number c.loop-last.self c.all.ensures.proper (rw c.all.ensures.numbers at c.in_default.ensures.none) ∙ c.loop-last.invariant
