use Rattle.std.proofs.Common.{refl, ap, ◌∙◌}
use Rattle.std.proofs.lemmas.Result.{IfOk-from_err}
use Rattle.guid_handles.proofs.Refused.{on_err}
use Rattle.protocol_services.specs.Saved.{put_back}
use Rattle.protocol_services.specs.Removing.{freed}
use Rattle.protocol_services.proofs.Freed.{freed_part, part_raised}
use Rattle.protocol_services.proofs.Raised.{stays_raised}
use Rattle.protocol_services.proofs.protocols.Protocols.replace_freed.Goals as goal

pub returns-in_err-given-clause-ok : goal.returns-in_err-given-clause-ok
returns-in_err-given-clause-ok g c = IfOk-from_err c.from_residual.result _ c.from_residual.ensures.0

pub returns-in_err-given-clause-err : goal.returns-in_err-given-clause-err
returns-in_err-given-clause-err g c = on_err c.from_residual.result _ refl

pub returns-in_err-given-clause-raised : goal.returns-in_err-given-clause-raised
returns-in_err-given-clause-raised g c = stays_raised c.args.self.now

pub returns-in_err-saved-clause-ok : goal.returns-in_err-saved-clause-ok
returns-in_err-saved-clause-ok g c = IfOk-from_err c.from_residual-in_err-saved.result _ c.from_residual-in_err-saved.ensures.0

pub returns-in_err-saved-clause-err : goal.returns-in_err-saved-clause-err
returns-in_err-saved-clause-err g c = on_err c.from_residual-in_err-saved.result _ refl

pub returns-in_err-saved-clause-raised : goal.returns-in_err-saved-clause-raised
returns-in_err-saved-clause-raised g c = stays_raised c.args.self.now

pub saved_before-requires : goal.saved_before-requires
saved_before-requires g c = c.requires.plan

pub free-requires : goal.free-requires
free-requires g c = c.requires.plan

pub replace_and_connect-requires-clause-there : goal.replace_and_connect-requires-clause-there
replace_and_connect-requires-clause-there g c = rw c.free.ensures c.requires.there

pub replace_and_connect-requires-clause-room : goal.replace_and_connect-requires-clause-room
replace_and_connect-requires-clause-room g c = rw c.free.ensures c.requires.room

pub replace_and_connect-requires-clause-given : goal.replace_and_connect-requires-clause-given
replace_and_connect-requires-clause-given g c = rw (c.free.ensures, ← c.self.view_is) c.in_ok-given.ensures.events

pub returns-in-Ok-clause-ok : goal.returns-in-Ok-clause-ok
returns-in-Ok-clause-ok g c = rw c.free.ensures at c.in-Ok.ensures.ok

pub returns-in-Ok-clause-raised : goal.returns-in-Ok-clause-raised
returns-in-Ok-clause-raised g c =
    part_raised c.args.self.now (freed c.args.replacement.now.handle c.args.replacement.now.guid c.args.self.now) c.replace_and_connect.new.self
    (freed_part c.args.self.now c.args.replacement.now.handle c.args.replacement.now.guid) (rw c.free.ensures at c.in-Ok.ensures.raised)

pub returns-in-Err-clause-err : goal.returns-in-Err-clause-err
returns-in-Err-clause-err g c = c.put_back.ensures ∙ ap (put_back c.in_ok-saved.saved) (c.in-Err.ensures.err ∙ c.free.ensures) ∙ c.in_ok-saved.ensures

pub returns-in-Err-clause-raised : goal.returns-in-Err-clause-raised
returns-in-Err-clause-raised g c = let same = returns-in-Err-clause-err g c in rw same (stays_raised c.args.self.now)
