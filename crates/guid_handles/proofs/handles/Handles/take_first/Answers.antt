use Rattle.std.proofs.Common.{sym}
use Rattle.guid_handles.proofs.Stored.{first_fewer, first_goes, none_fewer}
use Rattle.guid_handles.proofs.handles.Handles.take_first.Goals as goal

pub returns-in-Some-clause-others : goal.returns-in-Some-clause-others
returns-in-Some-clause-others g c = rw c.take_out.ensures (first_goes c.args.handle c.in-Some.interface.guid c.args.self.now)

pub returns-in-Some-clause-fewer : goal.returns-in-Some-clause-fewer
returns-in-Some-clause-fewer g c = rw c.take_out.ensures (first_fewer c.args.handle c.args.self.now.interfaces c.in-Some.interface (sym c.in-Some.ensures))

pub returns-in_default-clause-fewer : goal.returns-in_default-clause-fewer
returns-in_default-clause-fewer g c = none_fewer _ (sym c.in_default.ensures)
