use Rattle.std.proofs.Common.{sym, ◌∙◌}
use Rattle.guid_handles.proofs.Found.{carrier_live}
use Rattle.guid_handles.proofs.Stored.{any_counted}
use Rattle.guid_handles.specs.HandleTables.{is_on}
use Rattle.guid_handles.proofs.handles.Handles.has_any.Goals as goal

pub returns-clause-any : goal.returns-clause-any
returns-clause-any g c = rw c.interface_count.ensures (any_counted (is_on c.args.handle) c.args.self.now.interfaces)

pub returns-clause-live : goal.returns-clause-live
returns-clause-live g c = λ t.
    carrier_live c.args.self.now c.all-numbers.ensures.proper c.args.handle
    (sym (any_counted (is_on c.args.handle) c.args.self.now.interfaces) ∙ rw c.interface_count.ensures at t)
