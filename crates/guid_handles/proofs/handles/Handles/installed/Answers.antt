use Rattle.guid_handles.proofs.handles.Handles.installed.Goals as goal

pub returns-clause-table : goal.returns-clause-table
returns-clause-table g c = rw (← c.self.view_is) c.self.invariant.table
