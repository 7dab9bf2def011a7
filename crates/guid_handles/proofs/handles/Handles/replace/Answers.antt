use Rattle.guid_handles.proofs.Stored.{table_replaced}
use Rattle.guid_handles.proofs.handles.Handles.replace.Goals as goal

pub rewrite-requires-clause-table : goal.rewrite-requires-clause-table
rewrite-requires-clause-table g c = rw (← c.self.view_is) (table_replaced _ c.args.handle c.args.guid c.args.value c.self.invariant.table)
