use Rattle.std.proofs.Common.{sym, ap}
use Rattle.descriptor_table.proofs.table.RunTable.find_owned.Goals as goal

pub returns-else-holds_all-clause-owned : goal.returns-else-holds_all-clause-owned
returns-else-holds_all-clause-owned g c = rw (sym (ap (λ t. t.pages) c.self.view_is)) c.all_owned.ensures
