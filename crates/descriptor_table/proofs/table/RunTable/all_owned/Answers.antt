use Rattle.descriptor_table.proofs.table.RunTable.all_owned.Goals as goal

pub returns : goal.returns
returns g c = rw (← c.self.view_is) (rw c.leaves.ensures.value at c.all_in_range.ensures)
