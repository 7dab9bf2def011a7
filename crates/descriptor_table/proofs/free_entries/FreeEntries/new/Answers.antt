use Rattle.descriptor_table.specs.Leaves.{runs_in}
use Rattle.descriptor_table.proofs.NoUse.{entries_of_table}
use Rattle.descriptor_table.proofs.free_entries.FreeEntries.new.Goals as goal

pub returns-clause-entries : goal.returns-clause-entries
returns-clause-entries g c = entries_of_table (runs_in c.args.leaves.now) c.requires.maximal c.requires.proper
