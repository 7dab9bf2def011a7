use Rattle.std.proofs.Common.{length, ap, ◌∙◌, arith}
use Rattle.std.proofs.lemmas.List.{take_all}
use Rattle.descriptor_table.specs.Leaves.{runs_in}
use Rattle.descriptor_table.specs.Wanting.{entries_of}
use Rattle.descriptor_table.proofs.NoUse.{entries_of_table}
use Rattle.descriptor_table.proofs.entries_down.EntriesDown.new.Goals as goal

pub returns-clause-entries : goal.returns-clause-entries
returns-clause-entries g c =
    let ls = c.args.leaves.now in
    ap (λ xs. entries_of (runs_in xs)) (take_all (length ls) ls (omega arith)) ∙ entries_of_table (runs_in ls) c.requires.maximal c.requires.proper
