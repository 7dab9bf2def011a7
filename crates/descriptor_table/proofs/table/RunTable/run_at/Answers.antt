use Rattle.std.specs.Option.{option_map}
use Rattle.descriptor_table.specs.Leaves.{runs_in}
use Rattle.descriptor_table.proofs.TableFacts.{cursor_table, holds_page}
use Rattle.descriptor_table.proofs.table.RunTable.run_at.Goals as goal

pub returns-clause-maximal : goal.returns-clause-maximal
returns-clause-maximal g c =
    let rs = runs_in c.self.inside.row.leaves in
    let page = rw c.leaves.ensures.value at c.run_in_leaves.ensures.page in
    let member = rw c.leaves.ensures.value at c.run_in_leaves.ensures.member in
    rw (← c.self.view_is, c.copied.ensures) (holds_page rs _ c.args.page (option_map (λ r. r.now) c.run_in_leaves.result) (cursor_table rs c.self.invariant.maximal c.self.invariant.proper) page member)
