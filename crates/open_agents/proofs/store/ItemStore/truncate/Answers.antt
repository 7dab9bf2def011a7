use Rattle.std.proofs.Common.{sym, ◌∙◌}
use Rattle.std.proofs.lemmas.List.{take_all}
use Rattle.open_agents.specs.Blocks.{items_in}
use Rattle.open_agents.proofs.store.ItemStore.truncate.Goals as goal

pub returns : goal.returns
returns g c =
    let i = c.loop-left.invariant in
    sym (take_all c.args.count (items_in c.loop-left.self) (rw i.many at c.loop-left-test.false)) ∙ i.first
