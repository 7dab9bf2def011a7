use Rattle.std.proofs.Common.{◌≡◌, ◌+◌, ◌++◌, [], ap, sym, ◌∙◌, refl, arith}
use Rattle.std.proofs.lemmas.List.{get_or_default}
use Rattle.descriptor_table.specs.Leaves.{leaf_at}
use Rattle.descriptor_table.specs.Wanting.{entries_from, entries_of}
use Rattle.descriptor_table.proofs.Upward.{leaf_first}
use Rattle.descriptor_table.proofs.free_entries.FreeEntries.next_leaf.Goals as goal

pub returns-clause-next : goal.returns-clause-next
returns-clause-next g c =
    let ls = c.self.inside.leaves.now in
    let j = c.in_ok-leaf.leaf in
    let e = c.in_ok-leaf.ensures in
    let same : c.runs.result.now ≡ leaf_at ls j = c.runs.ensures ∙ get_or_default ls j c.index-self-leaf.result [] e.bound.1 in
    rw (← c.self.view_is) (refl, omega (arith, e.bound), e.some ∙ leaf_first ls j e.bound.1 ∙ ap (λ rs. entries_of rs ++ entries_from ls (j + 1)) (sym same))
