use Rattle.std.proofs.Common.{sym, subst, ap, ◌∙◌}
use Rattle.page_ranges.specs.MemoryTypes.{page_count}
use Rattle.page_ranges.specs.MemoryMap.{memory_map}
use Rattle.page_ranges.specs.Runs.{pages_of, AreRuns}
use Rattle.descriptor_table.specs.Tables.{EndBy}
use Rattle.descriptor_table.proofs.Places.{passed_first}
use Rattle.descriptor_table.proofs.entries.MapEntries.new.Goals as goal

pub invariant_of-result : goal.invariant_of-result
invariant_of-result g c =
    let all = sym c.new-walk.ensures ∙ passed_first c.new-walk.result c.next-first.new.self _ c.next-first.ensures in
    (subst AreRuns all c.requires.runs, subst (EndBy page_count) all c.requires.ends)

pub returns : goal.returns
returns g c =
    let all = sym c.new-walk.ensures ∙ passed_first c.new-walk.result c.next-first.new.self _ c.next-first.ensures in
    ap (λ rs. memory_map (pages_of rs)) (sym all)
