use Rattle.std.proofs.Common.{List, ◌++◌, ap, sym, ◌∙◌, arith}
use Rattle.std.proofs.lemmas.Grind.{common_steps}
use Rattle.page_ranges.specs.declared.ranges.Descriptor.{Descriptor}
use Rattle.page_ranges.proofs.Blocks.{entry_within}
use Rattle.boot_trace.proofs.listings.print_map_entries.Goals as goal

pub print_descriptor-requires : goal.print_descriptor-requires
print_descriptor-requires g c = entry_within c.args.services.now.state.parts.book.memory c.map_entries-entry-items.ensures.proper c.loop-entry.yielded c.in-Some.entry c.next.new.self
    (ap (λ (ds : List Descriptor). c.loop-entry.yielded ++ ds) (sym c.in-Some.ensures.steps) ∙ c.loop-entry.invariant.left)

pub loop-entry-preserved : goal.loop-entry-preserved
loop-entry-preserved g c = grind (arith, common_steps)
