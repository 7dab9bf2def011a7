use Rattle.std.proofs.Common.{sym, ◌∙◌}
use Rattle.std.proofs.lemmas.Iterator.Consumers.{nth_from_yields_List, YieldsList-from_first}
use Rattle.std.proofs.lemmas.Iterator.Adapters.{option_map_id}
use Rattle.page_ranges.specs.MemoryMap.{memory_map}
use Rattle.descriptor_table.proofs.table.RunTable.descriptor.Goals as goal

pub returns : goal.returns
returns g c =
    sym (option_map_id c.nth.result) ∙ nth_from_yields_List c.nth.result c.nth.new.self c.args.index c.nth.ensures.ran (YieldsList-from_first (λ e. e) (λ e. e) (memory_map c.args.self.now.pages) c.map_entries.ensures)
