use Rattle.std.proofs.Common.{rules}
use Rattle.std.proofs.lemmas.List.Sorted.{IsNonDecreasingBy-from_sort_by_key}
use Rattle.page_ranges.specs.declared.ranges.Run.{Run}
use Rattle.machine_files.proofs.MachineOrder.{rising, judged}
use Rattle.machine_files.proofs.machine_file.whole_machine.Goals as goal

pub returns : goal.returns
returns c =
    let sorted = c.sort_unstable_by_key.new.self.items in
    judged c.args.runs.items sorted c.requires.runs c.sort_unstable_by_key.ensures.permutation
    (rising sorted (IsNonDecreasingBy-from_sort_by_key (λ (r : Run). r.range.first) _ c.sort_unstable_by_key.ensures.sorted (λ a r q k. search rules)))
    c.args.granule c.requires.granule c.new.result c.new.ensures.valid c.new.ensures.machine
