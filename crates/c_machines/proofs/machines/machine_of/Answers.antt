use Rattle.std.proofs.Common.{rules, IsPermutation, List, subst}
use Rattle.std.proofs.lemmas.List.Sorted.{IsNonDecreasingBy-from_sort_by_key}
use Rattle.page_ranges.specs.declared.ranges.Run.{Run}
use Rattle.c_machines.proofs.DescribedMachine.{made}
use Rattle.c_machines.proofs.machines.machine_of.Goals as goal

pub returns : goal.returns
returns g c =
    let sorted = c.sort_unstable_by_key.new.self.items in
    let read = c.in_ok-runs.ensures in
    let order = IsNonDecreasingBy-from_sort_by_key (λ (r : Run). r.range.first) _ c.sort_unstable_by_key.ensures.sorted (λ a r q k. search rules) in
    let same = subst (λ (rs : List Run). IsPermutation rs sorted) read.1 c.sort_unstable_by_key.ensures.permutation in
    rw c.ok_or.ensures.value (made c.args.descriptor_size c.args.records.now c.args.granule sorted read.0 same order c.new.result c.new.ensures.valid c.new.ensures.machine)
