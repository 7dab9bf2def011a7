use Rattle.std.proofs.Common.{◌≡◌, ◌++◌, ◌∷◌, [], ◌<◌, ◌∙◌, List, length, slice_set, ap, sym, arith}
use Rattle.std.proofs.Math.Arith.{lt_of_le-ne}
use Rattle.std.proofs.lemmas.Grind.{common_steps}
use Rattle.std.proofs.lemmas.List.{length-append}
use Rattle.page_ranges.specs.declared.ranges.Descriptor.{Descriptor}
use Rattle.page_ranges.specs.MemoryMap.{memory_map}
use Rattle.page_ranges.proofs.Blocks.{entry_within}
use Rattle.c_interface.specs.EfiCores.{EfiCoreValue}
use Rattle.c_interface.proofs.LaidEntries.{entry_laid, length_laid}
use Rattle.c_interface.proofs.efi_core.EfiCore.map.Goals as goal

pub entry_in_c-requires : goal.entry_in_c-requires
entry_in_c-requires g c = entry_within c.self.inside.core.state.parts.book.memory c.descriptors-count.ensures.proper c.loop-found.yielded c.in-Some.found c.next.new.self
    (ap (λ (ds : List Descriptor). c.loop-found.yielded ++ ds) (sym c.in-Some.ensures.steps) ∙ c.loop-found.invariant.left ∙ sym (ap (λ (x : EfiCoreValue g.row.A.Denot). memory_map x.core.state.parts.book.memory) c.self.view_is))

pub loop-found-preserved : goal.loop-found-preserved
loop-found-preserved g c =
    let ds = c.loop-found.yielded in
    let old = c.args.entries.now in
    let used = c.loop-found.used in
    let i = c.loop-found.invariant in
    let same : length c.loop-found.entries ≡ length old = ap length i.copied ∙ length_laid ds old used i.used i.room in
    let less : used < length old = lt_of_le-ne i.room (λ e. c.if-used-entries.false (e ∙ sym same)) in
    record {
      copied = ap (λ v. slice_set c.loop-found.entries used v) c.entry_in_c.ensures ∙ entry_laid ds c.in-Some.found old c.loop-found.entries used i.used less i.copied;
      used = omega (arith, i.used, length-append ds (c.in-Some.found ∷ []));
      room = omega (arith, less);
      left = grind (arith, common_steps);
    }
