use Rattle.std.proofs.Common.{◌∙◌, sym}
use Rattle.c_interface.proofs.FoundEntries.{found_within}
use Rattle.c_interface.proofs.efi_core.EfiCore.descriptor.Goals as goal

pub entry_in_c-requires : goal.entry_in_c-requires
entry_in_c-requires g c = found_within c.self.inside.core.state.parts.book.memory c.descriptors-count.ensures.proper c.args.index c.in-Some.found (sym c.descriptor.ensures ∙ c.in-Some.is)
