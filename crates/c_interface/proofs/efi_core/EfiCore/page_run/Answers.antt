use Rattle.std.proofs.Common.{◌∙◌, sym}
use Rattle.c_interface.proofs.FoundRuns.{run_within}
use Rattle.c_interface.proofs.efi_core.EfiCore.page_run.Goals as goal

pub run_in_c-requires : goal.run_in_c-requires
run_in_c-requires g c = run_within c.self.inside.core.state.parts.book.memory c.page_runs-count.ensures.proper c.args.index c.in-Some.found (sym c.page_run.ensures ∙ c.in-Some.is)
