-- Terms and no search: a body that is wrong is then refused sooner.
use Rattle.std.proofs.Common.{sym, ap, ◌∙◌}
use Rattle.page_ranges.specs.Granules.{is_granular}
use Rattle.page_ranges.proofs.WholeGranules.{granule_for_granular, granule_for_other}
use Rattle.page_ranges.proofs.granules.granule_for.Goals as goal

pub returns-then-is_granular : goal.returns-then-is_granular
returns-then-is_granular c = sym (granule_for_granular c.args.mtype c.args.granule (ap is_granular (sym c.number.ensures) ∙ sym c.is_granular.ensures ∙ c.if-is_granular.true))

pub returns-else-is_granular : goal.returns-else-is_granular
returns-else-is_granular c = sym (granule_for_other c.args.mtype c.args.granule (ap is_granular (sym c.number.ensures) ∙ sym c.is_granular.ensures ∙ c.if-is_granular.false))
