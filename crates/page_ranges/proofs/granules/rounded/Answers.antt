-- Terms and no search: a body that is wrong is then refused sooner.
use Rattle.std.proofs.Common.{sym, ap, ◌∙◌}
use Rattle.page_ranges.specs.Granules.{if_64_bits}
use Rattle.page_ranges.proofs.WholeGranules.{rounded_zero, rounded_whole, rounded_over, if_64_bits_some, checked_64_bits}
use Rattle.page_ranges.proofs.granules.rounded.Goals as goal

pub returns-then-granule-eq0 : goal.returns-then-granule-eq0
returns-then-granule-eq0 c = sym (ap if_64_bits (rounded_zero c.args.pages c.args.granule c.if-granule-eq0.true) ∙ if_64_bits_some _ c.ranges.pages.fits)

pub returns-then-over-eq0 : goal.returns-then-over-eq0
returns-then-over-eq0 c = sym (ap if_64_bits (rounded_whole c.args.pages c.args.granule c.if-over-eq0.true) ∙ if_64_bits_some _ c.ranges.pages.fits)

pub returns-else-over-eq0 : goal.returns-else-over-eq0
returns-else-over-eq0 c = checked_64_bits _ _ c.checked_add.ensures ∙ ap if_64_bits (sym (rounded_over c.args.pages c.args.granule c.if-over-eq0.false))
