-- Terms and searches, and no second tactic after them: a body that is wrong is then refused sooner.
use Rattle.std.proofs.Common.{◌≡◌, ◌+◌, subst, arith}
use Rattle.page_ranges.proofs.WholeGranules.{some_granule, rounded_at_least}
use Rattle.page_services.specs.PageRules.{Book}
use Rattle.page_services.proofs.Granules.{freed_as_named, freed_is, rounded_returned}
use Rattle.page_services.proofs.page_book.PageBook.freed_range.Goals as goal

pub returns-then-self-eq1 : goal.returns-then-self-eq1
returns-then-self-eq1 g c = freed_as_named c.args.self.now c.args.range (subst (λ (b : Book). b.granule ≡ 1) c.self.view_is c.if-self-eq1.true) c.requires.some

pub nonzero_rem-first : goal.nonzero_rem-first
nonzero_rem-first g c = some_granule _ c.granule_at-low.ensures.valid

pub overflow_sub-result : goal.overflow_sub-result
overflow_sub-result g c = omega (arith, rounded_returned (c.args.range.first + c.args.range.pages) c.granule_at-high.result c.rounded.result c.unwrap_or-end.result c.rounded.ensures c.unwrap_or-end.ensures c.granule_at-high.ensures.valid c.requires.end, rounded_at_least (c.args.range.first + c.args.range.pages) c.granule_at-high.result c.granule_at-high.ensures.valid)

pub returns : goal.returns
returns g c = freed_is c.args.self.now c.args.range.first c.args.range.pages c.granule_at-low.result c.granule_at-high.result c.unwrap_or-end.result c.granule_at-low.ensures.granule c.granule_at-high.ensures.granule c.requires.some (rounded_returned (c.args.range.first + c.args.range.pages) c.granule_at-high.result c.rounded.result c.unwrap_or-end.result c.rounded.ensures c.unwrap_or-end.ensures c.granule_at-high.ensures.valid c.requires.end)
