use Rattle.page_ranges.specs.declared.ranges.Owner.TheVariants.{Pages}
use Rattle.placement_certificate.proofs.Prices.{price_is}
use Rattle.placement_certificate.proofs.laws.price_law.Goals as goal

pub returns : goal.returns
returns c = λ m r p proper good permitted. price_is m r Pages p proper good permitted
