use Rattle.placement_chooser.proofs.Alone.{none_priced, some_priced}
use Rattle.placement_chooser.proofs.bounds.priced.Goals as goal

pub returns-then-offer-eq0 : goal.returns-then-offer-eq0
returns-then-offer-eq0 c = λ least offered. none_priced c.args.entries least c.args.offer offered c.if-offer-eq0.true

pub returns : goal.returns
returns c = λ least offered. some_priced c.args.entries least c.args.offer offered c.if-offer-eq0.false
