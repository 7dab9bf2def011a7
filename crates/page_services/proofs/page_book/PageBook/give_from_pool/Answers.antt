-- Terms and searches, and no second tactic after them: a body that is wrong is then refused sooner.
use Rattle.std.proofs.Common.{rules}
use Rattle.page_services.proofs.Granules.{returned}
use Rattle.page_services.proofs.page_book.PageBook.give_from_pool.Goals as goal

pub end_in-requires-clause-whole : goal.end_in-requires-clause-whole
end_in-requires-clause-whole g c = returned c.args.extent c.args.self.now c.requires.owned

pub returns : goal.returns
returns g c = search rules
