-- Terms and searches, and no second tactic after them: a body that is wrong is then refused sooner.
use Rattle.std.proofs.Common.{subst}
use Rattle.placement_certificate.specs.Placement.{IsPermittedStart}
use Rattle.page_services.specs.PageRules.{Book}
use Rattle.page_services.proofs.Choices.{certified_is_permitted}
use Rattle.page_services.proofs.Granules.{chosen_granules}
use Rattle.page_services.proofs.page_book.PageBook.place_best.Goals as goal

pub place_in-requires-clause-whole : goal.place_in-requires-clause-whole
place_in-requires-clause-whole g c =
    let permitted = subst (λ (b : Book). IsPermittedStart b.memory c.args.request c.in-Some.first) c.self.view_is (certified_is_permitted c.self.inside.table.pages c.args.request c.in-Some.first c.in-Some.ensures.best) in
    chosen_granules c.args.self.now c.args.request c.in-Some.first c.args.owner c.requires.proper c.requires.granule permitted
