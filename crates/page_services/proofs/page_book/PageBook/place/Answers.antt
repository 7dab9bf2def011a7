-- Terms and searches, and no second tactic after them: a body that is wrong is then refused sooner.
use Rattle.page_services.proofs.Choices.{best_is_permitted}
use Rattle.page_services.proofs.Granules.{chosen_granules}
use Rattle.page_services.proofs.page_book.PageBook.place.Goals as goal

pub place_in-requires-clause-whole : goal.place_in-requires-clause-whole
place_in-requires-clause-whole g c =
    let permitted = best_is_permitted c.args.self.now c.args.chosen.request c.args.chosen.first c.args.chosen.certificate c.requires.chosen.best in
    chosen_granules c.args.self.now c.args.chosen.request c.args.chosen.first c.args.owner c.requires.chosen.proper c.requires.chosen.granule permitted
