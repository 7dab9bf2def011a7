-- Terms and searches, and no second tactic after them: a body that is wrong is then refused sooner.
use Rattle.std.proofs.Common.{◌≡◌, true≢false, refl, sym, subst, ◌∙◌, arith}
use Rattle.page_ranges.specs.Granules.{granule_for}
use Rattle.page_ranges.specs.Memory.{IsProperMemory, IsConventional, AllInRange}
use Rattle.page_services.specs.PageRules.{Book, range_from}
use Rattle.page_services.proofs.Granules.{named_granules, not_free, never_free}
use Rattle.page_services.proofs.page_book.PageBook.place_at.Goals as goal

pub returns-in_default : goal.returns-in_default
returns-in_default g c =
    let of_type = subst (λ (b : Book). c.granule_for-granule.result ≡ granule_for c.args.mtype b.granule) c.self.view_is c.granule_for-granule.ensures in
    let proper = subst (λ (b : Book). IsProperMemory b.memory) c.self.view_is c.descriptors.ensures.proper in
    ((omega arith, c.requires.good, c.requires.some), refl, never_free c.args.self.now c.args.mtype c.args.pages c.args.memory c.granule_for-granule.result of_type (sym c.rounded.ensures ∙ c.in_default.is) proper c.ranges.memory.fits, refl)

pub returns-then-not-all_conventional : goal.returns-then-not-all_conventional
returns-then-not-all_conventional g c =
    let of_type = subst (λ (b : Book). c.granule_for-granule.result ≡ granule_for c.args.mtype b.granule) c.self.view_is c.granule_for-granule.ensures in
    let taken : ¬ AllInRange c.args.self.now.memory (range_from c.args.memory c.in-Some.pages) IsConventional = subst (λ (b : Book). ¬ AllInRange b.memory (range_from c.args.memory c.in-Some.pages) IsConventional) c.self.view_is (λ all. true≢false (sym (c.if-not-all_conventional.ensures.1 all))) in
    ((omega arith, c.requires.good, c.requires.some), refl, not_free c.args.self.now c.args.mtype c.args.pages c.args.memory c.granule_for-granule.result of_type c.in-Some.pages (sym c.rounded.ensures ∙ c.in-Some.is) taken, refl)

pub place_in-requires-clause-whole : goal.place_in-requires-clause-whole
place_in-requires-clause-whole g c =
    let of_type = subst (λ (b : Book). c.granule_for-granule.result ≡ granule_for c.args.mtype b.granule) c.self.view_is c.granule_for-granule.ensures in
    let free = subst (λ (b : Book). AllInRange b.memory (range_from c.args.memory c.in-Some.pages) IsConventional) c.self.view_is (c.if-not-all_conventional.ensures.0 refl) in
    named_granules c.args.self.now c.args.mtype c.args.pages c.args.memory c.granule_for-granule.result of_type c.in-Some.pages (sym c.rounded.ensures ∙ c.in-Some.is) c.if-first-granule-ne0.false free
