-- Terms and searches, and no second tactic after them: a body that is wrong is then refused sooner.
use Rattle.std.proofs.Common.{◌≡◌, ◌≤◌, IfSome, None, Some, refl, sym, subst, ◌∙◌, arith}
use Rattle.page_ranges.specs.MemoryTypes.{page_count}
use Rattle.page_ranges.specs.Granules.{granule_for}
use Rattle.placement_certificate.specs.declared.certificates.Request.{Request}
use Rattle.placement_certificate.specs.Placement.{IsProperRequest}
use Rattle.page_services.specs.PageRules.{Book, FindsNoStart, IsChosenOn, IsInGranules, if_counted, pool_request}
use Rattle.page_services.proofs.Granules.{counted_is, uncounted_none, whole_request_proper}
use Rattle.page_services.proofs.page_book.PageBook.choose_for_pool.Goals as goal

pub best_place-requires-clause-proper : goal.best_place-requires-clause-proper
best_place-requires-clause-proper g c =
    let asked = subst (λ (b : Book). if_counted (pool_request b.granule c.args.mtype c.args.pages) ≡ Some c.in-Some.request) c.self.view_is (sym c.pool_request.ensures ∙ c.in-Some.is) in
    let same = (counted_is (pool_request c.args.self.now.granule c.args.mtype c.args.pages) c.in-Some.request asked).0 in
    let is = subst IsInGranules c.self.view_is c.self.invariant.0 in
    subst IsProperRequest (sym same) (whole_request_proper c.args.self.now.granule c.args.mtype c.args.pages page_count is.granule c.requires.good c.requires.some)

pub best_place-requires-clause-limit : goal.best_place-requires-clause-limit
best_place-requires-clause-limit g c =
    let asked = subst (λ (b : Book). if_counted (pool_request b.granule c.args.mtype c.args.pages) ≡ Some c.in-Some.request) c.self.view_is (sym c.pool_request.ensures ∙ c.in-Some.is) in
    let same = (counted_is (pool_request c.args.self.now.granule c.args.mtype c.args.pages) c.in-Some.request asked).0 in
    subst (λ (q : Request). q.limit ≤ page_count) (sym same) (omega arith)

pub best_place-requires-clause-granule : goal.best_place-requires-clause-granule
best_place-requires-clause-granule g c =
    let asked = subst (λ (b : Book). if_counted (pool_request b.granule c.args.mtype c.args.pages) ≡ Some c.in-Some.request) c.self.view_is (sym c.pool_request.ensures ∙ c.in-Some.is) in
    let same = (counted_is (pool_request c.args.self.now.granule c.args.mtype c.args.pages) c.in-Some.request asked).0 in
    subst (λ (q : Request). q.granule ≡ granule_for q.mtype c.args.self.now.granule) (sym same) refl

pub returns-in-Some-clause-best : goal.returns-in-Some-clause-best
returns-in-Some-clause-best g c =
    let asked = subst (λ (b : Book). if_counted (pool_request b.granule c.args.mtype c.args.pages) ≡ Some c.in-Some.request) c.self.view_is (sym c.pool_request.ensures ∙ c.in-Some.is) in
    let same = (counted_is (pool_request c.args.self.now.granule c.args.mtype c.args.pages) c.in-Some.request asked).0 in
    subst (λ (q : Request). IfSome c.best_place.result (λ x. (x.request ≡ q) × IsChosenOn c.args.self.now x)) same c.best_place.ensures.best

pub returns-in-Some-clause-none : goal.returns-in-Some-clause-none
returns-in-Some-clause-none g c =
    let asked = subst (λ (b : Book). if_counted (pool_request b.granule c.args.mtype c.args.pages) ≡ Some c.in-Some.request) c.self.view_is (sym c.pool_request.ensures ∙ c.in-Some.is) in
    let same = (counted_is (pool_request c.args.self.now.granule c.args.mtype c.args.pages) c.in-Some.request asked).0 in
    λ none. subst (FindsNoStart c.args.self.now) same (c.best_place.ensures.none none)

pub returns-in-None-clause-none : goal.returns-in-None-clause-none
returns-in-None-clause-none g c =
    let none = subst (λ (b : Book). if_counted (pool_request b.granule c.args.mtype c.args.pages) ≡ None) c.self.view_is (sym c.pool_request.ensures ∙ c.in-None.is) in
    λ e. uncounted_none c.args.self.now (pool_request c.args.self.now.granule c.args.mtype c.args.pages) (omega arith) none
