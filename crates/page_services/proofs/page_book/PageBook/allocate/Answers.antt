-- Terms and searches, and no second tactic after them: a body that is wrong is then refused sooner.
use Rattle.std.proofs.Common.{◌≡◌, false, None, Some, refl, sym, subst, ◌∙◌, arith}
use Rattle.std.specs.Option.{option_and_then}
use Rattle.page_ranges.specs.MemoryTypes.{is_bad_type}
use Rattle.page_services.specs.PageRules.{Book, IsInGranules, IsBestChoice, AllocatesPages, RefusesPages, if_counted, placement_request}
use Rattle.page_services.proofs.Granules.{asked_request, asked_granule, named_type, placement_request_proper, placement_request_limit, refused_pages, allocates_placed}
use Rattle.page_services.proofs.page_book.PageBook.allocate.Goals as goal

pub place_best-requires-clause-proper : goal.place_best-requires-clause-proper
place_best-requires-clause-proper g c =
    let returned = subst (λ (b : Book). option_and_then if_counted (placement_request b.granule c.args.kind c.in_ok-mtype.mtype c.args.pages c.args.memory) ≡ Some c.in-Some.request) c.self.view_is (sym c.placement_request.ensures ∙ c.in-Some.is) in
    let asked = asked_request c.args.self.now.granule c.args.kind c.in_ok-mtype.mtype c.args.pages c.args.memory c.in-Some.request returned in
    let (good, same) = named_type c.args.mtype c.in_ok-mtype.mtype (sym c.in_ok-mtype.ensures) in
    let is = subst IsInGranules c.self.view_is c.self.invariant.0 in
    placement_request_proper c.args.self.now.granule c.args.kind c.in_ok-mtype.mtype c.args.pages c.args.memory c.in-Some.request is.granule (subst (λ t. is_bad_type t ≡ false) same good) (omega arith) asked

pub place_best-requires-clause-limit : goal.place_best-requires-clause-limit
place_best-requires-clause-limit g c =
    let returned = subst (λ (b : Book). option_and_then if_counted (placement_request b.granule c.args.kind c.in_ok-mtype.mtype c.args.pages c.args.memory) ≡ Some c.in-Some.request) c.self.view_is (sym c.placement_request.ensures ∙ c.in-Some.is) in
    let asked = asked_request c.args.self.now.granule c.args.kind c.in_ok-mtype.mtype c.args.pages c.args.memory c.in-Some.request returned in
    placement_request_limit c.args.self.now.granule c.args.kind c.in_ok-mtype.mtype c.args.pages c.args.memory c.in-Some.request c.ranges.memory.fits asked

pub place_best-requires-clause-granule : goal.place_best-requires-clause-granule
place_best-requires-clause-granule g c =
    let returned = subst (λ (b : Book). option_and_then if_counted (placement_request b.granule c.args.kind c.in_ok-mtype.mtype c.args.pages c.args.memory) ≡ Some c.in-Some.request) c.self.view_is (sym c.placement_request.ensures ∙ c.in-Some.is) in
    let asked = asked_request c.args.self.now.granule c.args.kind c.in_ok-mtype.mtype c.args.pages c.args.memory c.in-Some.request returned in
    asked_granule c.args.self.now.granule c.args.kind c.in_ok-mtype.mtype c.args.pages c.args.memory c.in-Some.request asked

pub returns-in-Some : goal.returns-in-Some
returns-in-Some g c =
    let returned = subst (λ (b : Book). option_and_then if_counted (placement_request b.granule c.args.kind c.in_ok-mtype.mtype c.args.pages c.args.memory) ≡ Some c.in-Some.request) c.self.view_is (sym c.placement_request.ensures ∙ c.in-Some.is) in
    let asked = asked_request c.args.self.now.granule c.args.kind c.in_ok-mtype.mtype c.args.pages c.args.memory c.in-Some.request returned in
    let (good, same) = named_type c.args.mtype c.in_ok-mtype.mtype (sym c.in_ok-mtype.ensures) in
    subst (λ t. AllocatesPages IsBestChoice c.args.self.now c.args.kind t c.args.pages c.args.memory c.place_best.result c.place_best.new.self) (sym same) (allocates_placed c.args.self.now c.place_best.new.self c.args.kind c.in_ok-mtype.mtype c.args.pages c.args.memory c.in-Some.request (omega arith, subst (λ t. is_bad_type t ≡ false) same good, omega arith) c.if-kind-eq-ALLOCATE_ADDRESS.false asked c.place_best.result c.place_best.ensures)

pub returns-in-None : goal.returns-in-None
returns-in-None g c =
    let none = subst (λ (b : Book). option_and_then if_counted (placement_request b.granule c.args.kind c.in_ok-mtype.mtype c.args.pages c.args.memory) ≡ None) c.self.view_is (sym c.placement_request.ensures ∙ c.in-None.is) in
    let (good, same) = named_type c.args.mtype c.in_ok-mtype.mtype (sym c.in_ok-mtype.ensures) in
    let refuses = refused_pages c.args.self.now c.args.kind c.in_ok-mtype.mtype c.args.pages c.args.memory c.ranges.memory.fits (omega arith) c.if-kind-eq-ALLOCATE_ADDRESS.false none in
    ((omega arith, good, omega arith), λ k. absurd (c.if-kind-eq-ALLOCATE_ADDRESS.false k), refl, subst (λ t. RefusesPages c.args.self.now (placement_request c.args.self.now.granule c.args.kind t c.args.pages c.args.memory)) (sym same) refuses)
