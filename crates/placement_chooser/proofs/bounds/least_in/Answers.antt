use Rattle.std.proofs.Common.{true≢false, ◌∙◌, sym, ap, subst, arith}
use Rattle.page_ranges.specs.declared.ranges.Descriptor.{Descriptor}
use Rattle.page_ranges.specs.MemoryTypes.{is_specific_purpose}
use Rattle.placement_certificate.specs.Certificates.{IsTrueLeast}
use Rattle.placement_certificate.proofs.BlockStarts.{few_in_map}
use Rattle.placement_certificate.proofs.Places.{none_permitted}
use Rattle.placement_chooser.specs.Starts.{IsOfferOf}
use Rattle.placement_chooser.proofs.Alone.{saves_at_most, too_short}
use Rattle.placement_chooser.proofs.bounds.least_in.Goals as goal

pub returns-then-run-request-clause-least : goal.returns-then-run-request-clause-least
returns-then-run-request-clause-least g c = too_short c.args.free.memory c.args.request.now c.args.free.entry (λ k. true≢false (sym (c.goes_on.ensures.1 k) ∙ c.if-not-goes_on.true)) (omega (arith, c.if-run-request.true, ap (λ (d : Descriptor). d.pages) c.run-run.ensures))

pub returns-then-is_specific_purpose-clause-least : goal.returns-then-is_specific_purpose-clause-least
returns-then-is_specific_purpose-clause-least g c =
    let special = ap (λ (d : Descriptor). is_specific_purpose d.attributes) (sym c.run-run.ensures) ∙ sym c.is_specific_purpose.ensures ∙ c.if-is_specific_purpose.true in
    none_permitted c.args.free.memory c.args.request.now c.args.free.entry c.requires.search.proper c.requires.search.good c.requires.search.entry special

pub offer_alone-requires-clause-behind : goal.offer_alone-requires-clause-behind
offer_alone-requires-clause-behind g c = λ k. true≢false (sym (c.goes_on.ensures.1 k) ∙ c.if-not-goes_on.true)

pub priced-requires-clause-entries : goal.priced-requires-clause-entries
priced-requires-clause-entries g c = omega (arith, few_in_map c.args.free.memory c.requires.search.proper, c.requires.search.entries)

pub priced-requires-clause-saving : goal.priced-requires-clause-saving
priced-requires-clause-saving g c = let offered = c.offer_alone.ensures in omega (arith, saves_at_most _ offered.0 c.offer_alone.result offered.2, c.requires.search.entries)

pub returns-then-request-eq1-clause-least : goal.returns-then-request-eq1-clause-least
returns-then-request-eq1-clause-least g c =
    let offered = c.offer_alone.ensures in
    subst (IsTrueLeast c.args.free.memory c.args.request.now c.args.free.entry) (sym (c.priced.ensures offered.0 (subst (λ n. IsOfferOf n offered.0 c.offer_alone.result) (sym c.requires.search.entries) offered.2))) offered.1
