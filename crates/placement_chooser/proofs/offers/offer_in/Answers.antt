use Rattle.std.proofs.Common.{true≢false, ◌∙◌, inl, inr, None, refl, sym, ap, arith}
use Rattle.page_ranges.specs.declared.ranges.Descriptor.{Descriptor}
use Rattle.page_ranges.specs.MemoryTypes.{is_specific_purpose}
use Rattle.placement_certificate.proofs.Places.{none_permitted}
use Rattle.placement_chooser.proofs.Gains.{not_filled, too_small}
use Rattle.placement_chooser.proofs.offers.offer_in.Goals as goal

pub returns-then-run-request-clause-offer : goal.returns-then-run-request-clause-offer
returns-then-run-request-clause-offer g c = inr (refl, too_small c.args.free.memory c.args.wanted.now c.args.free.entry (λ k. true≢false (sym (c.goes_on.ensures.1 k) ∙ c.if-goes_on.false)) (omega (arith, c.if-run-request.true, c.requires.wanted.pages, ap (λ (d : Descriptor). d.pages) c.run-run.ensures)))

pub returns-then-run-request-2-clause-offer : goal.returns-then-run-request-2-clause-offer
returns-then-run-request-2-clause-offer g c =
    let pages = ap (λ (d : Descriptor). d.pages) c.run-run.ensures in
    inr (refl, not_filled c.args.free.memory c.args.wanted.now c.args.free.entry (λ k. true≢false (sym (c.goes_on.ensures.1 k) ∙ c.if-goes_on.false)) (λ e. c.if-run-request-2.true (pages ∙ sym e ∙ c.requires.wanted.pages)) c.if-wanted-gt1.true)

pub returns-then-is_specific_purpose-clause-offer : goal.returns-then-is_specific_purpose-clause-offer
returns-then-is_specific_purpose-clause-offer g c =
    let special = ap (λ (d : Descriptor). is_specific_purpose d.attributes) (sym c.run-run.ensures) ∙ sym c.is_specific_purpose.ensures ∙ c.if-is_specific_purpose.true in
    inl (None, none_permitted c.args.free.memory c.args.request.now c.args.free.entry c.requires.search.proper c.requires.search.good c.requires.search.entry special, refl)

pub offer_alone-requires-clause-behind : goal.offer_alone-requires-clause-behind
offer_alone-requires-clause-behind g c = λ k. true≢false (sym (c.goes_on.ensures.1 k) ∙ c.if-goes_on.false)
