use Rattle.std.proofs.Common.{◌≡◌, ◌∙◌, eqb, true, false, refl, subst, arith}
use Rattle.std.proofs.lemmas.Bool.{eq-eqb, ne_eqb}
use Rattle.page_ranges.specs.MemoryTypes.{conventional}
use Rattle.page_ranges.specs.Runs.{pages_of}
use Rattle.placement_certificate.specs.declared.certificates.Bound.{Bound}
use Rattle.placement_certificate.specs.Certificates.{IsTrueBound}
use Rattle.placement_certificate.specs.Search.{IsBestOf}
use Rattle.placement_certificate.proofs.BestBounds.{no_bound}
use Rattle.placement_certificate.proofs.Decided.{best_is}
use Rattle.plain_search.proofs.PlainSearch.{runs_by, entry_within, entry_passed, entry_bounded, all_bounded}
use Rattle.placement_certificate.proofs.Tries.{bound_more}
use Rattle.plain_search.proofs.plain.plain_certificate.Goals as goal
use Rattle.plain_search.proofs.plain.plain_certificate.Goals.{then-number-eq7+in_ok-least+in_ok-push, else-number-eq7}

pub plain_map-requires : goal.plain_map-requires
plain_map-requires g c = runs_by c.args.runs.now c.requires.runs c.requires.proper

pub loop-entry-init : goal.loop-entry-init
loop-entry-init g c = rw c.new-bounds.ensures.items (record { bounds = tt; best = tt })

pub least_in-requires-clause-within : goal.least_in-requires-clause-within
least_in-requires-clause-within g c =
    entry_within (pages_of c.args.runs.now) c.deref-entry-items.result.now c.loop-entry.entry-index c.entry-item.result c.requires.proper (c.deref-entry-items.ensures.value ∙ c.in_ok-entries.ensures) (omega arith) c.entry-item.is

pub loop-entry-preserved : goal.loop-entry-preserved
loop-entry-preserved g c =
    let m = pages_of c.args.runs.now in
    let R = IsTrueBound m c.args.request.now in
    let es = c.deref-entry-items.result.now in
    let i = c.loop-entry.entry-index in
    let e = c.entry-item.result in
    let bs = c.loop-entry.bounds.items in
    elim c.if-number-eq7.branch [
      | then-number-eq7+in_ok-least+in_ok-push w ↦
          let b : Bound = record { first = e.first; pages = e.pages; least = w.in_ok-least.least } in
          let free : eqb e.mtype conventional ≡ true = eq-eqb e.mtype conventional (omega (arith, c.number.ensures, w.if-number-eq7.true)) in
          rw (w.bounds-is, w.best-is, w.in_ok-push.ensures.items, w.better_of-best.ensures) (record {
            bounds = entry_bounded R es i e bs b (omega arith) c.entry-item.is free c.loop-entry.invariant.bounds (record { first = refl; pages = refl; least = w.in_ok-least.ensures });
            best = bound_more c.loop-entry.best w.in_ok-least.least bs b refl c.loop-entry.invariant.best;
          })
      | else-number-eq7 w ↦
          let other : eqb e.mtype conventional ≡ false = ne_eqb e.mtype conventional (λ f. omega (arith, c.number.ensures, w.if-number-eq7.false, f)) in
          rw (w.bounds-is, w.best-is) (record {
            bounds = entry_passed R es i e bs (omega arith) c.entry-item.is other c.loop-entry.invariant.bounds;
            best = c.loop-entry.invariant.best;
          })
    ]

pub returns-in-Some-clause-certificate : goal.returns-in-Some-clause-certificate
returns-in-Some-clause-certificate g c =
    let m = pages_of c.args.runs.now in
    let r = c.args.request.now in
    let bs = c.loop-entry.bounds.items in
    let bounds = all_bounded m (IsTrueBound m r) c.deref-entry-items.result.now c.loop-entry.entry-index bs (omega arith) (c.deref-entry-items.ensures.value ∙ c.in_ok-entries.ensures) c.loop-entry.invariant.bounds in
    record { bounds = bounds; answer = best_is m r bs c.requires.proper c.requires.good bounds c.in-Some.field-0-0 c.in-Some.answer (subst (λ x. IsBestOf x bs) c.in-Some.is c.loop-entry.invariant.best) }

pub returns-clause-none : goal.returns-clause-none
returns-clause-none g c =
    let m = pages_of c.args.runs.now in
    let r = c.args.request.now in
    let bs = c.loop-entry.bounds.items in
    let bounds = all_bounded m (IsTrueBound m r) c.deref-entry-items.result.now c.loop-entry.entry-index bs (omega arith) (c.deref-entry-items.ensures.value ∙ c.in_ok-entries.ensures) c.loop-entry.invariant.bounds in
    λ h. no_bound m r bs c.requires.proper c.requires.good bounds (subst (λ x. IsBestOf x bs) c.in-None.is c.loop-entry.invariant.best)
