use Rattle.std.proofs.Common.{◌≡◌, ◌∙◌, eqb, true, false, true≢false, length, refl, sym, ap, subst, rules, arith, Some}
use Rattle.std.specs.Prelude.{slice_get}
use Rattle.std.proofs.lemmas.Bool.{eqb-true, eq-eqb, ne_eqb}
use Rattle.std.proofs.lemmas.Option.{slice_get_within}
use Rattle.page_ranges.specs.MemoryTypes.{conventional}
use Rattle.page_ranges.specs.MemoryMap.{memory_of}
use Rattle.page_ranges.proofs.Maps.{memory_of-proper, map_of_memory_of}
use Rattle.placement_certificate.specs.declared.certificates.Bound.{Bound}
use Rattle.placement_certificate.specs.Certificates.{IsTrueBound}
use Rattle.placement_certificate.proofs.CheckedBounds.{of_map, left_passed, left_checked, left_wrong, left_none}
use Rattle.placement_certificate.proofs.MapLists.{in_map}
use Rattle.placement_certificate.proofs.OneCertificate.{same_bound}
use Rattle.placement_certificate.proofs.checking.are_true_bounds.Goals as goal
use Rattle.placement_certificate.proofs.checking.are_true_bounds.Goals.{then-eq+else-not-is_at, else-eq}

pub least_in-requires : goal.least_in-requires
least_in-requires c =
    let ds = c.args.map.now in
    let e = c.entry-item.result in
    rw c.loop-entry.invariant.stays (record {
      proper = memory_of-proper ds c.requires.map;
      good = c.requires.good;
      entries = sym (ap length (map_of_memory_of ds c.requires.map));
      entry = in_map ds e c.requires.map (c.loop-entry.entry-index, c.loop-entry-test.true, sym c.entry-item.is);
      free = search rules;
    })

pub returns-then-not-is_at : goal.returns-then-not-is_at
returns-then-not-is_at c =
    let ds = c.args.map.now in
    let m = memory_of ds in
    let r = c.args.request.now in
    let bs = c.args.bounds.now in
    let e = c.entry-item.result in
    let least = rw c.loop-entry.invariant.stays at c.least_in.ensures.least in
    let b : Bound = record { first = e.first; pages = e.pages; least = c.least_in.result } in
    let holds : IsTrueBound m r e b = record { first = refl; pages = refl; least = least } in
    let free : eqb e.mtype conventional ≡ true = eq-eqb e.mtype conventional (search rules) in (
      λ t. absurd (true≢false (sym t)),
      λ z. absurd (
          left_wrong (IsTrueBound m r) ds bs c.loop-entry.entry-index c.loop-entry.count e c.loop-entry-test.true c.entry-item.is free
          (λ d at is. true≢false (sym (c.is_at.ensures.1 (subst (λ x. slice_get bs c.loop-entry.count ≡ Some x) (same_bound m r e d b is holds) at)) ∙ c.if-not-is_at.true))
          c.loop-entry.invariant.left ((of_map (IsTrueBound m r) ds bs c.requires.map).1 z)
          ),
    )

pub loop-entry-preserved : goal.loop-entry-preserved
loop-entry-preserved c =
    let ds = c.args.map.now in
    let m = memory_of ds in
    let r = c.args.request.now in
    let bs = c.args.bounds.now in
    let i = c.loop-entry.entry-index in
    let n = c.loop-entry.count in
    let e = c.entry-item.result in
    elim c.if-eq.branch [
      | then-eq+else-not-is_at w ↦
          let least = rw c.loop-entry.invariant.stays at w.least_in.ensures.least in
          let b : Bound = record { first = e.first; pages = e.pages; least = w.least_in.result } in
          let holds : IsTrueBound m r e b = record { first = refl; pages = refl; least = least } in
          let free : eqb e.mtype conventional ≡ true = eq-eqb e.mtype conventional (search rules) in
          let at : slice_get bs n ≡ Some b = w.is_at.ensures.0 w.if-not-is_at.false in
          rw (w.count-is, w.search-is) (record {
            left = left_checked (IsTrueBound m r) ds bs i n e b c.loop-entry-test.true c.entry-item.is free at holds c.loop-entry.invariant.left;
            within = omega (arith, slice_get_within bs n b at);
            stays = w.least_in.ensures.stays ∙ c.loop-entry.invariant.stays;
          })
      | else-eq w ↦
          let other : eqb e.mtype conventional ≡ false = ne_eqb e.mtype conventional (search rules) in
          rw (w.count-is, w.search-is) (record {
            left = left_passed (IsTrueBound m r) ds bs i n e c.loop-entry-test.true c.entry-item.is other c.loop-entry.invariant.left;
            within = c.loop-entry.invariant.within;
            stays = c.loop-entry.invariant.stays;
          })
    ]

pub returns : goal.returns
returns c =
    let ds = c.args.map.now in
    let R = IsTrueBound (memory_of ds) c.args.request.now in
    let bs = c.args.bounds.now in
    let none = left_none R ds bs c.loop-entry.entry-index c.loop-entry.count (omega arith) c.loop-entry.invariant.within c.loop-entry.invariant.left in
    let all = of_map R ds bs c.requires.map in
    (λ t. all.0 (none.0 (eqb-true _ _ t)), λ z. eq-eqb _ _ (none.1 (all.1 z)))
