use Rattle.std.proofs.Common.{◌+◌, ◌-◌, ◌∙◌, sym, subst, true≢false, arith}
use Rattle.page_ranges.specs.Runs.{pages_of}
use Rattle.placement_certificate.specs.Certificates.{IsTrueLeast}
use Rattle.placement_certificate.proofs.Places.{permitted_end}
use Rattle.plain_search.proofs.PlainSearch.{runs_by, all_tried}
use Rattle.placement_certificate.proofs.Tries.{first_pages, start_passed, start_tried}
use Rattle.plain_search.proofs.plain.least_in.Goals as goal
use Rattle.plain_search.proofs.plain.least_in.Goals.{then-is_permitted+in_ok-count, else-is_permitted}

pub plain_price-requires-clause-runs : goal.plain_price-requires-clause-runs
plain_price-requires-clause-runs g c = runs_by c.args.runs.now c.requires.runs c.requires.proper

pub plain_price-requires-clause-within : goal.plain_price-requires-clause-within
plain_price-requires-clause-within g c = permitted_end (pages_of c.args.runs.now) c.args.request.now c.loop-start.start c.requires.proper c.requires.good (c.is_permitted.ensures.0 c.if-is_permitted.true)

pub loop-start-preserved : goal.loop-start-preserved
loop-start-preserved g c =
    let m = pages_of c.args.runs.now in
    let r = c.args.request.now in
    let e = c.args.entry.now in
    let p = c.loop-start.start in
    elim c.if-is_permitted.branch [
      | then-is_permitted+in_ok-count w ↦
          subst (IsTrueLeast m r (first_pages (p + 1 - e.first) e)) (sym (w.found-is ∙ w.better_of-found.ensures))
          (start_tried m r e (p - e.first) (p + 1 - e.first) p w.in_ok-count.count c.loop-start.found (omega arith) (omega arith) (c.is_permitted.ensures.0 w.if-is_permitted.true) w.in_ok-count.ensures c.loop-start.invariant)
      | else-is_permitted w ↦
          subst (IsTrueLeast m r (first_pages (p + 1 - e.first) e)) (sym w.found-is)
          (start_passed m r e (p - e.first) (p + 1 - e.first) p c.loop-start.found (omega arith) (omega arith) (λ h. true≢false (sym (c.is_permitted.ensures.1 h) ∙ w.if-is_permitted.false)) c.loop-start.invariant)
    ]

pub returns : goal.returns
returns g c = all_tried (pages_of c.args.runs.now) c.args.request.now c.args.entry.now (c.loop-start.start - c.args.entry.now.first) c.loop-start.found (omega arith) c.loop-start.invariant
