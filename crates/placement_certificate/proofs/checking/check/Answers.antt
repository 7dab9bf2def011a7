use Rattle.placement_certificate.proofs.CheckedBounds.{accepted_by_best}
use Rattle.placement_certificate.proofs.checking.check.Goals as goal

pub returns-then-are_true_bounds : goal.returns-then-are_true_bounds
returns-then-are_true_bounds g c =
    let map = c.is_map.ensures.0 c.if-not-is_map.false in
    let good = c.is_proper.ensures.0 c.if-not-is_proper.false in
    let bounds = rw c.as_slice-bounds.ensures.value at c.are_true_bounds.ensures.0 c.if-are_true_bounds.true in
    let best = rw c.as_slice-bounds.ensures.value at c.is_best.ensures in
    rw (← c.certificate.view_is) (accepted_by_best c.args.map.now c.args.request.now c.certificate.inside.bounds.items c.certificate.inside.answer c.is_best.result map good bounds best)
