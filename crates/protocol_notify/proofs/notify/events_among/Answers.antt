use Rattle.std.proofs.Common.{sym, ◌∙◌}
use Rattle.protocol_notify.specs.Registrations.{is_for}
use Rattle.protocol_notify.proofs.Loops.{listed_more, listed_same}
use Rattle.protocol_notify.proofs.notify.events_among.Goals as goal
use Rattle.protocol_notify.proofs.notify.events_among.Goals.{then-is_for+in_ok-push, else-is_for}

pub loop-r-preserved : goal.loop-r-preserved
loop-r-preserved g c = elim c.if-is_for.branch [
  | then-is_for+in_ok-push w ↦
      rw (w.events-is, w.in_ok-push.ensures.items)
      (listed_more (λ r. r.event) (is_for c.args.guid) _ c.args.registrations.now c.loop-r.r-index c.r-item.result _ c.loop-r-test.true c.r-item.is (sym c.is_for.ensures ∙ w.if-is_for.true) c.loop-r.invariant)
  | else-is_for w ↦
      rw w.events-is
      (listed_same (λ r. r.event) (is_for c.args.guid) _ c.args.registrations.now c.loop-r.r-index c.r-item.result _ c.loop-r-test.true c.r-item.is (sym c.is_for.ensures ∙ w.if-is_for.false) c.loop-r.invariant)
]
