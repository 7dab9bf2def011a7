use Rattle.std.proofs.Common.{add-one, ◌∙◌, sym, append_assoc}
use Rattle.driver_connect.proofs.Slots.{slot_next, no_slot}
use Rattle.driver_connect.proofs.protocols.Lists.protocols_on.Goals as goal
use Rattle.driver_connect.proofs.protocols.Lists.protocols_on.Goals.{in-Some+in_ok-push, in_default}

pub loop-at-preserved : goal.loop-at-preserved
loop-at-preserved g c =
    elim c.match-nth_interface.branch [
      | in-Some+in_ok-push w ↦
          let e = slot_next _ c.loop-at.at w.in-Some.interface (sym c.nth_interface.ensures ∙ w.in-Some.is) in
          rw (w.found-is, w.in_ok-push.ensures.items, w.protocol_view.ensures, add-one, append_assoc) (rw e at c.loop-at.invariant)
      | in_default w ↦
          let e = no_slot _ c.loop-at.at (sym c.nth_interface.ensures ∙ w.in_default.is) in
          rw (w.found-is, add-one, ← e) c.loop-at.invariant
    ]
