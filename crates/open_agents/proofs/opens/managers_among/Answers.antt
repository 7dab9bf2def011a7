use Rattle.std.proofs.Common.{append_assoc, append-nil, sym, ◌∙◌}
use Rattle.std.proofs.lemmas.List.{drop_all}
use Rattle.guid_handles.proofs.SortedLists.{drop_next}
use Rattle.open_agents.proofs.ListedItems.{not_empty}
use Rattle.open_agents.proofs.opens.managers_among.Goals.{in-Some+then-manages+in_ok-push, in-Some+else-manages, in_default}
use Rattle.open_agents.proofs.opens.managers_among.Goals as goal

pub loop-slot-preserved : goal.loop-slot-preserved
loop-slot-preserved g c =
    let next = drop_next c.args.slots.now c.loop-slot.slot-index c.slot-item.result c.loop-slot-test.true c.slot-item.is in
    elim c.match-slot.branch [
      | in-Some+then-manages+in_ok-push w ↦ rw (w.found-is, w.in_ok-push.ensures.items, w.manager.ensures, append_assoc) (rw (next, w.in-Some.is, sym w.manages.ensures ∙ w.if-manages.true) at c.loop-slot.invariant)
      | in-Some+else-manages w ↦ rw w.found-is (rw (next, w.in-Some.is, sym w.manages.ensures ∙ w.if-manages.false) at c.loop-slot.invariant)
      | in_default w ↦ rw w.found-is (rw (next, w.in_default.is) at c.loop-slot.invariant)
    ]

pub returns-in_err-push-clause-none : goal.returns-in_err-push-clause-none
returns-in_err-push-clause-none g c = λ e.
    let next = drop_next c.args.slots.now c.loop-slot.slot-index c.slot-item.result c.loop-slot-test.true c.slot-item.is in
    let held = rw (next, c.in-Some.is, sym c.manages.ensures ∙ c.if-manages.true) at c.loop-slot.invariant in absurd (not_empty c.loop-slot.found.items _ _ (held ∙ e))

pub returns-clause-pairs : goal.returns-clause-pairs
returns-clause-pairs g c = sym (append-nil c.loop-slot.found.items) ∙ (rw (drop_all c.loop-slot.slot-index c.args.slots.now c.loop-slot-test.false) at c.loop-slot.invariant)
