use Rattle.std.proofs.Common.{◌≡◌, ◌==◌, ◌+◌, ◌∙◌, ap, append_assoc, drop, false}
use Rattle.guid_handles.proofs.SortedLists.{drop_next}
use Rattle.open_agents.specs.declared.items.OpenRecord.{OpenRecord}
use Rattle.open_agents.specs.Blocks.{items_in}
use Rattle.open_agents.proofs.Placed.{all_ahead, none_ahead}
use Rattle.open_agents.proofs.store.ItemStore.compacted.Goals.{in-Some+in_ok-append, in_default}
use Rattle.open_agents.proofs.store.ItemStore.compacted.Goals as goal

pub append-requires-clause-new : goal.append-requires-clause-new
append-requires-clause-new g c =
    let next = drop_next c.as_slice-slots.result.now c.loop-slot.slot-index c.slot-item.result c.loop-slot-test.true c.slot-item.is in
    let whole = rw (next, c.in-Some.is) at c.loop-slot.invariant in
    none_ahead (items_in c.loop-slot.fresh) c.in-Some.item (items_in (drop (c.loop-slot.slot-index + 1) c.as_slice-slots.result.now)) _ whole (rw c.as_slice-slots.ensures.value c.self.invariant.0.distinct)

pub append-requires-clause-agent : goal.append-requires-clause-agent
append-requires-clause-agent g c =
    let next = drop_next c.as_slice-slots.result.now c.loop-slot.slot-index c.slot-item.result c.loop-slot-test.true c.slot-item.is in
    let whole = rw (next, c.in-Some.is) at c.loop-slot.invariant in
    all_ahead (λ (o : OpenRecord). (o.agent == 0) ≡ false) (items_in c.loop-slot.fresh) c.in-Some.item (items_in (drop (c.loop-slot.slot-index + 1) c.as_slice-slots.result.now)) _ whole (rw c.as_slice-slots.ensures.value c.self.invariant.0.agents)

pub loop-slot-preserved : goal.loop-slot-preserved
loop-slot-preserved g c =
    let next = drop_next c.as_slice-slots.result.now c.loop-slot.slot-index c.slot-item.result c.loop-slot-test.true c.slot-item.is in
    elim c.match-slot.branch [
      | in-Some+in_ok-append w ↦ rw (ap items_in w.fresh-is ∙ w.in_ok-append.ensures.ok, append_assoc) (rw (next, w.in-Some.is) at c.loop-slot.invariant)
      | in_default w ↦ rw w.fresh-is (rw (next, w.in_default.is) at c.loop-slot.invariant)
    ]
