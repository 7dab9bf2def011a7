use Rattle.std.proofs.Common.{◌≡◌, [], Some, ap, ◌∙◌}
use Rattle.slab.specs.Slab.{Slab}
use Rattle.guid_handles.specs.Indexes.{Row, rows_at}
use Rattle.guid_handles.proofs.PlacedRows.{rows_push, rows_pushed}
use Rattle.guid_handles.proofs.rows.Rows.push.Goals as goal

pub invariant_of-self-2 : goal.invariant_of-self-2
invariant_of-self-2 g c =
    let row : Row = record { live = c.args.live; keys = [] } in
    let same : c.make_slot.new.slab.slots ≡ c.self.inside.rows.slots = ap (λ (s : Slab Row). s.slots) c.make_slot.ensures.rest_kept in
    let there = c.insert_reserved-place.ensures.updates.changed ∙ ap (λ (r : Row). Some r) c.in_ok-row.ensures in
    rw (c.push_reserved-2.ensures.items, c.make_room.ensures.items, c.push_reserved.ensures.items, c.make_room-2.ensures.items)
    (rows_push c.self.inside.rows.slots c.insert_reserved-place.new.self.slots _ _ _ row _ _ c.self.invariant (rw same at c.insert_reserved-place.ensures.was_vacant) there (rw same at c.insert_reserved-place.ensures.updates.others)
    (rw (← c.self.view_is) at c.requires) c.in_ok-note_made.ensures.ok)

pub returns-clause-ok : goal.returns-clause-ok
returns-clause-ok g c =
    let row : Row = record { live = c.args.live; keys = [] } in
    let same : c.make_slot.new.slab.slots ≡ c.self.inside.rows.slots = ap (λ (s : Slab Row). s.slots) c.make_slot.ensures.rest_kept in
    let there = c.insert_reserved-place.ensures.updates.changed ∙ ap (λ (r : Row). Some r) c.in_ok-row.ensures in
    let places = rw c.make_room-2.ensures.items at c.push_reserved.ensures.items in
    rw (← c.self.view_is)
    (ap (rows_at c.insert_reserved-place.new.self.slots) places
    ∙ rows_pushed c.self.inside.rows.slots c.insert_reserved-place.new.self.slots _ _ _ row c.self.invariant.rows (rw same at c.insert_reserved-place.ensures.was_vacant) there (rw same at c.insert_reserved-place.ensures.updates.others))
