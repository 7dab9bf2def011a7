use Rattle.page_ranges.proofs.Maps.{map_of_memory_of}
use Rattle.placement_certificate.proofs.cursors.MapCursorPageCursor.block_at.Goals as goal

pub returns-clause-entry : goal.returns-clause-entry
returns-clause-entry c = rw (← c.self.view_is) (rw (map_of_memory_of c.self.inside.map.now c.self.invariant.0) c.entry_from.ensures.member)
