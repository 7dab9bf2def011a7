use Rattle.std.proofs.Common.{◌≡◌, ℕ, ◌+◌, ◌-◌, ◌<◌, ◌≤◌}
use Rattle.page_ranges.specs.MemoryTypes.{page_count}
use Rattle.page_ranges.specs.Memory.{page_at}
use Rattle.placement_certificate.specs.Placement.{IsAvailable}
use Rattle.placement_certificate.proofs.search.stretch_end.Given as goal

-- the pages so far are available
abbrev pub invariant-loop-block : goal.invariant-loop-block
invariant-loop-block g l = record {
  stays : g.C.PageCursor.memory l.cursor ≡ g.C.PageCursor.memory l.fn.cursor;
  within : l.entry.first + l.entry.pages ≤ l.end;
  free : (k : ℕ) → l.entry.first ≤ k → k < l.end → IsAvailable (page_at (g.C.PageCursor.memory l.fn.cursor) k);
}

abbrev pub decreases-loop-block : goal.decreases-loop-block
decreases-loop-block g l = page_count - l.end
