use Rattle.std.proofs.Common.{◌≡◌, ◌-◌}
use Rattle.placement_certificate.specs.Search.{AreStartsIn}
use Rattle.placement_certificate.proofs.BlockStarts.{HasTried}
use Rattle.placement_certificate.proofs.starts.EntryStarts.least.Given as goal

-- the places below the start are tried
abbrev pub invariant-loop-start : goal.invariant-loop-start
invariant-loop-start g l = record {
  stays : g.C.PageCursor.memory l.cursor ≡ g.C.PageCursor.memory l.fn.cursor;
  tried : (starts : AreStartsIn (g.C.PageCursor.memory l.fn.cursor) l.self) → HasTried (g.C.PageCursor.memory l.fn.cursor) l.self starts l.block l.found l.start;
}

abbrev pub decreases-loop-start : goal.decreases-loop-start
decreases-loop-start g l = l.self.end_by - l.start
