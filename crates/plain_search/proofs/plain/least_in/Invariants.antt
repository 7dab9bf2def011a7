use Rattle.std.proofs.Common.{◌-◌}
use Rattle.page_ranges.specs.Runs.{pages_of}
use Rattle.placement_certificate.specs.Certificates.{IsTrueLeast}
use Rattle.placement_certificate.proofs.Tries.{first_pages}
use Rattle.plain_search.proofs.plain.least_in.Given as goal

-- the best of the starts so far
abbrev pub invariant-loop-start : goal.invariant-loop-start
invariant-loop-start g l = IsTrueLeast (pages_of l.runs) l.request (first_pages (l.start - l.entry.first) l.entry) l.found
