use Rattle.std.proofs.Common.{eqb, filter, take}
use Rattle.std.specs.List.{AllZip}
use Rattle.page_ranges.specs.MemoryTypes.{conventional}
use Rattle.page_ranges.specs.Runs.{pages_of}
use Rattle.placement_certificate.specs.Certificates.{IsTrueBound}
use Rattle.placement_certificate.specs.Search.{IsBestOf}
use Rattle.plain_search.proofs.plain.plain_certificate.Given as goal

-- the bounds of the entries so far, and the best of them
abbrev pub invariant-loop-entry : goal.invariant-loop-entry
invariant-loop-entry g l = record {
  bounds : AllZip (IsTrueBound (pages_of l.runs) l.request) (filter (λ e. eqb e.mtype conventional) (take l.entry-index l.entry-items)) l.bounds.items;
  best : IsBestOf l.best l.bounds.items;
}
