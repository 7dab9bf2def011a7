use Rattle.std.proofs.Common.{◌≡◌, ◌≤◌, ◌+◌, drop}
use Rattle.pool_services.specs.Searches.{begun}
use Rattle.pool_services.proofs.searches.count_each.Given as goal

abbrev pub invariant-loop-at : goal.invariant-loop-at
invariant-loop-at l = record {
  counted : l.count + begun l.page (drop l.at l.rooms) ≡ begun l.page l.rooms;
  few : l.count ≤ l.at;
}
