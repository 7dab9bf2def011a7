use Rattle.std.proofs.Common.{◌*◌, ◌≤◌}
use Rattle.page_ranges.specs.Memory.{IsProperMemory}
use Rattle.page_ranges.specs.Runs.{pages_of}
use Rattle.plain_search.specs.RunsBy.{AreRunsBy}
use Rattle.plain_search.proofs.tests.promising.promising_machine.Given as goal

-- the machine so far
abbrev pub invariant-loop-number : goal.invariant-loop-number
invariant-loop-number l = record {
  end : l.end ≤ 67 * l.number;
  runs : AreRunsBy l.end l.runs.items;
  proper : IsProperMemory (pages_of l.runs.items);
}
