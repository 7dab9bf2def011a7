use Rattle.page_ranges.specs.Memory.{IsProperMemory}
use Rattle.page_ranges.specs.Runs.{pages_of}
use Rattle.plain_search.specs.RunsBy.{AreRunsBy}
use Rattle.plain_search.proofs.tests.choices.machine_of.Given as goal

-- the machine so far
abbrev pub invariant-loop-first : goal.invariant-loop-first
invariant-loop-first l = record {
  runs : AreRunsBy l.end l.runs.items;
  proper : IsProperMemory (pages_of l.runs.items);
}
