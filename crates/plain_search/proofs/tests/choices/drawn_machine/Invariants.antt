use Rattle.std.proofs.Common.{◌*◌, ◌≤◌}
use Rattle.page_ranges.specs.Memory.{IsProperMemory}
use Rattle.page_ranges.specs.Runs.{pages_of}
use Rattle.plain_search.specs.RunsBy.{AreRunsBy}
use Rattle.plain_search.proofs.tests.choices.drawn_machine.Given as goal

-- the machine so far
abbrev pub invariant-loop-turn : goal.invariant-loop-turn
invariant-loop-turn l = record {
  end : l.end ≤ 76 * l._turn;
  runs : AreRunsBy l.end l.runs.items;
  proper : IsProperMemory (pages_of l.runs.items);
}
