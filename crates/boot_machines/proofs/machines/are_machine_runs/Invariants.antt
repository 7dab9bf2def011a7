use Rattle.std.proofs.Common.{◌≡◌, ◌⊎◌, ℕ, ◌+◌, ◌<◌, take, get_or}
use Rattle.std.specs.List.{AllByRecursion}
use Rattle.page_ranges.specs.declared.ranges.Run.{Run}
use Rattle.page_ranges.specs.Runs.{AreRuns}
use Rattle.page_ranges.proofs.RunLists.{EndBy}
use Rattle.boot_machines.specs.MachineRuns.{IsMachineRun}
use Rattle.boot_machines.proofs.machines.are_machine_runs.Given as goal

abbrev pub invariant-loop-run : goal.invariant-loop-run
invariant-loop-run l = record {
  runs : AreRuns (take l.run-index l.runs);
  ends : EndBy l.end (take l.run-index l.runs);
  each : AllByRecursion IsMachineRun (take l.run-index l.runs);
  last : (l.end ≡ 0) ⊎ ((j : ℕ) × (j < l.run-index) × ((d : Run) → l.end ≡ (get_or l.runs j d).range.first + (get_or l.runs j d).range.pages));
}
