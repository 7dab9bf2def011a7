use Rattle.std.proofs.Common.{◌≡◌, ◌+◌, ◌≤◌, length, map, take, vec_len, vec_capacity}
use Rattle.boot_core.specs.Steps.{CallRun}
use Rattle.boot_core.proofs.core_state.Core.run.Given as goal

abbrev pub invariant-loop-call : goal.invariant-loop-call
invariant-loop-call g l = record {
  runs : CallRun (map g.D.Driver.meaning l.initial.self.given.drivers) l.initial.self.state (take l.call-index l.calls) l.replies.items l.self.state;
  given : l.self.given ≡ l.initial.self.given;
  left : l.self.state.calls_left + l.call-index ≡ l.initial.self.state.calls_left;
  count : vec_len l.replies ≡ l.call-index;
  room : length l.calls ≤ vec_capacity l.replies;
}
