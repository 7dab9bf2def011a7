use Rattle.std.proofs.Common.{length, ◌-◌, ◌≡◌, ◌≤◌, drop, option_map}
use Rattle.device_path_locate.specs.DevicePaths.{path_in, span_of}
use Rattle.device_path_locate.proofs.SpanSteps.{span_after}
use Rattle.device_path_locate.proofs.spans.read_path.Given as goal

abbrev pub invariant-loop-whole : goal.invariant-loop-whole
invariant-loop-whole l = record {
  within : l.whole ≤ length l.bytes;
  read : option_map span_of (path_in l.bytes) ≡ option_map (span_after l.whole l.first_instance) (path_in (drop l.whole l.bytes));
}

abbrev pub decreases-loop-whole : goal.decreases-loop-whole
decreases-loop-whole l = length l.bytes - l.whole
