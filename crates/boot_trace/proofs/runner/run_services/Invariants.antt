use Rattle.std.proofs.Common.{◌≡◌, map}
use Rattle.std.specs.Io.Buffered.{reader_remaining}
use Rattle.boot_trace.proofs.Traces.{AtLineIf}
use Rattle.boot_trace.proofs.runner.run_services.Given as goal

abbrev pub invariant-loop-done : goal.invariant-loop-done
invariant-loop-done g l = record {
  line : AtLineIf g.row.A.Denot (map g.D.Driver.meaning l.initial.services.given.drivers) l.certify (g.R.Read.remaining l.fn.reader) l.initial.services.state (g.W.Write.contents l.initial.writer) l.done l.services.state (g.W.Write.contents l.writer) (reader_remaining g.R.Read.remaining l.reader);
  given : l.services.given ≡ l.initial.services.given;
}
