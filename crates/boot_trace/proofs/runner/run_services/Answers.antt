use Rattle.std.proofs.Common.{refl, ◌∙◌, arith}
use Rattle.std.specs.Io.Buffered.{reader_remaining}
use Rattle.boot_trace.proofs.Traces.{start_if, ended_if, read_failed_if, memory_failed_if, stopped_if, write_failed_if, next_if, no_more_if, too_many_if, fresh}
use Rattle.boot_trace.proofs.runner.run_services.Goals as goal

pub loop-done-init : goal.loop-done-init
loop-done-init g c = record { line = start_if _ _ _ _ _ _ _ (fresh g.R.Read.remaining c.in-Ok.reader c.args.reader c.in-Ok.ensures.inner c.in-Ok.ensures.empty c.in-Ok.ensures.capacity); given = refl }

pub returns-in-Ok-false-clause-ends : goal.returns-in-Ok-false-clause-ends
returns-in-Ok-false-clause-ends g c = ended_if _ _ _ _ _ _ _ _ _ _ c.next_line.new.line.items (reader_remaining g.R.Read.remaining c.next_line.new.reader) c.loop-done.invariant.line (omega arith) (rw c.in-Ok-false.field-0-test at c.in-Ok-false.ensures)

pub returns-in-Err-Read-clause-ends : goal.returns-in-Err-Read-clause-ends
returns-in-Err-Read-clause-ends g c = read_failed_if _ _ _ _ _ _ _ _ _ _ c.loop-done.invariant.line (omega arith)

pub returns-in-Err-OutOfMemory-clause-ends : goal.returns-in-Err-OutOfMemory-clause-ends
returns-in-Err-OutOfMemory-clause-ends g c = memory_failed_if _ _ _ _ _ _ _ _ _ _ c.loop-done.invariant.line (omega arith)

pub returns-in-Err-clause-ends : goal.returns-in-Err-clause-ends
returns-in-Err-clause-ends g c =
    stopped_if _ _ _ _ _ _ _ _ _ _ c.in-Err.fault _ c.next_line.new.line.items _ c.loop-done.invariant.line (omega arith)
    (rw c.in-Ok-true.field-0-test at c.in-Ok-true.ensures)
    (rw (c.loop-done.invariant.given, c.as_slice.ensures.value) at c.in-Err.ensures.err)

pub returns-in-Err-write_text-clause-ends : goal.returns-in-Err-write_text-clause-ends
returns-in-Err-write_text-clause-ends g c =
    write_failed_if _ _ _ _ _ _ _ _ _ _ _ _ c.next_line.new.line.items _ _ c.loop-done.invariant.line (omega arith)
    (rw c.in-Ok-true.field-0-test at c.in-Ok-true.ensures)
    (rw (c.loop-done.invariant.given, c.as_slice.ensures.value) at c.in-Ok-run_line.ensures.ok)
    (rw c.as_bytes.ensures.value at c.in-Err-write_text.ensures.err)

pub loop-done-preserved : goal.loop-done-preserved
loop-done-preserved g c = record {
  line = next_if _ _ _ _ _ _ _ _ _ _ _ _ c.next_line.new.line.items _ _ c.loop-done.invariant.line
      (rw c.in-Ok-true.field-0-test at c.in-Ok-true.ensures)
      (rw (c.loop-done.invariant.given, c.as_slice.ensures.value) at c.in-Ok-run_line.ensures.ok)
      (rw c.as_bytes.ensures.value at c.in-Ok-write_text.ensures.ok);
  given = c.run_line.ensures.given ∙ c.loop-done.invariant.given;
}

pub returns-in-Ok-None-clause-ends : goal.returns-in-Ok-None-clause-ends
returns-in-Ok-None-clause-ends g c = no_more_if _ _ _ _ _ _ _ _ _ _ _ c.loop-done.invariant.line (omega arith) (rw c.in-Ok-None.field-0-is at c.in-Ok-None.ensures)

pub returns-in-Ok-Some-clause-ends : goal.returns-in-Ok-Some-clause-ends
returns-in-Ok-Some-clause-ends g c = too_many_if _ _ _ _ _ _ _ _ _ _ _ c.in-Ok-Some.field-0-0 c.loop-done.invariant.line (omega arith) (rw c.in-Ok-Some.field-0-is at c.in-Ok-Some.ensures)

pub returns-clause-ends : goal.returns-clause-ends
returns-clause-ends g c = read_failed_if _ _ _ _ _ _ _ _ _ _ c.loop-done.invariant.line (omega arith)
