use Rattle.std.proofs.Common.{◌≡◌}
use Rattle.std.specs.Slice.Iter.{chunks_exact_size, chunks_exact_rest}
use Rattle.c_machines.specs.MachineRecords.{is_aligned, records_in, run_in}
use Rattle.c_machines.proofs.Elements.{AreLeft}
use Rattle.c_machines.proofs.machines.runs_of.Given as goal

-- the records in the bytes that are left
abbrev pub invariant-loop-record : goal.invariant-loop-record
invariant-loop-record g l = record {
  size : chunks_exact_size l.record-iterator ≡ l.size;
  left : AreLeft run_in is_aligned (records_in l.size l.records) l.runs.items (records_in l.size (chunks_exact_rest l.record-iterator));
}
