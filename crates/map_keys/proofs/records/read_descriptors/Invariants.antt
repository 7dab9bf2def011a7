use Rattle.std.proofs.Common.{◌≡◌, ◌++◌}
use Rattle.std.specs.List.{AllByRecursion}
use Rattle.std.specs.Slice.Iter.{chunks_exact_size, chunks_exact_rest}
use Rattle.map_keys.specs.Records.{record_size, records, IsRecordEntry}
use Rattle.map_keys.proofs.records.read_descriptors.Given as goal

abbrev pub invariant-loop-record : goal.invariant-loop-record
invariant-loop-record g l = record {
  size : chunks_exact_size l.record-iterator ≡ record_size;
  each : AllByRecursion IsRecordEntry l.entries.items;
  read : records l.entries.items ++ chunks_exact_rest l.record-iterator ≡ l.bytes;
}
