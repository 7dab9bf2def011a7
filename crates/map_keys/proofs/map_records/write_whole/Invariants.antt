use Rattle.std.proofs.Common.{◌≡◌, ◌+◌, ◌*◌, ◌++◌, length, take, drop}
use Rattle.map_keys.specs.Making.{last_entry, whole_entries, IsAmongPages}
use Rattle.map_keys.specs.Records.{record_size, records}
use Rattle.map_keys.proofs.map_records.write_whole.Given as goal

-- the entries that the runs so far make
abbrev pub invariant-loop-run : goal.invariant-loop-run
invariant-loop-run l = record {
  used : l.used ≡ l.place + record_size * length (whole_entries l.fn.begun (take l.run-index l.runs));
  entry : l.entry ≡ last_entry l.fn.begun (take l.run-index l.runs);
  among : IsAmongPages l.entry;
  written : l.buffer ≡ take l.place l.fn.buffer ++ records (whole_entries l.fn.begun (take l.run-index l.runs)) ++ drop l.used l.fn.buffer;
}
