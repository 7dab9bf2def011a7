use Rattle.std.proofs.Common.{◌≡◌, ◌*◌, ◌++◌, length, take, drop}
use Rattle.descriptor_table.specs.Leaves.{runs_in}
use Rattle.map_keys.specs.Making.{last_entry, whole_entries, IsAmongPages}
use Rattle.map_keys.specs.Records.{record_size, records}
use Rattle.map_keys.proofs.map_records.write_map.Given as goal

-- the entries that the runs of the leaves so far make
abbrev pub invariant-loop-leaf : goal.invariant-loop-leaf
invariant-loop-leaf g l = record {
  used : l.used ≡ record_size * length (whole_entries l.initial.entry (runs_in (take l.leaf-index l.leaves)));
  entry : l.entry ≡ last_entry l.initial.entry (runs_in (take l.leaf-index l.leaves));
  among : IsAmongPages l.entry;
  written : l.buffer ≡ records (whole_entries l.initial.entry (runs_in (take l.leaf-index l.leaves))) ++ drop l.used l.fn.buffer;
}
