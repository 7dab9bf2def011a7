use Rattle.std.proofs.Common.{map, drop}
use Rattle.c_machines.specs.DriverTables.{driver_in, fits, returned}
use Rattle.c_machines.proofs.Elements.{AreLeft}
use Rattle.c_machines.proofs.drivers.table_drivers.Given as goal

-- the tables from this place on are left
abbrev pub invariant-loop-driver : goal.invariant-loop-driver
invariant-loop-driver g l = AreLeft driver_in fits l.drivers (map returned l.tables.items) (drop l.driver-index l.drivers)
