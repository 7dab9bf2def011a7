-- How faults are printed.
use Rattle.std.specs.Prelude.{ℕ, List, codes}
use Rattle.machine_files.specs.declared.faults.MemberField.{MemberField}
use Rattle.machine_files.specs.declared.faults.MemberField.TheVariants as field
use Rattle.machine_files.specs.declared.faults.DriverField.{DriverField}
use Rattle.machine_files.specs.declared.faults.DriverField.TheVariants as driver_field

-- the name of a field of a descriptor, which is its key in a machine file
abbrev pub field_name : MemberField → List ℕ
field_name field.Type = codes "type"
field_name field.Start = codes "start"
field_name field.Pages = codes "pages"
field_name field.Attributes = codes "attributes"

-- the name of a field of a driver, which is its key in a machine file
abbrev pub driver_field_name : DriverField → List ℕ
driver_field_name driver_field.Version = codes "version"
driver_field_name driver_field.Needs = codes "needs"
driver_field_name driver_field.Opens = codes "opens"
driver_field_name driver_field.Children = codes "children"
driver_field_name driver_field.Stops = codes "stops"
