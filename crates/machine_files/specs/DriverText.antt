-- What the driver list of a machine file means.
use Rattle.std.specs.Prelude.{ℕ, ◌^◌, nat_lt, Bool, List, [], codes, Option, Some, None, option_and_then, Result, Ok, Err, if◌then◌else◌}
use Rattle.std.specs.List.{list_all}
use Rattle.std.specs.Option.{option_map}
use Rattle.serde_json.specs.Data.{Data, Items, no_items, item}
use Rattle.serde_json.specs.Find.{get, as_array, as_bool, as_str}
use Rattle.uuid.specs.Text.{parsed}
use Rattle.boot_machines.specs.Machines.{most_drivers}
use Rattle.driver_connect.specs.declared.table.TableDriver.{TableDriver}
use Rattle.driver_connect.specs.Drivers.{Meaning, is_free}
use Rattle.machine_files.specs.declared.faults.MachineFault.{MachineFault}
use Rattle.machine_files.specs.declared.faults.MachineFault.TheVariants as fault
use Rattle.machine_files.specs.declared.faults.DriverField.{DriverField}
use Rattle.machine_files.specs.declared.faults.DriverField.TheVariants as field
use Rattle.machine_files.specs.FaultText.{driver_field_name}
use Rattle.machine_files.specs.Fields.{if_passes, number_at, item_count, each_from, each_up_to}
use Rattle.text_lines.specs.FirstFault.{◌>>=◌, or_fault}
use Rattle.text_lines.specs.Numbers.{hexadecimal_of}

-- a driver as a machine file lists it
pub record ListedDriver : Type 0 where
  pub version : ℕ
  pub needs : List (List ℕ)
  pub opens : List (List ℕ)
  pub children : List (List (List ℕ × ℕ))
  pub stops : Bool

-- how a file lists a driver
abbrev pub listed : TableDriver → ListedDriver
listed d =
    record {
      version = d.version;
      needs = d.needs.items;
      opens = d.plan.opens;
      children = d.plan.children;
      stops = d.stops;
    }

-- What a listed driver does: it supports a controller that carries each GUID that it needs, none of
-- them held, and its plan and whether it may be stopped are always the same.
abbrev pub listed_meaning : ListedDriver → Meaning
listed_meaning d =
    record {
      version = d.version;
      supports = λ s. list_all (is_free s.protocols) d.needs;
      plan = λ s. record { opens = d.opens; children = d.children };
      may_stop = λ s. d.stops;
    }

-- ---- a member of the driver list

-- a number of 32 bits
abbrev pub version_of : Data → Option ℕ
version_of d =
    option_and_then (if_passes (λ version. nat_lt version (2 ^ 32)))
    (number_at (driver_field_name field.Version) d)

-- the GUID that a text is
unfoldable pub guid_of : Data → Option (List ℕ)
guid_of d = option_and_then parsed (as_str d)

-- the GUIDs of a list of at most 8 texts
abbrev pub guids_of : Data → Option (List (List ℕ))
guids_of = each_up_to 8 guid_of

-- the pair of two members: a GUID's text, and the text of a number of `0x` and digits
abbrev pub pair_in : Items → Option (List ℕ × ℕ)
pair_in (item guid (item value no_items)) =
    option_and_then
    (λ g. option_map (λ v. (g, v)) (option_and_then hexadecimal_of (as_str value))) (guid_of guid)
pair_in members = None

-- the pair that a list of two texts is
unfoldable pub pair_of : Data → Option (List ℕ × ℕ)
pair_of d = option_and_then pair_in (as_array d)

-- the child of a list of at most 4 pairs
unfoldable pub child_of : Data → Option (List (List ℕ × ℕ))
child_of d = each_up_to 4 pair_of d

-- the children of a list of at most 8
abbrev pub children_of : Data → Option (List (List (List ℕ × ℕ)))
children_of = each_up_to 8 child_of

-- The driver of a member, or its first field that is missing, of another kind or out of its range.
-- A member that is no object lacks each field.
unfoldable pub member_driver : Data → Result ListedDriver DriverField
member_driver d = do
  version ← or_fault field.Version (version_of d)
  needs ← or_fault field.Needs (option_and_then guids_of (get (driver_field_name field.Needs) d))
  opens ← or_fault field.Opens (option_and_then guids_of (get (driver_field_name field.Opens) d))
  children ← or_fault field.Children
      (option_and_then children_of (get (driver_field_name field.Children) d))
  stops ← or_fault field.Stops (option_and_then as_bool (get (driver_field_name field.Stops) d))
  Ok
      (record {
        version = version;
        needs = needs;
        opens = opens;
        children = children;
        stops = stops;
      })

-- the result, with its driver as a file lists it
abbrev pub listed_result : Result TableDriver DriverField → Result ListedDriver DriverField
listed_result (Ok d) = Ok (listed d)
listed_result (Err f) = Err f

-- ---- the list

-- a member's driver, or its fault: the member's place, and the field
abbrev pub or_driver : ℕ → Result ListedDriver DriverField → Result ListedDriver MachineFault
or_driver n (Ok driver) = Ok driver
or_driver n (Err f) = Err (fault.Driver n f)

-- the drivers of members, the first of which is the nth
abbrev pub drivers_from : ℕ → Items → Result (List ListedDriver) MachineFault
drivers_from = each_from (λ n d. or_driver n (member_driver d))

-- the drivers of a driver list, in its order
abbrev pub drivers_of : Data → Result (List ListedDriver) MachineFault
drivers_of d = do
  list ← or_fault fault.NoDriverList (as_array d)
  if nat_lt most_drivers (item_count list) then Err fault.TooManyDrivers else drivers_from 0 list

-- the drivers of a driver list, if there is one
abbrev pub drivers_if : Option Data → Result (List ListedDriver) MachineFault
drivers_if None = Ok []
drivers_if (Some d) = drivers_of d

-- the drivers that the root lists, in their order
abbrev pub root_drivers : Data → Result (List ListedDriver) MachineFault
root_drivers root = drivers_if (get (codes "drivers") root)
