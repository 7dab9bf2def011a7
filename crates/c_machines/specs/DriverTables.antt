-- What the tables of drivers mean.
use Rattle.std.specs.Prelude.{◌≡◌, ℕ, Bool, true, false, ◌&&◌, nat_le, List, length, map, take, Option, Some, None, Result, Ok, Err, if◌then◌else◌, [], ◌∷◌, ◌++◌, ◌+◌}
use Rattle.std.specs.List.{list_all}
use Rattle.std.specs.declared.vec.Vec.{Vec}
use Rattle.boot_machines.specs.Machines.{most_drivers}
use Rattle.driver_connect.specs.declared.table.TableDriver.{TableDriver}
use Rattle.c_machines.specs.declared.drivers.Child.{Child}
use Rattle.c_machines.specs.declared.drivers.DriverTable.{DriverTable}
use Rattle.c_machines.specs.declared.guids.Guid.{Guid}
use Rattle.c_machines.specs.declared.faults.MachineFault.{MachineFault}
use Rattle.c_machines.specs.declared.faults.MachineFault.TheVariants.{Invalid, OutOfMemory}
use Rattle.c_machines.specs.Guids.{guid_in, interface_in}

-- a driver as C describes it
pub record DriverRecord : Type 0 where
  pub version : ℕ
  pub needs : List (List ℕ)
  pub opens : List (List ℕ)
  pub children : List (List (List ℕ × ℕ))
  pub stops : Bool

-- what C passes of a driver
abbrev pub returned : TableDriver → DriverRecord
returned d =
    record {
      version = d.version;
      needs = d.needs.items;
      opens = d.plan.opens;
      children = d.plan.children;
      stops = d.stops;
    }

-- the first interfaces of the child's array, as many as its count says
abbrev pub child_in : Child → List (List ℕ × ℕ)
child_in c = map interface_in (take c.count c.interfaces)

-- a value, where a test says that it can be read
abbrev pub read_if : {X : Type 0} → Bool → X → Option X
read_if test x = if test then Some x else None

-- the first GUIDs of an array of 8, as many as the count says
abbrev pub guids_up_to : ℕ → List Guid → Option (List (List ℕ))
guids_up_to count guids = read_if (nat_le count 8) (map guid_in (take count guids))

-- the first elements of each of the table's arrays, as many as its count says
abbrev pub driver_in : DriverTable → DriverRecord
driver_in t =
    record {
      version = t.version;
      needs = map guid_in
          (take t.needs_count t.needs);
      opens = map guid_in (take t.opens_count t.opens);
      children =
          map child_in (take t.children_count t.children);
      stops = t.stops;
    }

-- the count of the child is not above the length of its array
abbrev pub fits_child : Child → Bool
fits_child c = nat_le c.count 4

-- the first children of an array, as many as the count says, where each of them fits
abbrev pub children_in : ℕ → List Child → Option (List (List (List ℕ × ℕ)))
children_in count children =
    if nat_le count 8 && list_all fits_child (take count children)
    then Some (map child_in (take count children)) else None

-- no count of the table is above the length of its array, and none of its children's is
abbrev pub fits : DriverTable → Bool
fits t =
    nat_le t.needs_count 8 && nat_le t.opens_count 8 && nat_le t.children_count 8
    && list_all fits_child (take t.children_count t.children)

-- The tables are at most the limit, and no count in them is above the length of its array.
abbrev pub are_tables : List DriverTable → Bool
are_tables ts = nat_le (length ts) most_drivers && list_all fits ts

-- What is read of tables: their drivers, in their order. Where they are none, Invalid; only where
-- they are some may memory run out.
abbrev pub ReadsDrivers : {A : Type 0} → List DriverTable → Result (Vec TableDriver A) MachineFault
    → Type 0
ReadsDrivers ts (Ok drivers) =
    (are_tables ts ≡ true) × (map returned drivers.items ≡ map driver_in ts)
ReadsDrivers ts (Err Invalid) = are_tables ts ≡ false
ReadsDrivers ts (Err OutOfMemory) = are_tables ts ≡ true

-- ---- a driver behind others

-- One driver is put behind others.
abbrev pub PutsOneBehind : List TableDriver → List TableDriver → Type 0
PutsOneBehind old new = (length new ≡ length old + 1) × (take (length old) new ≡ old)

-- The driver of a table is put behind others, or it is none.
abbrev pub PushesDriver : List TableDriver → DriverTable → Result (Unit {0}) MachineFault
    → List TableDriver → Type 0
PushesDriver old t (Ok _) new =
    (fits t ≡ true) × (map returned new ≡ map returned old ++ driver_in t ∷ [])
PushesDriver old t (Err Invalid) new = fits t ≡ false
PushesDriver old t (Err OutOfMemory) new = Unit
