-- What a machine file means.
use Rattle.std.specs.Prelude.{◌≡◌, ◌⊎◌, MatchResult, ℕ, ◌+◌, ◌/◌, ◌%◌, ◌^◌, Bool, ◌&&◌, ◌||◌, ◌==◌, not, nat_lt, nat_le, List, [], ◌∷◌, length, map, codes, Option, Some, None, option_and_then, option_map, Result, Ok, Err, if◌then◌else◌, count_by}
use Rattle.std.specs.List.{list_any}
use Rattle.std.specs.Str.{is_utf8}
use Rattle.serde_json.specs.Data.{Data, Items}
use Rattle.serde_json.specs.Read.{read}
use Rattle.serde_json.specs.Find.{get, as_array, as_number, as_u64}
use Rattle.page_ranges.specs.declared.ranges.Owner.TheVariants.{Given}
use Rattle.page_ranges.specs.declared.ranges.Run.{Run}
use Rattle.page_ranges.specs.MemoryTypes.{page_size, page_count, conventional, has_runtime, is_machine_type}
use Rattle.boot_machines.specs.Machines.{most_descriptors, MachineValue}
use Rattle.machine_files.specs.declared.faults.MachineFault.{MachineFault}
use Rattle.machine_files.specs.declared.faults.MachineFault.TheVariants as fault
use Rattle.machine_files.specs.declared.faults.MemberField.{MemberField}
use Rattle.machine_files.specs.declared.faults.MemberField.TheVariants as field
use Rattle.machine_files.specs.declared.machine_file.MachineFile.{MachineFile}
use Rattle.machine_files.specs.FaultText.{field_name}
use Rattle.machine_files.specs.Fields.{if_passes, number_at, hexadecimal_at, item_count, each_from}
use Rattle.machine_files.specs.DriverText.{ListedDriver, listed, root_drivers}
use Rattle.text_lines.specs.FirstFault.{◌>>=◌, or_fault}

-- ---- a member of the memory list

-- a type that a machine may have
abbrev pub member_type : Data → Option ℕ
member_type d =
    option_and_then (if_passes (λ t. nat_lt t (2 ^ 32) && is_machine_type t))
    (number_at (field_name field.Type) d)

-- the page that begins at the start
abbrev pub first_page_of : Data → Option ℕ
first_page_of d =
    option_and_then (λ start. if start % page_size == 0 then Some (start / page_size) else None)
    (hexadecimal_at (field_name field.Start) d)

-- a number of pages, not 0, the last of which exists
abbrev pub page_count_of : ℕ → Data → Option ℕ
page_count_of first d =
    option_and_then (if_passes (λ pages. not (pages == 0) && nat_le (first + pages) page_count))
    (number_at (field_name field.Pages) d)

-- attributes, without RUNTIME where the type is conventional
abbrev pub attributes_of : ℕ → Data → Option ℕ
attributes_of t d =
    option_and_then (if_passes (λ attributes. not ((t == conventional) && has_runtime attributes)))
    (hexadecimal_at (field_name field.Attributes) d)

-- The run of a member, or its first field that is missing, of another kind or out of its range. A
-- member that is no object lacks each field.
unfoldable pub member_run : Data → Result Run MemberField
member_run d = do
  t ← or_fault field.Type (member_type d)
  first ← or_fault field.Start (first_page_of d)
  pages ← or_fault field.Pages (page_count_of first d)
  attributes ← or_fault field.Attributes (attributes_of t d)
  Ok
      (record {
        range = record { first = first; pages = pages };
        mtype = t;
        attributes = attributes;
        owner = Given;
      })

-- ---- the file

-- a member's run, or its fault: the member's place, and the field
abbrev pub or_descriptor : ℕ → Result Run MemberField → Result Run MachineFault
or_descriptor n (Ok run) = Ok run
or_descriptor n (Err f) = Err (fault.Descriptor n f)

-- the runs of members, the first of which is the nth
abbrev pub runs_from : ℕ → Items → Result (List Run) MachineFault
runs_from = each_from (λ n d. or_descriptor n (member_run d))

-- what JSON the bytes are
abbrev pub json_of : List ℕ → Option Data
json_of bytes = if is_utf8 bytes then read bytes else None

-- the most bytes of a machine file
abbrev pub longest_file : ℕ
longest_file = 67108864

-- the runs of the memory list, in its order
abbrev pub root_runs : Data → Result (List Run) MachineFault
root_runs root = do
  list ← or_fault fault.NoMemoryList (option_and_then as_array (get (codes "memory") root))
  if nat_lt most_descriptors (item_count list) then Err fault.TooManyDescriptors
      else runs_from 0 list

-- a granule that a machine may have
abbrev pub granule_of : Data → Option ℕ
granule_of d =
    option_and_then (if_passes (λ n. (n == 1) || (n == 16))) (option_and_then as_u64 (as_number d))

-- the granule that a file names, or a page where it names none
abbrev pub granule_if : Option Data → Option ℕ
granule_if None = Some 1
granule_if (Some d) = granule_of d

abbrev pub root_granule : Data → Option ℕ
root_granule root = granule_if (get (codes "granule") root)

-- the JSON value of a file of at most `longest_file` bytes
unfoldable pub root_of : List ℕ → Result Data MachineFault
root_of bytes =
    if nat_lt longest_file (length bytes) then Err fault.TooLong
    else or_fault fault.NotJson (json_of bytes)

-- ---- the machine

-- the runs have a page in common
abbrev pub shares_page : Run → Run → Bool
shares_page r s =
    nat_lt r.range.first (s.range.first + s.range.pages)
    && nat_lt s.range.first (r.range.first + r.range.pages)

-- some run has a page in common with more than one of the list, itself among them
abbrev pub overlap : List Run → Bool
overlap runs = list_any (λ r. nat_lt 1 (count_by (shares_page r) runs)) runs

-- runs by ascending page, and one more of them
abbrev pub with_run : Run → List Run → List Run
with_run r [] = r ∷ []
with_run r (s ∷ runs) =
    if nat_le r.range.first s.range.first then r ∷ s ∷ runs else s ∷ with_run r runs

-- the runs by ascending page
abbrev pub in_order : List Run → List Run
in_order [] = []
in_order (r ∷ runs) = with_run r (in_order runs)

-- what a machine file lists: the machine, with its runs by ascending page, and the drivers
pub record ListedMachine : Type 0 where
  pub machine : MachineValue
  pub drivers : List ListedDriver

-- the machine of these runs and this granule, unless runs have a page in common or the granule is
-- none
abbrev pub machine_with : List Run → Option ℕ → Result MachineValue MachineFault
machine_with runs granule =
    if overlap runs then Err fault.Overlap
    else or_fault fault.Granule
    (option_map (λ g. record { runs = in_order runs; granule = g }) granule)

-- the machine that a file lists, with its descriptors in any order
unfoldable pub machine_of : List ℕ → Result ListedMachine MachineFault
machine_of bytes = do
  root ← root_of bytes
  runs ← root_runs root
  drivers ← root_drivers root
  machine ← machine_with runs (root_granule root)
  Ok (record { machine = machine; drivers = drivers })

-- how a file lists what was read of it
abbrev pub listed_machine : MachineFile → ListedMachine
listed_machine file = record { machine = file.machine; drivers = map listed file.drivers.items }

-- What a function returned, seen by view, is what the definition reads, unless memory ran out.
abbrev pub Gives : {X Y : Type 0} → (X → Y) → Result X MachineFault → Result Y MachineFault → Type 0
Gives view result reading =
    MatchResult result (λ x. reading ≡ Ok (view x))
    (λ e. (e ≡ fault.OutOfMemory) ⊎ (reading ≡ Err e))
