-- The interfaces in the slots of a slab, by keys and in order of installation.
use Rattle.std.specs.Prelude.{ℕ, zero, suc, ◌==◌, Bool, cond, List, [], ◌∷◌, ◌++◌, Option, Some, None, is_some, slice_index_or}
use Rattle.std.specs.List.{filter_map}
use Rattle.std.specs.Option.{option_map}
use Rattle.guid_handles.specs.declared.records.Interface.{Interface}
use Rattle.guid_handles.specs.declared.records.Record.{Record}
use Rattle.guid_handles.specs.HandleTables.{is_of}
use Rattle.guid_handles.specs.Sorting.{kept_if}

-- the record at a key
abbrev pub record_at : List (Option Record) → ℕ → Option Record
record_at slots key = slice_index_or slots key None

-- the interface at a key
abbrev pub at_key : List (Option Record) → ℕ → Option Interface
at_key slots key = option_map (λ r. r.interface) (record_at slots key)

-- the interfaces at keys
abbrev pub at_keys : List (Option Record) → List ℕ → List Interface
at_keys slots keys = filter_map (at_key slots) keys

-- the interface at a key is of a GUID
abbrev pub is_key_of : List (Option Record) → List ℕ → ℕ → Bool
is_key_of slots guid key = is_some (kept_if (is_of guid) (at_key slots key))

-- a record with another value and stamp
abbrev pub with_stamp : ℕ → ℕ → Record → Record
with_stamp value stamp r =
    record r { interface = record r.interface { value = value; stamp = stamp } }

-- the interface in a slot, if its installation has a number
abbrev pub picked : ℕ → Option Record → List Interface
picked order None = []
picked order (Some r) = cond (r.installed == order) (r.interface ∷ []) []

abbrev pub installed_with : ℕ → List (Option Record) → List Interface
installed_with order [] = []
installed_with order (slot ∷ slots) = picked order slot ++ installed_with order slots

-- the interfaces whose installations have the numbers from 1 to the last, in this order
abbrev pub installed_until : ℕ → List (Option Record) → List Interface
installed_until zero slots = []
installed_until (suc order) slots = installed_until order slots ++ installed_with (suc order) slots
