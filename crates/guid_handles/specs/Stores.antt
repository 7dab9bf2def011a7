-- How the handle table is kept.
use Rattle.std.specs.Prelude.{◌≡◌, ◌==◌, ◌<◌, ◌≤◌, ℕ, false, List, Option, Some}
use Rattle.std.specs.List.{filter, find, AllByRecursion, AllZip}
use Rattle.std.specs.Option.{option_map}
use Rattle.guid_handles.specs.declared.records.Interface.{Interface}
use Rattle.guid_handles.specs.declared.records.Record.{Record}
use Rattle.guid_handles.specs.HandleTables.{HandleTable, interface_at, is_on, is_at}
use Rattle.guid_handles.specs.HandleChanges.{IsHandleTable, with_value}
use Rattle.guid_handles.specs.Sorting.{Ascending}
use Rattle.guid_handles.specs.Indexes.{Row, Group, lives, keys_on, stamp_at}
use Rattle.guid_handles.specs.Slots.{at_key, record_at, is_key_of, installed_until}

-- two interfaces are not of one GUID on one handle, and have stamps of their own
abbrev pub AreApart : Interface → Interface → Type 0
AreApart i j = (is_at j.handle j.guid i ≡ false) × ((i.stamp == j.stamp) ≡ false)

-- What is true of every table: each interface is one of its kind, and no stamp is higher than the
-- last.
pub record IsTable (t : HandleTable) : Type 0 where
  pub proper : IsHandleTable t
  pub apart : Ascending AreApart t.interfaces
  pub below : AllByRecursion (λ i. i.stamp ≤ t.last_stamp) t.interfaces

-- A table from which another one came as an interface took a value and a new stamp.
pub record Replaced (n : ℕ) (guid : List ℕ) (own : Interface) (last_stamp : ℕ)
    (before after : HandleTable) : Type 0 where
  pub table : IsTable before
  pub there : interface_at before n guid ≡ Some own
  pub last : before.last_stamp ≡ last_stamp
  pub value : ℕ
  pub replaced : after ≡ with_value n guid value before

-- keys have these interfaces, one beside the other
abbrev pub HaveInterfaces : List (Option Record) → List ℕ → List Interface → Type 0
HaveInterfaces slots keys interfaces = AllZip (λ k i. at_key slots k ≡ Some i) keys interfaces

-- the key of the interface of a GUID on a handle, in the handle's row
abbrev pub key_at : List (Option Record) → List Row → List ℕ → ℕ → Option ℕ
key_at slots rows guid n = find (is_key_of slots guid) (keys_on rows n)

-- Interfaces, and their keys in rows by handle. No slot has an interface whose key is not in its row.
pub record AreFiled (interfaces : List Interface) (slots : List (Option Record)) (rows : List Row)
    : Type 0 where
  pub by_handle : (n : ℕ) → HaveInterfaces slots (keys_on rows n) (filter (is_on n) interfaces)
  pub in_row : (key : ℕ) (i : Interface) → at_key slots key ≡ Some i
      → key_at slots rows i.guid i.handle ≡ Some key

-- the stamps in the groups are those of the interfaces
abbrev pub HaveStamps : List Interface → List Group → Type 0
HaveStamps interfaces groups = (guid : List ℕ) (n : ℕ)
    → stamp_at groups guid n ≡ option_map (λ i. i.stamp) (find (is_at n guid) interfaces)

-- the number of an installation is from 1 to the last
abbrev pub IsOrdered : ℕ → Record → Type 0
IsOrdered last r = (0 < r.installed) × (r.installed ≤ last)

-- The table that rows and slots represent, and the last number, the last stamp and the number of the
-- last installation.
abbrev pub table_of : List Row → List (Option Record) → ℕ → ℕ → ℕ → HandleTable
table_of rows slots last_number last_stamp last_order = record {
  handles = lives rows;
  interfaces = installed_until last_order slots;
  last_number = last_number;
  last_stamp = last_stamp;
}

-- A table in rows, slots and groups.
pub record IsStore (rows : List Row) (slots : List (Option Record)) (groups : List Group)
    (last_number last_stamp last_order : ℕ) : Type 0 where
  pub table : IsTable (table_of rows slots last_number last_stamp last_order)
  pub filed : AreFiled (installed_until last_order slots) slots rows
  pub stamps : HaveStamps (installed_until last_order slots) groups
  pub ordered : (key : ℕ) (r : Record) → record_at slots key ≡ Some r → IsOrdered last_order r
