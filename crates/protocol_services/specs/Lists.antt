-- The lists that the protocol services work on, and how far a call may bring their counts.
use Rattle.std.specs.Prelude.{ℕ, ◌+◌, ◌<◌, ◌≤◌, ◌^◌, ◌≡◌, List, [], length}
use Rattle.std.specs.List.{AllByRecursion}
use Rattle.guid_handles.specs.HandleTables.{HandleTable}
use Rattle.guid_handles.specs.HandleChanges.{no_handles}
use Rattle.open_agents.specs.declared.items.OpenRecord.{OpenRecord}
use Rattle.protocol_notify.specs.declared.notify.Registration.{Registration}

-- the handle table, the open items and the registrations
pub record Lists : Type 0 where
  pub handles : HandleTable
  pub opens : List OpenRecord
  pub registrations : List Registration

-- before any call there is nothing in them
abbrev pub no_lists : Lists
no_lists = record { handles = no_handles; opens = []; registrations = [] }

-- the handles are left so, and the other lists as they were
abbrev pub OnHandles : (HandleTable → Type 0) → Lists → Lists → Type 0
OnHandles Rule old new =
    Rule new.handles × (new.opens ≡ old.opens) × (new.registrations ≡ old.registrations)

-- The last number and the last stamp that were given are far enough from their ends for any call.
pub record HasRoomAfter (last_number last_stamp : ℕ) : Type 0 where
  pub numbers : last_number < 2 ^ 61
  pub stamps : last_stamp + 1 < 2 ^ 61

-- the last number and the last stamp of the lists are far enough from their ends for any call
abbrev pub HasRoom : Lists → Type 0
HasRoom l = HasRoomAfter l.handles.last_number l.handles.last_stamp

-- a call gives no more numbers, and no more stamps
abbrev pub most_given : ℕ
most_given = 0x10000

-- The most numbers and stamps that a call gives; it gives one key at most, and raises each item's
-- count by 1 at most.
pub record IsRaised (old new : Lists) : Type 0 where
  pub numbers : new.handles.last_number ≤ old.handles.last_number + most_given
  pub stamps : new.handles.last_stamp ≤ old.handles.last_stamp + most_given
  pub keys : length new.registrations ≤ length old.registrations + 1
  pub counts : (n : ℕ) → AllByRecursion (λ o. o.count ≤ n) old.opens
      → AllByRecursion (λ o. o.count ≤ n + 1) new.opens
