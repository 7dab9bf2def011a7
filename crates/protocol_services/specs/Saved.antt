-- The lists that a call may change and that are put back if it is refused.
use Rattle.std.specs.Prelude.{List, Option, Some, None}
use Rattle.guid_handles.specs.HandleTables.{HandleTable}
use Rattle.open_agents.specs.declared.items.OpenRecord.{OpenRecord}
use Rattle.protocol_services.specs.Lists.{Lists}

-- copies of the lists, of each that changes
pub record SavedLists : Type 0 where
  pub handles : Option HandleTable
  pub opens : Option (List OpenRecord)

-- copies of both
abbrev pub saved_of : Lists → SavedLists
saved_of l = record { handles = Some l.handles; opens = Some l.opens }

-- a copy, or what there is now if there is none
abbrev pub copy_or : {T : Type 0} → Option T → T → T
copy_or None now = now
copy_or (Some copy) now = copy

-- the lists with the copies put back; the registrations stay
abbrev pub put_back : SavedLists → Lists → Lists
put_back saved l =
    record {
      handles = copy_or saved.handles l.handles;
      opens = copy_or saved.opens l.opens;
      registrations = l.registrations;
    }
