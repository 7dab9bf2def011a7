-- What a connect has done: it made handles and items, and changed none that there were.
use Rattle.std.specs.Prelude.{◌≡◌, ◌<◌, ◌≤◌, List, ◌++◌}
use Rattle.std.specs.List.{AllByRecursion}
use Rattle.guid_handles.specs.declared.records.Interface.{Interface}
use Rattle.guid_handles.specs.declared.records.LiveHandle.{LiveHandle}
use Rattle.guid_handles.specs.HandleTables.{HandleTable}
use Rattle.open_agents.specs.declared.items.OpenRecord.{OpenRecord}
use Rattle.driver_connect.specs.Starting.{Progress}

-- After the handles and interfaces that there were are others, on handles with later numbers.
pub record HasMade (old new : HandleTable) : Type 0 where
  pub made : List LiveHandle
  pub installed : List Interface
  pub handles : new.handles ≡ old.handles ++ made
  pub interfaces : new.interfaces ≡ old.interfaces ++ installed
  pub later : AllByRecursion (λ h. old.last_number < h.number) made
  pub on_later : AllByRecursion (λ i. old.last_number < i.handle) installed
  pub number : old.last_number ≤ new.last_number
  pub stamp : old.last_stamp ≤ new.last_stamp

-- After the items that there were are others.
pub record HasOpened (old new : List OpenRecord) : Type 0 where
  pub opened : List OpenRecord
  pub items : new ≡ old ++ opened

-- A connect has come further.
pub record GoesOn (old new : Progress) : Type 0 where
  pub handles : HasMade old.handles new.handles
  pub opens : HasOpened old.opens new.opens
