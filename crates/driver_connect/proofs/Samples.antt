-- The definitions on small tables, by computing.
use Rattle.std.proofs.Common.{◌≡◌, ℕ, ◌==◌, ◌&&◌, Bool, true, false, List, [], ◌∷◌, map, Option, Some, None, refl}
use Rattle.std.specs.List.{list_any}
use Rattle.guid_handles.specs.declared.records.Interface.{Interface}
use Rattle.guid_handles.specs.declared.records.LiveHandle.{LiveHandle}
use Rattle.guid_handles.specs.declared.records.Pair.{Pair}
use Rattle.guid_handles.specs.HandleTables.{HandleTable, numbers, maker_of, same_guid}
use Rattle.open_agents.specs.declared.items.OpenRecord.{OpenRecord}
use Rattle.driver_connect.specs.declared.agents.Agent.{Agent}
use Rattle.driver_connect.specs.Drivers.{Meaning, Plan, is_free, protocols_on, driver_binding, driver_of}
use Rattle.driver_connect.specs.Stopping.{stop_set, made_by, can_be_stopped, without_handles, without_opens, managers_meant}
use Rattle.driver_connect.specs.Starting.{site, agents_for, can_start, starts_on}
use Rattle.driver_connect.specs.Connecting.{connected, first_progress}

abbrev guid : ℕ → List ℕ
guid n = n ∷ []

abbrev live : ℕ → Option Pair → LiveHandle
live n maker = record { number = n; maker = maker }

abbrev by : ℕ → ℕ → Pair
by controller agent = record { controller = controller; agent = agent }

abbrev on : ℕ → List ℕ → ℕ → ℕ → Interface
on n g value stamp = record { handle = n; guid = g; value = value; stamp = stamp }

abbrev item : ℕ → List ℕ → ℕ → ℕ → ℕ → OpenRecord
item n g agent controller a = record { handle = n; guid = g; agent = agent; controller = controller; attributes = a; count = 1 }

-- Handle 1 has two protocols, of which the second is open for a driver. Handles 2 and 3 are driver handles, handle 4 none.
abbrev table : HandleTable
table = record {
  handles = live 1 None ∷ live 2 None ∷ live 3 None ∷ live 4 None ∷ [];
  interfaces = on 1 (guid 1) 0x10 1 ∷ on 2 driver_binding 0 2 ∷ on 3 driver_binding 1 3 ∷ on 1 (guid 2) 0x11 4 ∷ on 4 driver_binding 2 5 ∷ [];
  last_number = 4;
  last_stamp = 5;
}

abbrev held : List OpenRecord
held = item 1 (guid 2) 9 1 0x10 ∷ []

-- It is supported where the first protocol is free, opens it and makes a child that has it too.
abbrev first_driver : Meaning
first_driver = record {
  version = 1;
  supports = λ s. is_free s.protocols (guid 1);
  plan = λ s. record { opens = guid 1 ∷ []; children = ((guid 1, 0x21) ∷ []) ∷ [] };
  may_stop = λ s. true;
}

-- It is supported where the first protocol is held, and opens one that is not there.
abbrev second_driver : Meaning
second_driver = record {
  version = 2;
  supports = λ s. list_any (λ v. same_guid v.guid (guid 1) && v.held) s.protocols;
  plan = λ s. record { opens = guid 7 ∷ []; children = [] };
  may_stop = λ s. s.controller == 1;
}

abbrev drivers : List Meaning
drivers = first_driver ∷ second_driver ∷ []

shown : protocols_on table held 1 ≡ record { guid = guid 1; value = 0x10; held = false } ∷ record { guid = guid 2; value = 0x11; held = true } ∷ []
shown = refl

driver_handles : map (driver_of drivers table) (1 ∷ 2 ∷ 3 ∷ 4 ∷ []) ≡ None ∷ Some 0 ∷ Some 1 ∷ None ∷ []
driver_handles = refl

abbrev agent : ℕ → ℕ → ℕ → Agent
agent n place version = record { handle = n; driver = place; version = version }

-- the higher version first, unless the other is named
by_version : agents_for drivers table [] ≡ agent 3 1 2 ∷ agent 2 0 1 ∷ []
by_version = refl

named : agents_for drivers table (1 ∷ 2 ∷ 2 ∷ []) ≡ agent 2 0 1 ∷ agent 3 1 2 ∷ []
named = refl

abbrev opening : List (List ℕ) → Plan
opening guids = record { opens = guids; children = [] }

-- nothing, a GUID twice, one that is not there and one that is held are not opened
plans : map (λ guids. can_start table (protocols_on table held 1) (opening guids)) ([] ∷ (guid 1 ∷ guid 1 ∷ []) ∷ (guid 1 ∷ guid 3 ∷ []) ∷ (guid 2 ∷ []) ∷ (guid 1 ∷ []) ∷ []) ≡ false ∷ false ∷ false ∷ false ∷ true ∷ []
plans = refl

-- the first driver is started in the first pass, and the second, which is asked first, in the second: its start is not carried out
two_passes : (starts_on (site drivers [] 1) [] (first_progress table [])).starts ≡ record { agent = 2; is_carried_out = true } ∷ record { agent = 3; is_carried_out = false } ∷ []
two_passes = refl

-- one handle is made at each level
levels : map (λ k. numbers (connected k (site drivers [] 1) [] (first_progress table [])).handles) (0 ∷ 1 ∷ 2 ∷ []) ≡ (1 ∷ 2 ∷ 3 ∷ 4 ∷ 5 ∷ []) ∷ (1 ∷ 2 ∷ 3 ∷ 4 ∷ 5 ∷ 6 ∷ []) ∷ (1 ∷ 2 ∷ 3 ∷ 4 ∷ 5 ∷ 6 ∷ 7 ∷ []) ∷ []
levels = refl

maker : maker_of (connected 1 (site drivers [] 1) [] (first_progress table [])).handles 6 ≡ Some (by 5 2)
maker = refl

-- ---- stopping

-- The driver of handle 2 made handle 5 on handle 1, and handle 6 on that.
abbrev tree : HandleTable
tree = record table { handles = live 1 None ∷ live 2 None ∷ live 3 None ∷ live 5 (Some (by 1 2)) ∷ live 6 (Some (by 5 2)) ∷ [] }

abbrev opened : List OpenRecord
opened = item 1 (guid 1) 2 1 0x10 ∷ item 5 (guid 1) 2 5 0x10 ∷ item 1 (guid 2) 3 1 0x10 ∷ item 6 (guid 1) 0 0 0x2 ∷ []

abbrev pair : ℕ → ℕ → Pair
pair controller agent = record { controller = controller; agent = agent }

abbrev opener : ℕ → ℕ → Pair
opener agent controller = record { agent = agent; controller = controller }

stopped_pairs : stop_set tree opened (pair 1 2 ∷ []) ≡ pair 1 2 ∷ pair 5 2 ∷ []
stopped_pairs = refl

stopped_handles : made_by tree (stop_set tree opened (pair 1 2 ∷ [])) ≡ 5 ∷ 6 ∷ []
stopped_handles = refl

managers : managers_meant opened 1 0 ≡ pair 1 2 ∷ pair 1 3 ∷ []
managers = refl

manager : managers_meant opened 1 3 ≡ pair 1 3 ∷ []
manager = refl

abbrev can : List OpenRecord → ℕ → Option Pair → Bool
can opens handle by = can_be_stopped drivers tree opens (pair 1 2 ∷ pair 5 2 ∷ []) handle by

-- not for a handle that goes or an opener that goes
asked : can opened 1 None ∷ can opened 5 None ∷ can opened 1 (Some (opener 3 1)) ∷ can opened 1 (Some (opener 2 1)) ∷ can opened 1 (Some (opener 3 6)) ∷ [] ≡ true ∷ false ∷ true ∷ false ∷ false ∷ []
asked = refl

-- an exclusive item on a handle that goes is an obstacle, and so is one for a child that stays
obstacles : can (item 6 (guid 1) 4 0 0x20 ∷ opened) 1 None ∷ can (item 6 (guid 1) 2 1 0x8 ∷ opened) 1 None ∷ can (item 5 (guid 1) 4 6 0x8 ∷ opened) 1 None ∷ can (item 5 (guid 1) 4 3 0x8 ∷ opened) 1 None ∷ [] ≡ false ∷ true ∷ true ∷ false ∷ []
obstacles = refl

-- a driver that does not let itself be stopped on a controller
stays : can_be_stopped drivers tree opened (pair 1 3 ∷ []) 1 None ∷ can_be_stopped drivers tree opened (pair 5 3 ∷ []) 1 None ∷ can_be_stopped drivers tree opened (pair 1 4 ∷ []) 1 None ∷ [] ≡ true ∷ false ∷ false ∷ []
stays = refl

left_handles : numbers (without_handles (5 ∷ 6 ∷ []) tree) ≡ 1 ∷ 2 ∷ 3 ∷ []
left_handles = refl

left_items : without_opens (5 ∷ 6 ∷ []) (pair 1 2 ∷ pair 5 2 ∷ []) (item 3 (guid 1) 2 1 0x2 ∷ opened) ≡ item 1 (guid 2) 3 1 0x10 ∷ []
left_items = refl
