-- Calls of OpenProtocol.
use Rattle.std.specs.Prelude.{Bool, List}
use Rattle.guid_handles.specs.HandleTables.{HandleTable}
use Rattle.open_agents.specs.declared.items.OpenRecord.{OpenRecord}
use Rattle.open_agents.specs.declared.items.OpenRequest.{OpenRequest}
use Rattle.open_agents.specs.declared.items.Decision.{Decision}
use Rattle.open_agents.specs.OpenItems.{is_equal_item, with_item}
use Rattle.open_agents.specs.OpenRule.{has_equal, open_rule}

-- an item is equal to what a call asks for
abbrev pub asks_for : OpenRequest → OpenRecord → Bool
asks_for r = is_equal_item r.handle r.guid r.agent r.controller r.attributes

-- there is an item equal to what a call asks for
abbrev pub is_among : List OpenRecord → OpenRequest → Bool
is_among opens r = has_equal opens r.handle r.guid r.agent r.controller r.attributes

-- the open items after a call
abbrev pub with_request : OpenRequest → List OpenRecord → List OpenRecord
with_request r opens = with_item r.handle r.guid r.agent r.controller r.attributes opens

-- what the open rule decides about a call
abbrev pub decision_on : HandleTable → List OpenRecord → OpenRequest → Decision
decision_on t opens r = open_rule t opens r.handle r.guid r.agent r.controller r.attributes
