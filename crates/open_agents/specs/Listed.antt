-- The open items of an agent.
use Rattle.std.specs.Prelude.{ℕ, ◌==◌, Bool, List}
use Rattle.std.specs.List.{filter}
use Rattle.open_agents.specs.declared.items.OpenRecord.{OpenRecord}

abbrev pub is_of_agent : ℕ → OpenRecord → Bool
is_of_agent agent o = o.agent == agent

-- the items of an agent, in the order in which they were made
abbrev pub items_of : List OpenRecord → ℕ → List OpenRecord
items_of opens agent = filter (is_of_agent agent) opens
