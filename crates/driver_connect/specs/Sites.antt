-- Where a connect begins, and where drivers are started.
use Rattle.std.specs.Prelude.{◌≡◌, ℕ, Bool, List, Option}
use Rattle.std.specs.declared.vec.Vec.{Vec}
use Rattle.guid_handles.specs.HandleTables.{HandleTable}
use Rattle.open_agents.specs.declared.items.OpenRecord.{OpenRecord}
use Rattle.driver_connect.specs.declared.agents.Agent.{Agent}
use Rattle.driver_connect.specs.declared.starting.Start.{Start}
use Rattle.driver_connect.specs.declared.starting.Starter.{Starter}
use Rattle.driver_connect.specs.Drivers.{Meaning}
use Rattle.driver_connect.specs.Starting.{Passed, Progress, Site, after_turn, site_of, turn}

-- handles and open items, with the events so far
abbrev pub begun : {A : Type 0} → HandleTable → List OpenRecord → Vec ℕ A → Progress
begun t opens events = record { handles = t; opens = opens; events = events.items }

-- a controller, with what drivers are started by
abbrev pub site_at : {D A : Type 0} → (D → Meaning) → Starter D A → ℕ → Site
site_at meaning s n = site_of meaning s.drivers.now s.notify.now n

-- what came of an agent's turn, and how far a connect has come by it
abbrev pub TakesTurn : Site → Progress → Agent → Option Bool → Progress → Type 0
TakesTurn c p a t new = (t ≡ turn c p a) × (new ≡ after_turn c p a)

-- starts made and drivers left, and how far a connect has come
abbrev pub passed : List Start → List Agent → Progress → Passed
passed starts left p = record { starts = starts; left = left; progress = p }

-- these are the starts made, and a connect has come so far
abbrev pub EndsAs : Passed → List Start → Progress → Type 0
EndsAs r starts p = (starts ≡ r.starts) × (p ≡ r.progress)
