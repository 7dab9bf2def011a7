-- The law of the order in which drivers are started on one handle.
use Rattle.std.specs.Prelude.{◌≡◌, ℕ, ◌<◌, Bool, false, not, List, [], ◌∷◌, ◌++◌, length, map, flat_map}
use Rattle.std.specs.List.{filter, AllByRecursion}
use Rattle.driver_connect.specs.declared.agents.Agent.{Agent}
use Rattle.driver_connect.specs.Starting.{Site, Progress, Passed, is_supported, agents_for, starts_on}
use Rattle.driver_connect.specs.Turns.{after_starts, starts_in_turn}

-- a driver's turn in a pass: it is started, or left
pub record Turn : Type 0 where
  pub agent : Agent
  pub is_started : Bool

-- the drivers that have some turns
abbrev pub agents_of : List Turn → List Agent
agents_of turns = map (λ t. t.agent) turns

-- those that are started, and those that are left, in the order of their turns
abbrev pub started_in : List Turn → List Agent
started_in turns = agents_of (filter (λ t. t.is_started) turns)

abbrev pub left_in : List Turn → List Agent
left_in turns = agents_of (filter (λ t. not t.is_started) turns)

-- In a pass over a list of drivers each has its turn, in the order of the list. It is started
-- exactly where it is supported on the lists as the starts before its turn left them.
pub record IsPass (c : Site) (agents : List Agent) (p : Progress) (turns : List Turn) : Type 0 where
  pub all : agents_of turns ≡ agents
  pub exact : (before : List Turn) (t : Turn) (after : List Turn) → turns ≡ before ++ t ∷ after
      → t.is_started ≡ is_supported c (after_starts c (started_in before) p) t.agent

-- Passes follow each other: the first goes over all drivers of a list, each other over those that
-- the one before it left. Each starts a driver, and none that the last one leaves is supported.
abbrev pub ArePasses : Site → List Agent → Progress → List (List Turn) → Type 0
ArePasses c agents p [] = AllByRecursion (λ a. is_supported c p a ≡ false) agents
ArePasses c agents p (turns ∷ passes) =
    IsPass c agents p turns × (0 < length (started_in turns))
    × ArePasses c (left_in turns) (after_starts c (started_in turns) p) passes

-- The starts are those of passes over a list of drivers.
pub record StartsInPasses (c : Site) (agents : List Agent) (p : Progress)
    (r : Passed) : Type 0 where
  pub passes : List (List Turn)
  pub are_passes : ArePasses c agents p passes
  pub starts : r.starts ≡ starts_in_turn c (flat_map started_in passes) p
  pub progress : r.progress ≡ after_starts c (flat_map started_in passes) p

-- The starts on a handle come so, by the list of the drivers that are named and then all others.
abbrev pub StartOrderLaw : Type 0
StartOrderLaw =
    (c : Site) (named : List ℕ) (p : Progress)
    → StartsInPasses c (agents_for c.drivers p.handles named) p (starts_on c named p)
