-- The law of the starts on one handle, start by start.
use Rattle.std.specs.Prelude.{◌≡◌, ℕ, ◌+◌, ◌≤◌, ◌==◌, true, false, List, [], ◌∷◌, length}
use Rattle.std.specs.List.{filter, AllByRecursion}
use Rattle.guid_handles.specs.HandleTables.{HandleTable}
use Rattle.guid_handles.specs.HandleChanges.{IsHandleTable}
use Rattle.driver_connect.specs.declared.agents.Agent.{Agent}
use Rattle.driver_connect.specs.declared.starting.Start.{Start}
use Rattle.driver_connect.specs.Drivers.{Meaning}
use Rattle.driver_connect.specs.Starting.{Site, Progress, Passed, is_supported, is_carried_out, started, agents_for, starts_on}

-- how far a connect has come once some drivers were started, in order
abbrev pub after_starts : Site → List Agent → Progress → Progress
after_starts c [] p = p
after_starts c (a ∷ agents) p = after_starts c agents (started c p a)

-- their starts, each carried out or not on the lists as those before it left them
abbrev pub starts_in_turn : Site → List Agent → Progress → List Start
starts_in_turn c [] p = []
starts_in_turn c (a ∷ agents) p =
    record { agent = a.handle; is_carried_out = is_carried_out c p a } ∷ starts_in_turn c agents
    (started c p a)

-- each of some drivers is supported on the lists as the starts before it left them
abbrev pub AreSupported : Site → List Agent → Progress → Type 0
AreSupported c [] p = Unit {0}
AreSupported c (a ∷ agents) p = (is_supported c p a ≡ true) × AreSupported c agents (started c p a)

-- how often a handle is among some drivers
abbrev pub times : ℕ → List Agent → ℕ
times n agents = length (filter (λ a. a.handle == n) agents)

-- Some of the drivers were started one after the other, each supported when its turn came. Each was
-- started or is left, and none that is left is supported now.
pub record StartsInTurn (c : Site) (agents : List Agent) (p : Progress) (r : Passed) : Type 0 where
  pub order : List Agent
  pub starts : r.starts ≡ starts_in_turn c order p
  pub progress : r.progress ≡ after_starts c order p
  pub supported : AreSupported c order p
  pub once : (n : ℕ) → times n order + times n r.left ≡ times n agents
  pub rest : AllByRecursion (λ a. is_supported c r.progress a ≡ false) r.left

-- The starts on a handle are of the drivers to be tried.
abbrev pub StartsLaw : Type 0
StartsLaw =
    (c : Site) (named : List ℕ) (p : Progress)
    → StartsInTurn c (agents_for c.drivers p.handles named) p (starts_on c named p)

-- No driver handle is tried twice, however often it is named.
abbrev pub TriedOnceLaw : Type 0
TriedOnceLaw =
    (ds : List Meaning) (t : HandleTable) (named : List ℕ) (n : ℕ) → IsHandleTable t
    → times n (agents_for ds t named) ≤ 1
