-- Starting drivers on one handle.
use Rattle.std.specs.Prelude.{ℕ, zero, suc, ◌+◌, ◌≤◌, ◌==◌, ◌&&◌, ◌||◌, nat_le, Bool, false, not, cond, List, [], ◌∷◌, ◌++◌, length, map, Option, Some, None}
use Rattle.std.specs.List.{list_any, list_all, insert, cons_option}
use Rattle.guid_handles.specs.declared.records.Pair.{Pair}
use Rattle.guid_handles.specs.HandleTables.{HandleTable, same_guid, holders_of}
use Rattle.guid_handles.specs.HandleChanges.{max_handles, has_guid_twice, with_interfaces, with_handle}
use Rattle.guid_handles.specs.Sorting.{place}
use Rattle.open_agents.specs.declared.items.OpenRecord.{OpenRecord}
use Rattle.open_agents.specs.OpenItems.{with_item}
use Rattle.protocol_notify.specs.declared.notify.Registration.{Registration}
use Rattle.protocol_notify.specs.Registrations.{events_for}
use Rattle.driver_connect.specs.declared.agents.Agent.{Agent}
use Rattle.driver_connect.specs.declared.starting.Start.{Start}
use Rattle.driver_connect.specs.declared.view.ProtocolView.{ProtocolView}
use Rattle.driver_connect.specs.Drivers.{Meaning, ViewValue, Plan, view_of, protocols_on, is_free, driver_binding, agent_of, supports_at, plan_at}

-- ---- the list of drivers

abbrev pub is_listed : List Agent → ℕ → Bool
is_listed agents n = list_any (λ a. a.handle == n) agents

-- a driver handle joins a list, unless it is on it
abbrev pub with_named : List Meaning → HandleTable → List Agent → ℕ → List Agent
with_named ds t agents n =
    cond (is_listed agents n) agents (agents ++ cons_option (agent_of ds t n) [])

-- the driver handles among those that a caller names, in order, each once, after others
abbrev pub with_all_named : List Meaning → HandleTable → List Agent → List ℕ → List Agent
with_all_named ds t agents [] = agents
with_all_named ds t agents (n ∷ ns) = with_all_named ds t (with_named ds t agents n) ns

-- an agent goes after those whose versions are not lower
abbrev pub with_agent : List Agent → Agent → List Agent
with_agent agents a = insert agents (place (λ b. nat_le a.version b.version) agents) a

-- agents by version downwards, those of one version in their order
abbrev pub by_version : List Agent → List Agent → List Agent
by_version agents [] = agents
by_version agents (a ∷ more) = by_version (with_agent agents a) more

-- the version of one agent is not lower than that of another
abbrev pub IsNotLower : Agent → Agent → Type 0
IsNotLower a b = b.version ≤ a.version

-- a driver handle that is not on a list
abbrev pub other : List Meaning → HandleTable → List Agent → ℕ → List Agent
other ds t agents n = cond (is_listed agents n) [] (cons_option (agent_of ds t n) [])

-- some handles, those alone that are driver handles and not on a list
abbrev pub others_among : List Meaning → HandleTable → List Agent → List ℕ → List Agent
others_among ds t agents [] = []
others_among ds t agents (n ∷ ns) = other ds t agents n ++ others_among ds t agents ns

-- the driver handles that are not on a list, ascending
abbrev pub others : List Meaning → HandleTable → List Agent → List Agent
others ds t agents = others_among ds t agents (holders_of t driver_binding)

-- the drivers to be tried: those named, and then all others by version
abbrev pub agents_for : List Meaning → HandleTable → List ℕ → List Agent
agents_for ds t named =
    with_all_named ds t [] named ++ by_version [] (others ds t (with_all_named ds t [] named))

-- ---- a start

-- The drivers, the registrations for their events, and the handle that drivers are started on.
pub record Site : Type 0 where
  pub drivers : List Meaning
  pub registrations : List Registration
  pub controller : ℕ

abbrev pub site : List Meaning → List Registration → ℕ → Site
site ds rs n = record { drivers = ds; registrations = rs; controller = n }

-- the same of drivers with their meanings
abbrev pub site_of : {D : Type 0} → (D → Meaning) → List D → List Registration → ℕ → Site
site_of meaning drivers rs n = site (map meaning drivers) rs n

-- The handles, the open items and the events signaled, as far as a connect has come.
pub record Progress : Type 0 where
  pub handles : HandleTable
  pub opens : List OpenRecord
  pub events : List ℕ

-- the protocols on a handle, as far as a connect has come
abbrev pub protocols_at : Progress → ℕ → List ProtocolView
protocols_at p n = protocols_on p.handles p.opens n

abbrev pub has_guid : List (List ℕ) → List ℕ → Bool
has_guid guids guid = list_any (same_guid guid) guids

abbrev pub has_twice : List (List ℕ) → Bool
has_twice [] = false
has_twice (g ∷ gs) = has_guid gs g || has_twice gs

-- a child has interfaces, of different GUIDs
abbrev pub is_child : List (List ℕ × ℕ) → Bool
is_child pairs = not (length pairs == 0) && not (has_guid_twice pairs)

-- A plan can be carried out: it opens some GUIDs, each once, that are on the handle and not held,
-- and there may be its children.
abbrev pub can_start : HandleTable → List ProtocolView → Plan → Bool
can_start t protocols plan =
    not (length plan.opens == 0)
    && (not (has_twice plan.opens)
    && (list_all (is_free protocols) plan.opens
    && (list_all is_child plan.children
    && nat_le (length t.handles + length plan.children) max_handles)))

-- an item of BY_DRIVER for each GUID, in order
abbrev pub with_driver_items : ℕ → ℕ → List (List ℕ) → List OpenRecord → List OpenRecord
with_driver_items controller agent [] opens = opens
with_driver_items controller agent (g ∷ gs) opens =
    with_driver_items controller agent gs (with_item controller g agent controller 0x10 opens)

-- a new handle of a maker, with interfaces
abbrev pub with_child : Pair → List (List ℕ × ℕ) → HandleTable → HandleTable
with_child maker pairs t = with_interfaces (t.last_number + 1) pairs (with_handle (Some maker) t)

-- a new handle of a maker for each child, in order
abbrev pub with_children : Pair → List (List (List ℕ × ℕ)) → HandleTable → HandleTable
with_children maker [] t = t
with_children maker (pairs ∷ children) t = with_children maker children (with_child maker pairs t)

-- the events signaled for a child's interfaces, in order
abbrev pub events_of : List Registration → List (List ℕ × ℕ) → List ℕ
events_of rs [] = []
events_of rs (p ∷ pairs) = events_for rs p.0 ++ events_of rs pairs

-- the events signaled for the interfaces of children, in order
abbrev pub events_of_all : List Registration → List (List (List ℕ × ℕ)) → List ℕ
events_of_all rs [] = []
events_of_all rs (pairs ∷ children) = events_of rs pairs ++ events_of_all rs children

-- a plan for a controller and an agent, carried out whole
abbrev pub carried_out : List Registration → ℕ → ℕ → Plan → Progress → Progress
carried_out rs controller agent plan p = record {
  handles = with_children (record { controller = controller; agent = agent }) plan.children
      p.handles;
  opens = with_driver_items controller agent plan.opens p.opens;
  events = p.events ++ events_of_all rs plan.children;
}

-- what a driver is shown at its turn
abbrev pub view_at : Site → Progress → Agent → ViewValue
view_at c p a = view_of p.handles p.opens a.handle c.controller

abbrev pub is_supported : Site → Progress → Agent → Bool
is_supported c p a = supports_at c.drivers a.driver (view_at c p a)

abbrev pub plan_for : Site → Progress → Agent → Plan
plan_for c p a = plan_at c.drivers a.driver (view_at c p a)

abbrev pub is_carried_out : Site → Progress → Agent → Bool
is_carried_out c p a =
    can_start p.handles (protocols_on p.handles p.opens c.controller) (plan_for c p a)

-- By a start either the driver's whole plan is carried out, or nothing.
abbrev pub started : Site → Progress → Agent → Progress
started c p a =
    cond (is_carried_out c p a)
    (carried_out c.registrations c.controller a.handle (plan_for c p a) p) p

-- what comes of an agent's turn: nothing, or a start that is carried out or not
abbrev pub turn : Site → Progress → Agent → Option Bool
turn c p a = cond (is_supported c p a) (Some (is_carried_out c p a)) None

abbrev pub after_turn : Site → Progress → Agent → Progress
after_turn c p a = cond (is_supported c p a) (started c p a) p

-- a turn changes something
abbrev pub is_change : Option Bool → Bool
is_change None = false
is_change (Some b) = b

-- ---- passes

-- The starts made, the drivers that are left, and how far the connect has come.
pub record Passed : Type 0 where
  pub starts : List Start
  pub left : List Agent
  pub progress : Progress

-- an agent that was started, by its turn
abbrev pub starts_of : Agent → Option Bool → List Start
starts_of a None = []
starts_of a (Some b) = record { agent = a.handle; is_carried_out = b } ∷ []

-- an agent that was not started, by its turn
abbrev pub left_of : Agent → Option Bool → List Agent
left_of a None = a ∷ []
left_of a (Some b) = []

-- starts and agents that are left come before those of what follows
abbrev pub joined : List Start → List Agent → Passed → Passed
joined starts left r =
    record { starts = starts ++ r.starts; left = left ++ r.left; progress = r.progress }

-- In a pass each driver in turn that is supported is started. The others are left.
abbrev pub pass : Site → List Agent → Progress → Passed
pass c [] p = record { starts = []; left = []; progress = p }
pass c (a ∷ agents) p =
    joined (starts_of a (turn c p a)) (left_of a (turn c p a)) (pass c agents (after_turn c p a))

-- Passes over those that are left, up to one that starts none, at most a number of them.
abbrev pub passes : ℕ → Site → List Agent → Progress → Passed
passes zero c agents p = record { starts = []; left = agents; progress = p }
passes (suc k) c agents p =
    cond (length (pass c agents p).starts == 0) (pass c agents p)
    (joined (pass c agents p).starts []
    (passes k c (pass c agents p).left (pass c agents p).progress))

-- Passes over some drivers. Each is started once at most, so there are enough of them.
abbrev pub all_passes : Site → List Agent → Progress → Passed
all_passes c agents p = passes (length agents) c agents p

-- The starts on a handle. Each driver is started once at most, so there are enough passes.
abbrev pub starts_on : Site → List ℕ → Progress → Passed
starts_on c named p =
    passes (length (agents_for c.drivers p.handles named)) c
    (agents_for c.drivers p.handles named) p

-- a start on the handle is carried out
abbrev pub is_any_carried_out : List Start → Bool
is_any_carried_out starts = list_any (λ s. s.is_carried_out) starts
