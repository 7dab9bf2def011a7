-- What a driver is shown of a handle, and what it answers.
use Rattle.std.specs.Prelude.{ℕ, ◌≤◌, ◌&&◌, nat_lt, Bool, false, not, List, [], ◌∷◌, map, length, Option, Some, None}
use Rattle.std.specs.List.{filter, list_all, list_any, slice_get, AllByRecursion}
use Rattle.std.specs.Option.{option_map}
use Rattle.guid_handles.specs.declared.records.Interface.{Interface}
use Rattle.guid_handles.specs.HandleTables.{HandleTable, same_guid, is_on, value_at}
use Rattle.guid_handles.specs.Sorting.{kept_if}
use Rattle.open_agents.specs.declared.items.OpenRecord.{OpenRecord}
use Rattle.open_agents.specs.OpenRule.{has_holder}
use Rattle.driver_connect.specs.declared.view.ProtocolView.{ProtocolView}
use Rattle.driver_connect.specs.declared.agents.Agent.{Agent}

-- what a driver is shown of a controller: the protocols on it, in order of installation
pub record ViewValue : Type 0 where
  pub agent : ℕ
  pub controller : ℕ
  pub protocols : List ProtocolView

-- what a start does: the GUIDs that it opens, and the interfaces on each child that it makes
pub record Plan : Type 0 where
  pub opens : List (List ℕ)
  pub children : List (List (List ℕ × ℕ))

-- what a driver answers to each view
pub record Meaning : Type 0 where
  pub version : ℕ
  pub supports : ViewValue → Bool
  pub plan : ViewValue → Plan
  pub may_stop : ViewValue → Bool

-- each child of a plan has at most four interfaces, as a `StartPlan` has room for
abbrev pub IsShortPlan : Plan → Type 0
IsShortPlan plan = AllByRecursion (λ pairs. length pairs ≤ 4) plan.children

-- each plan of the driver is one that a `StartPlan` has room for
abbrev pub HasShortPlans : Meaning → Type 0
HasShortPlans m = (s : ViewValue) → IsShortPlan (m.plan s)

-- ---- what is shown

-- an interface; it is held if it is open for a driver or exclusively
abbrev pub protocol_view : List OpenRecord → Interface → ProtocolView
protocol_view opens i =
    record { guid = i.guid; value = i.value; held = has_holder opens i.handle i.guid }

-- the protocols on a handle, in order of installation
abbrev pub protocols_on : HandleTable → List OpenRecord → ℕ → List ProtocolView
protocols_on t opens n = map (protocol_view opens) (filter (is_on n) t.interfaces)

abbrev pub view_of : HandleTable → List OpenRecord → ℕ → ℕ → ViewValue
view_of t opens agent controller =
    record { agent = agent; controller = controller; protocols = protocols_on t opens controller }

-- a GUID is there, and not held
abbrev pub is_free : List ProtocolView → List ℕ → Bool
is_free protocols guid = list_any (λ v. same_guid v.guid guid && not v.held) protocols

-- what a driver of a table answers: it is supported where each GUID that it needs is there and not
-- held, and its plan and whether it may be stopped are always the same
abbrev pub fixed_meaning : ℕ → List (List ℕ) → Plan → Bool → Meaning
fixed_meaning version needs plan stops =
    record {
      version = version;
      supports = λ s. list_all
          (is_free s.protocols) needs;
      plan = λ s. plan;
      may_stop = λ s. stops;
    }

-- ---- driver handles

-- the GUID of the driver binding protocol
abbrev pub driver_binding : List ℕ
driver_binding =
    0x18 ∷ 0xa0 ∷ 0x31 ∷ 0xab ∷ 0xb4 ∷ 0x43 ∷ 0x4d ∷ 0x1a ∷ 0xa5 ∷ 0xc0 ∷ 0x0c ∷ 0x09 ∷ 0x26 ∷ 0x1e
    ∷ 0x9f ∷ 0x71 ∷ []

-- A driver handle carries the driver binding protocol with a value below the number of drivers. The
-- value is the driver's place.
abbrev pub driver_of : List Meaning → HandleTable → ℕ → Option ℕ
driver_of ds t n = kept_if (λ v. nat_lt v (length ds)) (value_at t n driver_binding)

-- ---- what the driver at a place answers

abbrev pub version_if : Option Meaning → ℕ
version_if None = 0
version_if (Some m) = m.version

abbrev pub supports_if : Option Meaning → ViewValue → Bool
supports_if None s = false
supports_if (Some m) s = m.supports s

abbrev pub may_stop_if : Option Meaning → ViewValue → Bool
may_stop_if None s = false
may_stop_if (Some m) s = m.may_stop s

abbrev pub no_plan : Plan
no_plan = record { opens = []; children = [] }

abbrev pub plan_if : Option Meaning → ViewValue → Plan
plan_if None s = no_plan
plan_if (Some m) s = m.plan s

abbrev pub version_at : List Meaning → ℕ → ℕ
version_at ds i = version_if (slice_get ds i)

abbrev pub supports_at : List Meaning → ℕ → ViewValue → Bool
supports_at ds i s = supports_if (slice_get ds i) s

abbrev pub may_stop_at : List Meaning → ℕ → ViewValue → Bool
may_stop_at ds i s = may_stop_if (slice_get ds i) s

abbrev pub plan_at : List Meaning → ℕ → ViewValue → Plan
plan_at ds i s = plan_if (slice_get ds i) s

-- a driver handle with its driver's place and version
abbrev pub agent_of : List Meaning → HandleTable → ℕ → Option Agent
agent_of ds t n =
    option_map (λ i. record { handle = n; driver = i; version = version_at ds i })
    (driver_of ds t n)
