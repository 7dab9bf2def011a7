-- What OpenProtocol and HandleProtocol give the caller's variable beside the interface that they
-- return.
use Rattle.std.specs.Prelude.{◌≡◌, ℕ, ◌==◌, not, Bool, true, cond, List, Option, None}
use Rattle.page_ranges.specs.Statuses.{status_number}
use Rattle.page_ranges.specs.declared.statuses.Status.{Status}
use Rattle.page_ranges.specs.declared.statuses.Status.TheVariants.{AlreadyStarted, Unsupported}
use Rattle.guid_handles.specs.HandleTables.{HandleTable, value_at}
use Rattle.boot_calls.specs.declared.calls.Call.{Call}
use Rattle.boot_calls.specs.declared.calls.Call.TheVariants as call
use Rattle.boot_replies.specs.declared.replies.Reply.{Reply}
use Rattle.c_machines.specs.declared.guids.Guid.{Guid}
use Rattle.c_machines.specs.Guids.{guid_in}
use Rattle.c_interface.specs.EfiCores.{EfiCoreValue}
use Rattle.c_interface.specs.Items.{value_on}
use Rattle.c_interface.specs.Replies.{number_in, returned_or, status_in}
use Rattle.c_interface.specs.Served.{Answers, aborted}

-- the attributes with which OpenProtocol leaves the caller's variable: TEST_PROTOCOL
abbrev pub test_protocol : ℕ
test_protocol = 4

-- whether a call gives the caller's variable an interface
abbrev pub is_giving : {A : Type 0} → Call A → Bool
is_giving (call.OpenProtocol handle guid agent controller attributes) =
    not (attributes == test_protocol)
is_giving c = true

-- the value of the interface that a call opens
abbrev pub named_value : {A : Type 0} → HandleTable → Call A → Option ℕ
named_value t (call.OpenProtocol handle guid agent controller attributes) = value_at t handle guid
named_value t (call.HandleProtocol handle guid) = value_at t handle guid
named_value t c = None

-- By its status: ALREADY_STARTED gives the interface that is open already, UNSUPPORTED null, and
-- any other what was returned.
abbrev pub given_by : Status → Option ℕ → ℕ → ℕ
given_by AlreadyStarted value returned = returned_or returned value
given_by Unsupported value returned = 0
given_by status value returned = returned

-- what a call that opens an interface leaves in the caller's variable
abbrev pub given : {A : Type 0} → Call A → Option ℕ → ℕ → Reply A → ℕ
given c value before answer =
    cond (is_giving c)
    (given_by (status_in answer) value (returned_or before (number_in answer))) before

-- a call that opens an interface through C
abbrev pub AnswersOpen : {A : Type 0} → EfiCoreValue A → Call A → ℕ → ℕ → ℕ → EfiCoreValue A
    → Type 0
AnswersOpen old c before status after new =
    Answers old c status
    (λ answer. after
    ≡ given c (named_value new.core.state.parts.lists.handles c) before answer)
    (after ≡ before) new

-- HandleProtocol: the handle, the GUID, and the caller's variable for the interface's value
abbrev pub HandlesGiving : {A : Type 0} → EfiCoreValue A → ℕ → Guid → ℕ → ℕ → ℕ → EfiCoreValue A
    → Type 0
HandlesGiving old handle guid value status new_value new =
    AnswersOpen old (call.HandleProtocol handle (guid_in guid)) value status new_value new

-- OpenProtocol: the handle, the GUID, the agent, the controller, the attributes, and the caller's
-- variable for the interface's value
abbrev pub OpensGiving : {A : Type 0} → EfiCoreValue A → ℕ → Guid → ℕ → ℕ → ℕ → ℕ → ℕ → ℕ
    → EfiCoreValue A → Type 0
OpensGiving old handle guid agent controller attributes value status new_value new =
    AnswersOpen old (call.OpenProtocol handle (guid_in guid) agent controller attributes) value
    status new_value new

-- What is given by the number of a status: what the status gives, and what was there where no call
-- could be made.
abbrev pub GivesByNumber : {A : Type 0} → EfiCoreValue A → ℕ → List ℕ → ℕ → ℕ → ℕ → Type 0
GivesByNumber c handle guid returned status result =
    ((s : Status) → status ≡ status_number s
    → result ≡ given_by s (value_on c handle guid) returned)
    × (status ≡ aborted → result ≡ returned)
