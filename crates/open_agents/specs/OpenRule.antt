-- The open rule: what is decided about a call of OpenProtocol, up to the stop of a driver.
use Rattle.std.specs.Prelude.{ℕ, ◌==◌, ◌&&◌, ◌||◌, not, Bool, cond, List, [], ◌∷◌, Option, Some, None}
use Rattle.std.specs.List.{find, list_any}
use Rattle.page_ranges.specs.declared.statuses.Status.TheVariants.{InvalidParameter, Unsupported, AlreadyStarted, AccessDenied}
use Rattle.guid_handles.specs.HandleTables.{HandleTable, is_live, carries}
use Rattle.guid_handles.specs.HandleChanges.{is_dead}
use Rattle.open_agents.specs.declared.items.OpenRecord.{OpenRecord}
use Rattle.open_agents.specs.declared.items.Decision.{Decision}
use Rattle.open_agents.specs.declared.items.Decision.TheVariants.{Refuse, Count, Add, StopFirst}
use Rattle.open_agents.specs.OpenItems.{is_for_driver, is_exclusive, is_open_on, is_equal_item, is_open_with, is_holding, manager_of}

-- ---- attributes

-- one of the seven attributes that OpenProtocol knows
abbrev pub is_known : ℕ → Bool
is_known a =
    (a == 0x1)
    || ((a == 0x2) || ((a == 0x4) || ((a == 0x8) || ((a == 0x10) || ((a == 0x20) || (a == 0x30))))))

abbrev pub needs_controller : ℕ → Bool
needs_controller a = (a == 0x8) || is_for_driver a

abbrev pub needs_agent : ℕ → Bool
needs_agent a = (a == 0x20) || needs_controller a

-- ---- the call

-- The handle is dead, an agent or a controller is missing or dead, or a child's controller is the
-- handle itself.
abbrev pub names_badly : HandleTable → ℕ → ℕ → ℕ → ℕ → Bool
names_badly t handle agent controller a =
    not (is_live t handle)
    || (((agent == 0) && needs_agent a)
    || (((controller == 0) && needs_controller a)
    || (is_dead t agent || (is_dead t controller || ((a == 0x8) && (controller == handle))))))

-- ---- the items of the interface

abbrev pub has_equal : List OpenRecord → ℕ → List ℕ → ℕ → ℕ → ℕ → Bool
has_equal opens n guid agent controller a = list_any (is_equal_item n guid agent controller a) opens

-- an item of an agent, with some attributes
abbrev pub has_of_agent : List OpenRecord → ℕ → List ℕ → ℕ → ℕ → Bool
has_of_agent opens n guid agent a = list_any (is_open_with n guid agent a) opens

-- an item for a driver or an exclusive one
abbrev pub has_holder : List OpenRecord → ℕ → List ℕ → Bool
has_holder opens n guid = list_any (is_holding n guid) opens

abbrev pub has_exclusive : List OpenRecord → ℕ → List ℕ → Bool
has_exclusive opens n guid = list_any (λ o. is_open_on n guid o && is_exclusive o.attributes) opens

-- an item for a driver that is not exclusive
abbrev pub is_driver_item : ℕ → List ℕ → OpenRecord → Bool
is_driver_item n guid o = is_open_on n guid o && (o.attributes == 0x10)

abbrev pub driver_item : List OpenRecord → ℕ → List ℕ → Option OpenRecord
driver_item opens n guid = find (is_driver_item n guid) opens

-- ---- the table

-- the decision of the first line of a table that applies, or else the last one
abbrev pub first_line : List (Bool × Decision) → Decision → Decision
first_line [] last = last
first_line (l ∷ ls) last = cond l.0 l.1 (first_line ls last)

-- an exclusive open stops the manager that has the interface open
abbrev pub add_or_stop : Bool → Option OpenRecord → Decision
add_or_stop exclusive None = Add
add_or_stop exclusive (Some o) = cond exclusive (StopFirst (manager_of o)) Add

-- The first line that applies decides.
abbrev pub open_rule : HandleTable → List OpenRecord → ℕ → List ℕ → ℕ → ℕ → ℕ → Decision
open_rule t opens handle guid agent controller a =
    first_line
    ((not (is_known a), Refuse InvalidParameter)
    ∷ (names_badly t handle agent controller a, Refuse InvalidParameter)
    ∷ (not (carries t guid handle), Refuse Unsupported)
    ∷ (has_equal opens handle guid agent controller a && is_for_driver a, Refuse AlreadyStarted)
    ∷ (has_equal opens handle guid agent controller a && (a == 0x20), Refuse AccessDenied)
    ∷ (has_equal opens handle guid agent controller a, Count)
    ∷ (is_for_driver a && has_of_agent opens handle guid agent a, Refuse AlreadyStarted)
    ∷ ((a == 0x10) && has_holder opens handle guid, Refuse AccessDenied)
    ∷ (is_exclusive a && has_exclusive opens handle guid, Refuse AccessDenied)
    ∷ [])
    (add_or_stop (is_exclusive a) (driver_item opens handle guid))
