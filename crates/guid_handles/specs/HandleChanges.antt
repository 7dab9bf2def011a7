-- What changes the handle table, and when that is refused.
use Rattle.std.specs.Prelude.{◌≡◌, ℕ, ◌+◌, ◌<◌, ◌≤◌, ◌==◌, ◌&&◌, ◌||◌, nat_lt, Bool, false, cond, not, List, [], ◌∷◌, ◌++◌, map, length, Option, Some, None, Result, Ok, Err}
use Rattle.std.specs.List.{filter, list_any, AllByRecursion}
use Rattle.page_ranges.specs.declared.statuses.Status.{Status}
use Rattle.page_ranges.specs.declared.statuses.Status.TheVariants.{InvalidParameter, OutOfResources}
use Rattle.guid_handles.specs.declared.records.Interface.{Interface}
use Rattle.guid_handles.specs.declared.records.Pair.{Pair}
use Rattle.guid_handles.specs.HandleTables.{HandleTable, numbers, same_guid, has_number, is_on, is_at, is_live, carries}
use Rattle.guid_handles.specs.Sorting.{Ascending}
use Rattle.guid_handles.specs.Indexes.{AreOn}

-- the most handles that may be live
abbrev pub max_handles : ℕ
max_handles = 4096

-- the most interfaces that one call may install
abbrev pub max_installed : ℕ
max_installed = 16

-- before any call there are no handles
abbrev pub no_handles : HandleTable
no_handles = record { handles = []; interfaces = []; last_number = 0; last_stamp = 0 }

-- What is true of every handle table: the numbers ascend, from 1 to the last that was given, and
-- each interface is on a live handle. There are no more handles than may be live.
pub record IsHandleTable (t : HandleTable) : Type 0 where
  pub ascending : Ascending (λ a b. a < b) (numbers t)
  pub given : AllByRecursion (λ n. (0 < n) × (n ≤ t.last_number)) (numbers t)
  pub limit : length t.handles ≤ max_handles
  pub on_live : AreOn (numbers t) t.interfaces

-- ---- handles and interfaces that come

-- pairs of GUID and value as interfaces on a handle, with the stamps after a stamp
abbrev pub stamped : ℕ → ℕ → List (List ℕ × ℕ) → List Interface
stamped n stamp [] = []
stamped n stamp (p ∷ ps) =
    record { handle = n; guid = p.0; value = p.1; stamp = stamp + 1 } ∷ stamped n (stamp + 1) ps

abbrev pub with_interfaces : ℕ → List (List ℕ × ℕ) → HandleTable → HandleTable
with_interfaces n pairs t = record t {
  interfaces = t.interfaces ++ stamped n t.last_stamp pairs;
  last_stamp = t.last_stamp + length pairs;
}

-- a new handle has the number after the last
abbrev pub with_handle : Option Pair → HandleTable → HandleTable
with_handle maker t = record t {
  handles = t.handles ++ record { number = t.last_number + 1; maker = maker } ∷ [];
  last_number = t.last_number + 1;
}

-- handle 0 asks for a new handle, which has no maker
abbrev pub handle_for : HandleTable → ℕ → ℕ
handle_for t handle = cond (handle == 0) (t.last_number + 1) handle

abbrev pub installed : ℕ → List (List ℕ × ℕ) → HandleTable → HandleTable
installed handle pairs t =
    with_interfaces (handle_for t handle) pairs (cond (handle == 0) (with_handle None t) t)

-- ---- refusals

-- a handle that is neither 0 nor live
abbrev pub is_dead : HandleTable → ℕ → Bool
is_dead t handle = not (handle == 0) && not (is_live t handle)

-- a GUID is on the handle that the call names
abbrev pub is_taken : HandleTable → ℕ → List ℕ → Bool
is_taken t handle guid = not (handle == 0) && carries t guid handle

abbrev pub has_guid_twice : List (List ℕ × ℕ) → Bool
has_guid_twice [] = false
has_guid_twice (p ∷ ps) = list_any (λ q. same_guid p.0 q.0) ps || has_guid_twice ps

-- a new handle would be one too many
abbrev pub past_limit : HandleTable → ℕ → Bool
past_limit t handle = (handle == 0) && not (nat_lt (length t.handles) max_handles)

abbrev pub refusal : Bool → Bool → Option Status
refusal invalid full = cond invalid (Some InvalidParameter) (cond full (Some OutOfResources) None)

abbrev pub install_refusal : HandleTable → ℕ → List ℕ → ℕ → Option Status
install_refusal t handle guid kind =
    refusal (not (kind == 0) || (is_dead t handle || is_taken t handle guid)) (past_limit t handle)

abbrev pub install_many_refusal : HandleTable → ℕ → List (List ℕ × ℕ) → Option Status
install_many_refusal t handle pairs =
    refusal
    ((length pairs == 0) || (nat_lt max_installed (length pairs) || (is_dead t handle
    || (has_guid_twice pairs || list_any (λ p. is_taken t handle p.0) pairs))))
    (past_limit t handle)

-- What an installation returns, given its refusal, and the table after it: all pairs are installed
-- and the handle is returned, or the table stays. Where nothing is refused, OUT_OF_RESOURCES means
-- out of memory.
abbrev pub Installs : HandleTable → ℕ → List (List ℕ × ℕ) → Option Status → Result ℕ Status
    → HandleTable → Type 0
Installs t handle pairs None (Ok n) new =
    (n ≡ handle_for t handle) × (new ≡ installed handle pairs t)
Installs t handle pairs None (Err e) new = (e ≡ OutOfResources) × (new ≡ t)
Installs t handle pairs (Some s) (Ok n) new = ⊥
Installs t handle pairs (Some s) (Err e) new = (e ≡ s) × (new ≡ t)

-- ---- handles and interfaces that change or go

abbrev pub without_handle : ℕ → HandleTable → HandleTable
without_handle n t = record t {
  handles = filter (λ h. not (has_number n h)) t.handles;
  interfaces = filter (λ i. not (is_on n i)) t.interfaces;
}

-- a handle without interfaces goes
abbrev pub unless_bare : ℕ → HandleTable → HandleTable
unless_bare n t = cond (list_any (is_on n) t.interfaces) t (without_handle n t)

abbrev pub without_interface : ℕ → List ℕ → HandleTable → HandleTable
without_interface n guid t =
    unless_bare n (record t { interfaces = filter (λ i. not (is_at n guid i)) t.interfaces })

abbrev pub restamped : ℕ → List ℕ → ℕ → ℕ → Interface → Interface
restamped n guid value stamp i = cond (is_at n guid i) (record i { value = value; stamp = stamp }) i

-- the interface keeps its place, and takes a value and the stamp after the last
abbrev pub with_value : ℕ → List ℕ → ℕ → HandleTable → HandleTable
with_value n guid value t = record t {
  interfaces = map (restamped n guid value (t.last_stamp + 1)) t.interfaces;
  last_stamp = t.last_stamp + 1;
}
