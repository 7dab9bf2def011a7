-- What single steps do to the handle table, and what they return.
use Rattle.std.specs.Prelude.{◌≡◌, ℕ, ◌+◌, ◌-◌, ◌<◌, ◌≤◌, ◌==◌, nat_le, not, map, List, [], ◌∷◌, Option, Result}
use Rattle.std.specs.List.{filter, AllByRecursion}
use Rattle.page_ranges.specs.declared.statuses.Status.{Status}
use Rattle.guid_handles.specs.declared.records.Interface.{Interface}
use Rattle.guid_handles.specs.declared.records.Pair.{Pair}
use Rattle.guid_handles.specs.HandleTables.{HandleTable, is_at, numbers}
use Rattle.guid_handles.specs.HandleChanges.{Installs, install_refusal, install_many_refusal, restamped, with_handle, with_interfaces, without_handle}

-- ---- a handle that comes or goes

-- A handle is made, with the number after the last, and has no interface yet.
abbrev pub MakesHandle : Option Pair → HandleTable → ℕ → HandleTable → Type 0
MakesHandle maker t n new = (n ≡ t.last_number + 1) × (new ≡ with_handle maker t)

-- A handle is made, with the number after the last, and the pairs are installed on it.
abbrev pub MakesHandleWith : Option Pair → List (List ℕ × ℕ) → HandleTable → ℕ → HandleTable
    → Type 0
MakesHandleWith maker pairs t n new =
    (n ≡ t.last_number + 1) × (new ≡ with_interfaces n pairs (with_handle maker t))

-- all handles but the last have numbers below its own
abbrev pub AreOthersLower : HandleTable → Type 0
AreOthersLower t =
    AllByRecursion (λ n. n < t.last_number) (filter (λ n. not (n == t.last_number)) (numbers t))

-- the last handle goes, and its number is free again
abbrev pub without_last_handle : HandleTable → HandleTable
without_last_handle t =
    record (without_handle t.last_number t) { last_number = t.last_number - 1 }

-- ---- handles that are taken back

-- the handles above a number go, with the interfaces on them
abbrev pub without_above : ℕ → HandleTable → HandleTable
without_above n t = record t {
  handles = filter (λ h. nat_le h.number n) t.handles;
  interfaces = filter (λ i. nat_le i.handle n) t.interfaces;
}

-- they go, and that number and a stamp are again the last that were given
abbrev pub taken_back_to : ℕ → ℕ → HandleTable → HandleTable
taken_back_to n stamp t = record (without_above n t) { last_number = n; last_stamp = stamp }

-- the interfaces on the handles up to a number have no stamp above one
abbrev pub AreOlder : ℕ → ℕ → HandleTable → Type 0
AreOlder n stamp t = AllByRecursion (λ i. i.stamp ≤ stamp) (without_above n t).interfaces

-- ---- an interface that comes or goes

-- What the installation of one interface returns, and the table after it.
abbrev pub InstallsOne : HandleTable → ℕ → List ℕ → ℕ → ℕ → Result ℕ Status → HandleTable → Type 0
InstallsOne t handle guid kind value result new =
    Installs t handle ((guid, value) ∷ []) (install_refusal t handle guid kind) result new

-- What the installation of several interfaces returns, and the table after it.
abbrev pub InstallsMany : HandleTable → ℕ → List (List ℕ × ℕ) → Result ℕ Status → HandleTable
    → Type 0
InstallsMany t handle pairs result new =
    Installs t handle pairs (install_many_refusal t handle pairs) result new

-- the interfaces but that of a GUID on a handle
abbrev pub interfaces_but : ℕ → List ℕ → HandleTable → List Interface
interfaces_but n guid t = filter (λ i. not (is_at n guid i)) t.interfaces

-- the interface of a GUID on a handle goes, and the handle stays
abbrev pub taken_out : ℕ → List ℕ → HandleTable → HandleTable
taken_out n guid t = record t { interfaces = interfaces_but n guid t }

-- the interface of a GUID on a handle goes with its stamp, which was the last
abbrev pub taken_back : ℕ → List ℕ → HandleTable → HandleTable
taken_back n guid t = record t {
  interfaces = interfaces_but n guid t;
  last_stamp = t.last_stamp - 1;
}

-- all interfaces but that of a GUID on a handle have stamps below the last
abbrev pub AreOthersOlder : ℕ → List ℕ → HandleTable → Type 0
AreOthersOlder n guid t = AllByRecursion (λ i. i.stamp < t.last_stamp) (interfaces_but n guid t)

-- ---- an interface that changes

-- the interface of a GUID on a handle has a value and a stamp, in its place, and a stamp is the last
abbrev pub rewritten : ℕ → List ℕ → ℕ → ℕ → ℕ → HandleTable → HandleTable
rewritten n guid value stamp last t = record t {
  interfaces = map (restamped n guid value stamp) t.interfaces;
  last_stamp = last;
}
