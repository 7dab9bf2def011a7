-- The handle table, and what is asked of it.
use Rattle.std.specs.Prelude.{ℕ, ◌==◌, ◌&&◌, nat_eq, nat_lt, Bool, cond, List, [], ◌∷◌, map, Option, Some, None, is_some}
use lib.Pointwise.{pointwise}
use Rattle.std.specs.List.{filter, find}
use Rattle.std.specs.Option.{option_map, option_and_then}
use Rattle.guid_handles.specs.declared.records.LiveHandle.{LiveHandle}
use Rattle.guid_handles.specs.declared.records.Interface.{Interface}
use Rattle.guid_handles.specs.declared.records.Pair.{Pair}

-- The live handles by ascending number, the interfaces in order of installation, the last number
-- and the last stamp given.
pub record HandleTable : Type 0 where
  pub handles : List LiveHandle
  pub interfaces : List Interface
  pub last_number : ℕ
  pub last_stamp : ℕ

-- two GUIDs are the same, byte for byte
abbrev pub same_guid : List ℕ → List ℕ → Bool
same_guid a b = pointwise nat_eq a b

abbrev pub has_number : ℕ → LiveHandle → Bool
has_number n h = h.number == n

abbrev pub is_on : ℕ → Interface → Bool
is_on n i = i.handle == n

-- an interface is of a GUID
abbrev pub is_of : List ℕ → Interface → Bool
is_of guid i = same_guid i.guid guid

-- an interface is on a handle and of a GUID
abbrev pub is_at : ℕ → List ℕ → Interface → Bool
is_at n guid i = is_on n i && is_of guid i

abbrev pub numbers : HandleTable → List ℕ
numbers t = map (λ h. h.number) t.handles

abbrev pub is_live : HandleTable → ℕ → Bool
is_live t n = is_some (find (has_number n) t.handles)

-- the maker of a handle, if it is live and has one
abbrev pub maker_of : HandleTable → ℕ → Option Pair
maker_of t n = option_and_then (λ h. h.maker) (find (has_number n) t.handles)

-- the interface of a GUID on a handle
abbrev pub interface_at : HandleTable → ℕ → List ℕ → Option Interface
interface_at t n guid = find (is_at n guid) t.interfaces

abbrev pub value_at : HandleTable → ℕ → List ℕ → Option ℕ
value_at t n guid = option_map (λ i. i.value) (interface_at t n guid)

-- a handle carries a GUID
abbrev pub carries : HandleTable → List ℕ → ℕ → Bool
carries t guid n = is_some (interface_at t n guid)

-- the handles that carry a GUID, ascending
abbrev pub holders_of : HandleTable → List ℕ → List ℕ
holders_of t guid = filter (carries t guid) (numbers t)

-- the interfaces on a handle, in order of installation
abbrev pub interfaces_on : HandleTable → ℕ → List Interface
interfaces_on t n = filter (is_on n) t.interfaces

-- the GUIDs on a handle, in order of installation
abbrev pub guids_on : HandleTable → ℕ → List (List ℕ)
guids_on t n = map (λ i. i.guid) (filter (is_on n) t.interfaces)

-- some items over the front of others, as many as fit
abbrev pub written_over : {X : Type 0} → List X → List X → List X
written_over [] out = out
written_over (x ∷ xs) [] = []
written_over (x ∷ xs) (y ∷ out) = x ∷ written_over xs out

-- ---- the next interface by stamps

abbrev pub earlier_of : Interface → Option Interface → Option Interface
earlier_of i None = Some i
earlier_of i (Some j) = cond (nat_lt j.stamp i.stamp) (Some j) (Some i)

-- the interface with the least stamp
abbrev pub earliest : List Interface → Option Interface
earliest [] = None
earliest (i ∷ is) = earlier_of i (earliest is)

-- an interface is of a GUID and has a stamp above a mark
abbrev pub is_after : List ℕ → ℕ → Interface → Bool
is_after guid mark i = is_of guid i && nat_lt mark i.stamp

-- the handle and the stamp of the interface of a GUID with the least stamp above a mark
abbrev pub next_after : HandleTable → List ℕ → ℕ → Option (ℕ × ℕ)
next_after t guid mark =
    option_map (λ i. (i.handle, i.stamp)) (earliest (filter (is_after guid mark) t.interfaces))
