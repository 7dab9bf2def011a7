-- Registrations for GUIDs, and which handle is next for each.
use Rattle.std.specs.Prelude.{◌≡◌, ℕ, suc, ◌+◌, ◌==◌, Bool, cond, List, [], ◌∷◌, ◌++◌, map, length, Option, Some, None}
use Rattle.std.specs.List.{filter, find}
use Rattle.std.specs.Option.{option_map, option_and_then}
use Rattle.guid_handles.specs.HandleTables.{HandleTable, same_guid, next_after}
use Rattle.protocol_notify.specs.declared.notify.Registration.{Registration}

abbrev pub has_key : ℕ → Registration → Bool
has_key key r = r.key == key

abbrev pub is_for : List ℕ → Registration → Bool
is_for guid r = same_guid r.guid guid

abbrev pub registration_of : List Registration → ℕ → Option Registration
registration_of rs key = find (has_key key) rs

-- registrations whose keys count up from a number
abbrev pub AreKeyedFrom : ℕ → List Registration → Type 0
AreKeyedFrom n [] = Unit {0}
AreKeyedFrom n (r ∷ rs) = (r.key ≡ n) × AreKeyedFrom (suc n) rs

-- the events of the registrations for a GUID, by ascending key
abbrev pub events_for : List Registration → List ℕ → List ℕ
events_for rs guid = map (λ r. r.event) (filter (is_for guid) rs)

-- Keys count up from 1, and nothing that was installed before is waited for.
abbrev pub with_registration : HandleTable → List ℕ → ℕ → List Registration → List Registration
with_registration t guid event rs =
    rs ++ record { key = length rs + 1; guid = guid; event = event; mark = t.last_stamp } ∷ []

-- the handle and the stamp of the interface that is next for a registration: of those of its GUID
-- the one with the least stamp above its mark
abbrev pub next_of : HandleTable → Registration → Option (ℕ × ℕ)
next_of t r = next_after t r.guid r.mark

abbrev pub next_for : HandleTable → List Registration → ℕ → Option (ℕ × ℕ)
next_for t rs key = option_and_then (next_of t) (registration_of rs key)

abbrev pub next_handle : HandleTable → List Registration → ℕ → Option ℕ
next_handle t rs key = option_map (λ n. n.0) (next_for t rs key)

-- a registration whose mark is the stamp of what was next for it, if anything was
abbrev pub marked : Option (ℕ × ℕ) → Registration → Registration
marked None r = r
marked (Some n) r = record r { mark = n.1 }

-- the registration of a key, whose mark is now the stamp of what was next for it
abbrev pub taken : HandleTable → ℕ → Registration → Registration
taken t key r = cond (has_key key r) (marked (next_of t r) r) r

-- the registration of a key, marked with a stamp
abbrev pub marked_at : ℕ → ℕ → Registration → Registration
marked_at key stamp r = cond (has_key key r) (record r { mark = stamp }) r
