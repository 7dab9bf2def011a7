-- Handles that are still to be connected.
use Rattle.std.specs.Prelude.{◌≡◌, ℕ, ◌+◌, ◌≤◌, Bool, List, [], ◌∷◌, ◌++◌, length, map}
use Rattle.std.specs.declared.vec.Vec.{Vec}
use Rattle.protocol_notify.specs.declared.notify.Registration.{Registration}
use Rattle.driver_connect.specs.declared.connecting.Pending.{Pending}
use Rattle.driver_connect.specs.Drivers.{Meaning}
use Rattle.driver_connect.specs.declared.starting.Starter.{Starter}
use Rattle.driver_connect.specs.Sites.{site_at}
use Rattle.driver_connect.specs.Starting.{Progress, is_any_carried_out, site, starts_on}
use Rattle.driver_connect.specs.Connecting.{connected}

-- some handles, each with the same number of levels below it, the first one last
abbrev pub first_last : ℕ → List ℕ → List Pending
first_last k [] = []
first_last k (n ∷ ns) = first_last k ns ++ record { handle = n; levels = k } ∷ []

-- all that are still to be connected are, the last one first, with no driver named
abbrev pub all_connected : List Meaning → List Registration → List Pending → Progress → Progress
all_connected ds rs [] p = p
all_connected ds rs (x ∷ xs) p =
    connected x.levels (site ds rs x.handle) [] (all_connected ds rs xs p)

-- A handle has its starts, and what is then still to be connected makes the same as if it had been
-- connected with all below it before the others.
abbrev pub ConnectsOne : {D A : Type 0} → (D → Meaning) → Starter D A → Pending → List ℕ
    → Vec Pending A → Progress → Vec Pending A → Progress → Type 0
ConnectsOne meaning s next named pending p new_pending new =
    all_connected (map meaning s.drivers.now) s.notify.now new_pending.items new ≡
    all_connected (map meaning s.drivers.now) s.notify.now pending.items
    (connected next.levels (site_at meaning s next.handle) named p)

-- a handle is connected with all below it, and this says whether a start on it was carried out
abbrev pub ConnectsLevels : {D A : Type 0} → (D → Meaning) → Starter D A → Pending → List ℕ
    → Progress → Bool → Progress → Type 0
ConnectsLevels meaning s first named p b new =
    (b ≡ is_any_carried_out (starts_on (site_at meaning s first.handle) named p).starts)
    × (new ≡ connected first.levels (site_at meaning s first.handle) named p)

-- what is still to be connected grows by no more than the handles
abbrev pub GrowsWith : {A : Type 0} → Vec Pending A → Progress → Vec Pending A → Progress → Type 0
GrowsWith pending p new_pending new =
    length new_pending.items + length p.handles.handles
    ≤ length pending.items + length new.handles.handles
