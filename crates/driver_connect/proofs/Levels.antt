-- Levels of handles that are connected.
use Rattle.std.proofs.Common.{◌≡◌, ℕ, zero, suc, ◌-◌, ◌<◌, ◌≤◌, List, refl, ◌∙◌, arith}
use Rattle.driver_connect.specs.Starting.{Site, Progress, starts_on}
use Rattle.driver_connect.specs.Connecting.{made_after, connected, each_connected}

pub connected_more : (k : ℕ) (c : Site) (named : List ℕ) (p : Progress) → 0 < k
    → each_connected (k - 1) c.drivers c.registrations (made_after p.handles.last_number (starts_on c named p).progress.handles) (starts_on c named p).progress ≡ connected k c named p
connected_more zero c named p l = absurd (omega arith)
connected_more (suc k) c named p l = let e : suc k - 1 ≡ k = omega arith in rw e refl

pub connected_none : (k : ℕ) (c : Site) (named : List ℕ) (p : Progress) → k ≤ 0 → (starts_on c named p).progress ≡ connected k c named p
connected_none zero c named p l = refl
connected_none (suc k) c named p l = absurd (omega arith)

pub levels_joined : (k : ℕ) (c : Site) (named : List ℕ) (p q r : Progress) (last : ℕ) (made : List ℕ) → 0 < k → q ≡ (starts_on c named p).progress → last ≡ p.handles.last_number
    → made ≡ made_after last q.handles → r ≡ each_connected (k - 1) c.drivers c.registrations made q → r ≡ connected k c named p
levels_joined k c named p q r last made l a b m e =
    let n = rw b at (rw a at m) in
    e ∙ rw n (rw a (connected_more k c named p l))
