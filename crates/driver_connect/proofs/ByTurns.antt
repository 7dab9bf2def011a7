-- What each turn of the drivers keeps is kept by a connect.
use Rattle.std.proofs.Common.{ℕ, zero, suc, ◌==◌, List, [], ◌∷◌, length, inl, inr}
use Rattle.std.proofs.lemmas.Bool.{cases_Bool}
use Rattle.driver_connect.specs.declared.agents.Agent.{Agent}
use Rattle.driver_connect.specs.Drivers.{Meaning}
use Rattle.driver_connect.specs.Starting.{Progress, Site, site, after_turn, agents_for, pass, passes, starts_on}
use Rattle.driver_connect.specs.Connecting.{connected, for_each, made_after}

module _ (Of : List Meaning → Type 0) (P : Progress → Type 0) (by_turn : (c : Site) (p : Progress) (a : Agent) → Of c.drivers → P p → P (after_turn c p a)) where
  by_pass : (c : Site) (agents : List Agent) (p : Progress) → Of c.drivers → P p → P (pass c agents p).progress
  by_pass c [] p ds h = h
  by_pass c (a ∷ agents) p ds h = by_pass c agents (after_turn c p a) ds (by_turn c p a ds h)

  by_passes : (k : ℕ) (c : Site) (agents : List Agent) (p : Progress) → Of c.drivers → P p → P (passes k c agents p).progress
  by_passes zero c agents p ds h = h
  by_passes (suc k) c agents p ds h =
      let r = by_pass c agents p ds h in
      elim (cases_Bool (length (pass c agents p).starts == 0)) [
        | inl e ↦ rw e r
        | inr e ↦ rw e (by_passes k c (pass c agents p).left (pass c agents p).progress ds r)
      ]

  by_starts : (c : Site) (named : List ℕ) (p : Progress) → Of c.drivers → P p → P (starts_on c named p).progress
  by_starts c named p ds h = by_passes (length (agents_for c.drivers p.handles named)) c (agents_for c.drivers p.handles named) p ds h

  by_each : (f : ℕ → Progress → Progress) → ((n : ℕ) (q : Progress) → P q → P (f n q)) → (ns : List ℕ) (p : Progress) → P p → P (for_each f ns p)
  by_each f s [] p h = h
  by_each f s (n ∷ ns) p h = by_each f s ns (f n p) (s n p h)

  pub by_connect : (k : ℕ) (c : Site) (named : List ℕ) (p : Progress) → Of c.drivers → P p → P (connected k c named p)
  by_connect zero c named p ds h = by_starts c named p ds h
  by_connect (suc k) c named p ds h =
      by_each (λ n q. connected k (site c.drivers c.registrations n) [] q) (λ n q g. by_connect k (site c.drivers c.registrations n) [] q ds g)
      (made_after p.handles.last_number (starts_on c named p).progress.handles) (starts_on c named p).progress (by_starts c named p ds h)
