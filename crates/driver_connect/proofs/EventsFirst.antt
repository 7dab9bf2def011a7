-- A connect that begins with some events: they come first, and all else is the same.
use Rattle.std.proofs.Common.{◌≡◌, ℕ, zero, suc, ◌==◌, List, [], ◌∷◌, ◌++◌, length, inl, inr, refl, ap, sym, ◌∙◌, true, append-nil, append_assoc}
use Rattle.std.proofs.lemmas.Bool.{cases_Bool}
use Rattle.guid_handles.specs.HandleTables.{HandleTable}
use Rattle.open_agents.specs.declared.items.OpenRecord.{OpenRecord}
use Rattle.driver_connect.specs.declared.agents.Agent.{Agent}
use Rattle.driver_connect.specs.Starting.{Passed, Progress, Site, site, after_turn, agents_for, carried_out, events_of_all, is_carried_out, is_supported, joined, left_of, pass, passes, plan_for, starts_of, starts_on, turn}
use Rattle.driver_connect.specs.Connecting.{ConnectsBelow, connected, connected_below, first_progress, for_each, levels_below, made_after}

module _ (given : List ℕ) where
  abbrev pub after_given : Progress → Progress
  after_given p = record p { events = given ++ p.events }

  turn_after : (c : Site) (a : Agent) (p : Progress) → after_turn c (after_given p) a ≡ after_given (after_turn c p a)
  turn_after c a p = elim (cases_Bool (is_supported c p a)) [
    | inl e ↦ elim (cases_Bool (is_carried_out c p a)) [
      | inl f ↦
          let events = append_assoc given p.events (events_of_all c.registrations (plan_for c p a).children) in
          rw e (rw f (ap (λ (es : List ℕ). record (carried_out c.registrations c.controller a.handle (plan_for c p a) p) { events = es }) events))
      | inr f ↦ rw e (rw f refl)
    ]
    | inr e ↦ rw e refl
  ]

  pass_after : (c : Site) (agents : List Agent) (p : Progress) → pass c agents (after_given p) ≡ record (pass c agents p) { progress = after_given (pass c agents p).progress }
  pass_after c [] p = refl
  pass_after c (a ∷ agents) p =
      ap (λ (q : Progress). joined (starts_of a (turn c p a)) (left_of a (turn c p a)) (pass c agents q)) (turn_after c a p)
      ∙ ap (joined (starts_of a (turn c p a)) (left_of a (turn c p a))) (pass_after c agents (after_turn c p a))

  passes_after : (k : ℕ) (c : Site) (agents : List Agent) (p : Progress) → passes k c agents (after_given p) ≡ record (passes k c agents p) { progress = after_given (passes k c agents p).progress }
  passes_after zero c agents p = refl
  passes_after (suc k) c agents p =
      let one = pass_after c agents p in
      elim (cases_Bool (length (pass c agents p).starts == 0)) [
        | inl e ↦ rw one (rw e refl)
        | inr e ↦ rw one (rw e (ap (joined (pass c agents p).starts []) (passes_after k c (pass c agents p).left (pass c agents p).progress)))
      ]

  starts_after : (c : Site) (named : List ℕ) (p : Progress) → (starts_on c named (after_given p)).progress ≡ after_given (starts_on c named p).progress
  starts_after c named p = let agents = agents_for c.drivers p.handles named in ap (λ (r : Passed). r.progress) (passes_after (length agents) c agents p)

  each_after : (f : ℕ → Progress → Progress) → ((n : ℕ) (p : Progress) → f n (after_given p) ≡ after_given (f n p)) → (ns : List ℕ) (p : Progress) → for_each f ns (after_given p) ≡ after_given (for_each f ns p)
  each_after f s [] p = refl
  each_after f s (n ∷ ns) p = ap (for_each f ns) (s n p) ∙ each_after f s ns (f n p)

  pub connected_after : (k : ℕ) (c : Site) (named : List ℕ) (p : Progress) → connected k c named (after_given p) ≡ after_given (connected k c named p)
  connected_after zero c named p = starts_after c named p
  connected_after (suc k) c named p =
      let below : ℕ → Progress → Progress = λ n q. connected k (site c.drivers c.registrations n) [] q in
      ap (λ (q : Progress). for_each below (made_after p.handles.last_number q.handles) q) (starts_after c named p)
      ∙ each_after below (λ n q. connected_after k (site c.drivers c.registrations n) [] q) (made_after p.handles.last_number (starts_on c named p).progress.handles) (starts_on c named p).progress

-- a handle and all below it, connected after events that are given
pub below_after : (c : Site) (t : HandleTable) (opens : List OpenRecord) (given : List ℕ) (new : Progress) → new ≡ connected_below c (record { handles = t; opens = opens; events = given }) → ConnectsBelow c t opens given new.events new.handles new.opens
below_after c t opens given new whole =
    let begun : after_given given (first_progress t opens) ≡ record { handles = t; opens = opens; events = given } = ap (λ (es : List ℕ). record { handles = t; opens = opens; events = es }) (append-nil given) in
    let e = whole ∙ ap (connected_below c) (sym begun) ∙ connected_after given (levels_below true) c [] (first_progress t opens) in
    (ap (λ (p : Progress). p.handles) e, ap (λ (p : Progress). p.opens) e, ap (λ (p : Progress). p.events) e)
