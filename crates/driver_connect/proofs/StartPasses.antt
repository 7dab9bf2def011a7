-- Each driver that a pass goes over is started exactly where it is supported at its turn, and passes go on while one starts a driver.
use Rattle.std.proofs.Common.{◌≡◌, ℕ, zero, suc, ◌<◌, ◌≤◌, ◌==◌, true, false, List, [], ◌∷◌, ◌++◌, length, flat_map, inl, inr, refl, sym, ◌∙◌, ap, subst, arith}
use Rattle.std.specs.List.{AllByRecursion}
use Rattle.std.proofs.lemmas.Bool.{cases_Bool}
use Rattle.driver_connect.specs.declared.agents.Agent.{Agent}
use Rattle.driver_connect.specs.declared.starting.Start.{Start}
use Rattle.driver_connect.specs.Starting.{Site, Progress, Passed, is_supported, is_carried_out, started, pass, passes, agents_for, starts_on}
use Rattle.driver_connect.specs.Turns.{after_starts, starts_in_turn}
use Rattle.driver_connect.specs.StartOrder.{Turn, IsPass, StartsInPasses, started_in, left_in}
use Rattle.driver_connect.proofs.InTurn.{after_more, fewer, idle, no_agents, not_none, some_started, starts_more}

-- ---- one pass

-- each turn's driver is started exactly where it is supported on the lists as the starts before it left them
abbrev AreExact : Site → Progress → List Turn → Type 0
AreExact c p turns = (before : List Turn) (t : Turn) (after : List Turn) → turns ≡ before ++ t ∷ after → t.is_started ≡ is_supported c (after_starts c (started_in before) p) t.agent

-- one turn more, before the others, which go on from where it leads
exact_more : (c : Site) (p q : Progress) (first : Turn) (turns : List Turn) → first.is_started ≡ is_supported c p first.agent → ((before : List Turn) → after_starts c (started_in (first ∷ before)) p ≡ after_starts c (started_in before) q) → AreExact c q turns → AreExact c p (first ∷ turns)
exact_more c p q first turns here on rest [] t after e = let same : first ≡ t = cc in subst (λ (u : Turn). u.is_started ≡ is_supported c p u.agent) same here
exact_more c p q first turns here on rest (b ∷ before) t after e =
    let same : first ≡ b = cc in
    let others : turns ≡ before ++ t ∷ after = cc in
    rest before t after others ∙ ap (λ (s : Progress). is_supported c s t.agent) (sym (on before) ∙ ap (λ (u : Turn). after_starts c (started_in (u ∷ before)) p) same)

record InOnePass (c : Site) (agents : List Agent) (p : Progress) (r : Passed) : Type 0 where
  turns : List Turn
  is_pass : IsPass c agents p turns
  left : left_in turns ≡ r.left
  starts : r.starts ≡ starts_in_turn c (started_in turns) p
  progress : r.progress ≡ after_starts c (started_in turns) p

no_turn : (before : List Turn) (t : Turn) (after : List Turn) → [] ≡ before ++ t ∷ after → ⊥
no_turn [] t after e = cc
no_turn (b ∷ before) t after e = cc

one_pass : (c : Site) (agents : List Agent) (p : Progress) → InOnePass c agents p (pass c agents p)
one_pass c [] p = record { turns = []; is_pass = record { all = refl; exact = λ before t after e. absurd (no_turn before t after e) }; left = refl; starts = refl; progress = refl }
one_pass c (a ∷ agents) p = elim (cases_Bool (is_supported c p a)) [
  | inl e ↦
      let r = one_pass c agents (started c p a) in
      let first : Turn = record { agent = a; is_started = true } in
      rw e (record {
        turns = first ∷ r.turns;
        is_pass = record { all = ap (λ l. a ∷ l) r.is_pass.all; exact = exact_more c p (started c p a) first r.turns (sym e) (λ before. refl) r.is_pass.exact };
        left = r.left;
        starts = ap (λ l. record { agent = a.handle; is_carried_out = is_carried_out c p a } ∷ l) r.starts;
        progress = r.progress;
      })
  | inr e ↦
      let r = one_pass c agents p in
      let first : Turn = record { agent = a; is_started = false } in
      rw e (record {
        turns = first ∷ r.turns;
        is_pass = record { all = ap (λ l. a ∷ l) r.is_pass.all; exact = exact_more c p p first r.turns (sym e) (λ before. refl) r.is_pass.exact };
        left = ap (λ l. a ∷ l) r.left;
        starts = r.starts;
        progress = r.progress;
      })
]

-- ---- passes

none_started : (starts : List Start) → (length starts == 0) ≡ true → starts ≡ []
none_started [] h = refl
none_started (s ∷ starts) h = absurd (not_none s starts h)

-- a pass that starts a driver has a turn at which one is started
some_turn : (c : Site) (order : List Agent) (p : Progress) (starts : List Start) → starts ≡ starts_in_turn c order p → 0 < length starts → 0 < length order
some_turn c [] p starts e some = absurd (let none : length starts ≡ 0 = ap (λ (l : List Start). length l) e in omega (arith, some, none))
some_turn c (a ∷ order) p starts e some = omega arith

-- a pass that starts none leaves each driver, and none is supported
idle_agents : (c : Site) (agents : List Agent) (p : Progress) → (length (pass c agents p).starts == 0) ≡ true → AllByRecursion (λ a. is_supported c p a ≡ false) agents
idle_agents c [] p h = tt
idle_agents c (a ∷ agents) p h = elim (cases_Bool (is_supported c p a)) [
  | inl e ↦ absurd (not_none (record { agent = a.handle; is_carried_out = is_carried_out c p a }) (pass c agents (started c p a)).starts (rw e at h))
  | inr e ↦ (e, idle_agents c agents p (rw e at h))
]

in_all_passes : (k : ℕ) (c : Site) (agents : List Agent) (p : Progress) → length agents ≤ k → StartsInPasses c agents p (passes k c agents p)
in_all_passes zero c agents p l = record { passes = []; are_passes = no_agents c agents p l; starts = refl; progress = refl }
in_all_passes (suc k) c agents p l =
    let r = one_pass c agents p in
    elim (cases_Bool (length (pass c agents p).starts == 0)) [
      | inl e ↦ rw e (record { passes = []; are_passes = idle_agents c agents p e; starts = none_started (pass c agents p).starts e; progress = (idle c agents p e).0 })
      | inr e ↦
          let some : 0 < length (pass c agents p).starts = some_started (pass c agents p).starts e in
          let less : length (pass c agents p).left ≤ k = omega (arith, l, fewer c agents p, some) in
          let m = in_all_passes k c (pass c agents p).left (pass c agents p).progress less in
          let later : List Agent = flat_map started_in m.passes in
          rw e (record {
            passes = r.turns ∷ m.passes;
            are_passes = (r.is_pass, some_turn c (started_in r.turns) p (pass c agents p).starts r.starts some, rw r.left (rw (← r.progress) m.are_passes));
            starts = rw (starts_more c (started_in r.turns) later p) (rw (← r.progress) (rw (← m.starts) (rw (← r.starts) refl)));
            progress = rw (after_more c (started_in r.turns) later p) (rw (← r.progress) m.progress);
          })
    ]

pub start_order : (c : Site) (named : List ℕ) (p : Progress) → StartsInPasses c (agents_for c.drivers p.handles named) p (starts_on c named p)
start_order c named p = in_all_passes (length (agents_for c.drivers p.handles named)) c (agents_for c.drivers p.handles named) p (omega arith)
