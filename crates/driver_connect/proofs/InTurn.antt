-- Passes start drivers one after the other, each when it is supported.
use Rattle.std.proofs.Common.{◌≡◌, ℕ, zero, suc, ◌+◌, ◌<◌, ◌≤◌, ◌==◌, true, false, List, [], ◌∷◌, ◌++◌, length, inl, inr, refl, sym, ap, ◌∙◌, arith}
use Rattle.std.specs.List.{AllByRecursion}
use Rattle.std.proofs.lemmas.Bool.{cases_Bool}
use Rattle.std.proofs.lemmas.Bool.Decides.{eqb_tells}
use Rattle.driver_connect.specs.declared.agents.Agent.{Agent}
use Rattle.driver_connect.specs.declared.starting.Start.{Start}
use Rattle.driver_connect.specs.Starting.{Site, Progress, Passed, is_supported, is_carried_out, started, pass, passes, agents_for, starts_on}
use Rattle.driver_connect.specs.Turns.{after_starts, starts_in_turn, AreSupported, times, StartsInTurn}

-- ---- starts, and more after them

pub after_more : (c : Site) (xs ys : List Agent) (p : Progress) → after_starts c (xs ++ ys) p ≡ after_starts c ys (after_starts c xs p)
after_more c [] ys p = refl
after_more c (x ∷ xs) ys p = after_more c xs ys (started c p x)

pub starts_more : (c : Site) (xs ys : List Agent) (p : Progress) → starts_in_turn c (xs ++ ys) p ≡ starts_in_turn c xs p ++ starts_in_turn c ys (after_starts c xs p)
starts_more c [] ys p = refl
starts_more c (x ∷ xs) ys p = ap (λ l. record { agent = x.handle; is_carried_out = is_carried_out c p x } ∷ l) (starts_more c xs ys (started c p x))

supported_more : (c : Site) (xs ys : List Agent) (p : Progress) → AreSupported c xs p → AreSupported c ys (after_starts c xs p) → AreSupported c (xs ++ ys) p
supported_more c [] ys p h k = k
supported_more c (x ∷ xs) ys p h k = (h.0, supported_more c xs ys (started c p x) h.1 k)

pub times_more : (n : ℕ) (xs ys : List Agent) → times n (xs ++ ys) ≡ times n xs + times n ys
times_more n [] ys = omega arith
times_more n (x ∷ xs) ys = elim (cases_Bool (x.handle == n)) [
  | inl e ↦ rw e (omega (arith, times_more n xs ys))
  | inr e ↦ rw e (times_more n xs ys)
]

-- ---- one pass

record InPass (c : Site) (agents : List Agent) (p : Progress) (r : Passed) : Type 0 where
  order : List Agent
  starts : r.starts ≡ starts_in_turn c order p
  progress : r.progress ≡ after_starts c order p
  supported : AreSupported c order p
  once : (n : ℕ) → times n order + times n r.left ≡ times n agents

in_pass : (c : Site) (agents : List Agent) (p : Progress) → InPass c agents p (pass c agents p)
in_pass c [] p = record { order = []; starts = refl; progress = refl; supported = tt; once = λ n. refl }
in_pass c (a ∷ agents) p = elim (cases_Bool (is_supported c p a)) [
  | inl e ↦
      let r = in_pass c agents (started c p a) in
      rw e (record {
        order = a ∷ r.order;
        starts = ap (λ l. record { agent = a.handle; is_carried_out = is_carried_out c p a } ∷ l) r.starts;
        progress = r.progress;
        supported = (e, r.supported);
        once = λ n. elim (cases_Bool (a.handle == n)) [
          | inl k ↦ rw k (omega (arith, r.once n))
          | inr k ↦ rw k (r.once n)
        ];
      })
  | inr e ↦
      let r = in_pass c agents p in
      rw e (record {
        order = r.order;
        starts = r.starts;
        progress = r.progress;
        supported = r.supported;
        once = λ n. elim (cases_Bool (a.handle == n)) [
          | inl k ↦ rw k (omega (arith, r.once n))
          | inr k ↦ rw k (r.once n)
        ];
      })
]

pub not_none : (s : Start) (starts : List Start) → (length (s ∷ starts) == 0) ≡ true → ⊥
not_none s starts h = elim (eqb_tells (length (s ∷ starts)) 0) [
  | inl e ↦ omega (arith, e.1)
  | inr e ↦ let k : true ≡ false = sym h ∙ e.0 in cc
]

-- a pass that starts none changes nothing, and none that it leaves is supported
pub idle : (c : Site) (agents : List Agent) (p : Progress) → (length (pass c agents p).starts == 0) ≡ true
    → ((pass c agents p).progress ≡ p) × AllByRecursion (λ a. is_supported c p a ≡ false) (pass c agents p).left
idle c [] p h = (refl, tt)
idle c (a ∷ agents) p h = elim (cases_Bool (is_supported c p a)) [
  | inl e ↦ absurd (not_none (record { agent = a.handle; is_carried_out = is_carried_out c p a }) (pass c agents (started c p a)).starts (rw e at h))
  | inr e ↦ let r = idle c agents p (rw e at h) in rw e (r.0, (e, r.1))
]

-- all drivers are started or left
pub fewer : (c : Site) (agents : List Agent) (p : Progress) → length (pass c agents p).starts + length (pass c agents p).left ≡ length agents
fewer c [] p = refl
fewer c (a ∷ agents) p = elim (cases_Bool (is_supported c p a)) [
  | inl e ↦ rw e (omega (arith, fewer c agents (started c p a)))
  | inr e ↦ rw e (omega (arith, fewer c agents p))
]

-- ---- passes

pub no_agents : (c : Site) (agents : List Agent) (p : Progress) → length agents ≤ 0 → AllByRecursion (λ a. is_supported c p a ≡ false) agents
no_agents c [] p l = tt
no_agents c (a ∷ agents) p l = absurd (omega arith)

pub some_started : (starts : List Start) → (length starts == 0) ≡ false → 0 < length starts
some_started [] h = cc
some_started (s ∷ starts) h = omega arith

in_passes : (k : ℕ) (c : Site) (agents : List Agent) (p : Progress) → length agents ≤ k → StartsInTurn c agents p (passes k c agents p)
in_passes zero c agents p l = record { order = []; starts = refl; progress = refl; supported = tt; once = λ n. omega arith; rest = no_agents c agents p l }
in_passes (suc k) c agents p l =
    let r = in_pass c agents p in
    elim (cases_Bool (length (pass c agents p).starts == 0)) [
      | inl e ↦
          let i = idle c agents p e in
          rw e (record { order = r.order; starts = r.starts; progress = r.progress; supported = r.supported; once = r.once; rest = rw i.0 i.1 })
      | inr e ↦
          let less : length (pass c agents p).left ≤ k = omega (arith, fewer c agents p, some_started (pass c agents p).starts e) in
          let m = in_passes k c (pass c agents p).left (pass c agents p).progress less in
          rw e (record {
            order = r.order ++ m.order;
            starts = rw (starts_more c r.order m.order p) (rw (← r.progress) (rw (← m.starts) (rw (← r.starts) refl)));
            progress = rw (after_more c r.order m.order p) (rw (← r.progress) m.progress);
            supported = supported_more c r.order m.order p r.supported (rw (← r.progress) m.supported);
            once = λ n. omega (arith, times_more n r.order m.order, r.once n, m.once n);
            rest = m.rest;
          })
    ]

pub in_turn : (c : Site) (named : List ℕ) (p : Progress) → StartsInTurn c (agents_for c.drivers p.handles named) p (starts_on c named p)
in_turn c named p = in_passes (length (agents_for c.drivers p.handles named)) c (agents_for c.drivers p.handles named) p (omega arith)
