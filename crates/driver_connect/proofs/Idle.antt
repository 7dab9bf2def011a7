-- A connect that carries out no start.
use Rattle.std.proofs.Common.{◌≡◌, ℕ, zero, suc, ◌≤◌, ◌<◌, ◌==◌, nat_lt, false, List, [], ◌∷◌, ◌++◌, length, inl, inr, refl, ◌∙◌, arith}
use Rattle.std.proofs.lemmas.Bool.{cases_Bool, ltb-true}
use Rattle.guid_handles.specs.HandleTables.{HandleTable, numbers}
use Rattle.guid_handles.specs.HandleChanges.{IsHandleTable}
use Rattle.guid_handles.proofs.SortedLists.{filter_none, all_map}
use Rattle.driver_connect.specs.declared.agents.Agent.{Agent}
use Rattle.driver_connect.specs.declared.starting.Start.{Start}
use Rattle.driver_connect.specs.Starting.{Site, Progress, is_supported, is_carried_out, turn, after_turn, starts_of, pass, passes, agents_for, starts_on, is_any_carried_out}
use Rattle.driver_connect.specs.Connecting.{made_after, connected}

none_first : (xs ys : List Start) → is_any_carried_out (xs ++ ys) ≡ false → is_any_carried_out xs ≡ false
none_first [] ys h = refl
none_first (x ∷ xs) ys h = elim (cases_Bool x.is_carried_out) [
  | inl e ↦ let k = rw e at h in cc
  | inr e ↦ rw e (none_first xs ys (rw e at h))
]

none_last : (xs ys : List Start) → is_any_carried_out (xs ++ ys) ≡ false → is_any_carried_out ys ≡ false
none_last [] ys h = h
none_last (x ∷ xs) ys h = elim (cases_Bool x.is_carried_out) [
  | inl e ↦ let k = rw e at h in cc
  | inr e ↦ none_last xs ys (rw e at h)
]

-- a turn whose start is not carried out changes nothing
idle_turn : (c : Site) (p : Progress) (a : Agent) → is_any_carried_out (starts_of a (turn c p a)) ≡ false → after_turn c p a ≡ p
idle_turn c p a h = elim (cases_Bool (is_supported c p a)) [
  | inl e ↦ elim (cases_Bool (is_carried_out c p a)) [
    | inl f ↦ absurd (let k = rw f at (rw e at h) in cc)
    | inr f ↦ rw e (rw f refl)
  ]
  | inr e ↦ rw e refl
]

pub idle_pass : (c : Site) (agents : List Agent) (p : Progress) → is_any_carried_out (pass c agents p).starts ≡ false → (pass c agents p).progress ≡ p
idle_pass c [] p h = refl
idle_pass c (a ∷ agents) p h =
    let e = idle_turn c p a (none_first (starts_of a (turn c p a)) (pass c agents (after_turn c p a)).starts h) in
    let k = none_last (starts_of a (turn c p a)) (pass c agents (after_turn c p a)).starts h in
    idle_pass c agents (after_turn c p a) k ∙ e

idle_passes : (k : ℕ) (c : Site) (agents : List Agent) (p : Progress) → is_any_carried_out (passes k c agents p).starts ≡ false → (passes k c agents p).progress ≡ p
idle_passes zero c agents p h = refl
idle_passes (suc k) c agents p h = elim (cases_Bool (length (pass c agents p).starts == 0)) [
  | inl e ↦ rw e (idle_pass c agents p (rw e at h))
  | inr e ↦
      let s = rw e at h in
      let a = idle_pass c agents p (none_first (pass c agents p).starts (passes k c (pass c agents p).left (pass c agents p).progress).starts s) in
      let b = idle_passes k c (pass c agents p).left (pass c agents p).progress (none_last (pass c agents p).starts (passes k c (pass c agents p).left (pass c agents p).progress).starts s) in
      rw e (b ∙ a)
]

none_above : (last n : ℕ) → (0 < n) × (n ≤ last) → nat_lt last n ≡ false
none_above last n h = elim (cases_Bool (nat_lt last n)) [
  | inl t ↦ absurd (omega (arith, ltb-true last n t, h.1))
  | inr f ↦ f
]

pub none_made : (t : HandleTable) → IsHandleTable t → made_after t.last_number t ≡ []
none_made t h = filter_none (λ n. nat_lt t.last_number n) (numbers t) (all_map (λ n. (0 < n) × (n ≤ t.last_number)) (λ n. nat_lt t.last_number n ≡ false) (none_above t.last_number) (numbers t) h.given)

pub idle_connect : (levels : ℕ) (c : Site) (named : List ℕ) (p : Progress) → IsHandleTable p.handles → is_any_carried_out (starts_on c named p).starts ≡ false → connected levels c named p ≡ p
idle_connect zero c named p t h = idle_passes (length (agents_for c.drivers p.handles named)) c (agents_for c.drivers p.handles named) p h
idle_connect (suc k) c named p t h =
    let e : (starts_on c named p).progress ≡ p = idle_passes (length (agents_for c.drivers p.handles named)) c (agents_for c.drivers p.handles named) p h in
    rw e (rw (none_made p.handles t) refl)
