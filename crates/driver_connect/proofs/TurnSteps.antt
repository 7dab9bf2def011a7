-- Turns over a list, one more.
use Rattle.std.proofs.Common.{◌≡◌, ℕ, zero, suc, ◌+◌, ◌<◌, ◌≤◌, ◌||◌, nat_lt, nat_le, Bool, true, false, cond, List, [], ◌∷◌, ◌++◌, length, take, drop, set, get_or, inl, inr, refl, sym, ap, ◌∙◌, append-nil, arith, add-one, drop-cons}
use Rattle.std.proofs.lemmas.Bool.{cases_Bool, ltb-true, ltb-false, leb-true, lt-ltb, le-ltb, le-leb}
use Rattle.std.proofs.lemmas.Bool.Decides.{eqb_tells}
use Rattle.std.proofs.lemmas.List.{take_more_set, drop-set-lt, length-set, length-take-le, length-drop, get_or-take}
use Rattle.std.proofs.Math.Seq.{take-set-lt}
use Rattle.std.proofs.Math.ListN.{drop_of_length-le}
use Rattle.driver_connect.specs.declared.agents.Agent.{Agent}
use Rattle.driver_connect.specs.declared.driver_turns.DriverTurns.{DriverTurns}
use Rattle.driver_connect.specs.DriverTurns.{pass_over, followed, after_outcome, has_turn, pass_of, turns_over, turns_after}

-- ---- bounds

drop_more : (list : List Agent) (i : ℕ) (d : Agent) → i < length list → drop i list ≡ get_or list i d ∷ drop (i + 1) list
drop_more list i d l = drop-cons list i d l ∙ rw add-one refl

ne_less : (a b : ℕ) → (a ≡ b → ⊥) → a ≤ b → a < b
ne_less a b h l = elim (cases_Bool (nat_lt a b)) [
  | inl e ↦ ltb-true a b e
  | inr e ↦ absurd (h (omega (arith, l, ltb-false a b e)))
]

turn_bounds : (ts : DriverTurns) (list : List Agent) → has_turn ts list ≡ true → (ts.left ≤ ts.next) × (ts.next < ts.end) × (ts.end ≤ length list)
turn_bounds ts list h = elim (cases_Bool (nat_le ts.left ts.next)) [
  | inr e ↦ absurd (let k = rw e at h in cc)
  | inl e ↦ elim (cases_Bool (nat_lt ts.next ts.end)) [
    | inr f ↦ absurd (let k = rw f at (rw e at h) in cc)
    | inl f ↦ (leb-true ts.left ts.next e, ltb-true ts.next ts.end f, leb-true ts.end (length list) (rw f at (rw e at h)))
  ]
]

bounds_turn : (ts : DriverTurns) (list : List Agent) → ts.left ≤ ts.next → ts.next < ts.end → ts.end ≤ length list → has_turn ts list ≡ true
bounds_turn ts list l m n = rw (le-leb ts.left ts.next l) (rw (lt-ltb ts.next ts.end m) (le-leb ts.end (length list) n))

no_turn : (ts : DriverTurns) (list : List Agent) → ts.end ≤ ts.next → has_turn ts list ≡ false
no_turn ts list l = elim (cases_Bool (nat_le ts.left ts.next)) [
  | inl e ↦ rw e (rw (le-ltb ts.next ts.end l) refl)
  | inr e ↦ rw e refl
]

-- ---- passes

pub pass_over_front : (n : ℕ) (list : List Agent) → n ≤ length list → pass_of (turns_over n) list ≡ pass_over (take n list)
pass_over_front zero list l = rw (no_turn (turns_over zero) list (omega arith)) refl
pass_over_front (suc n) list l = rw (bounds_turn (turns_over (suc n)) list (omega arith) (omega arith) l) refl

goes_on : (ahead left : List Agent) (b : Bool) → 0 < length ahead → followed ahead left b ≡ record { ahead = ahead; left = left; has_started = b }
goes_on [] left b l = absurd (omega arith)
goes_on (a ∷ ahead) left b l = refl

-- what a driver's turn leaves of a list
record AfterTurn (ts : DriverTurns) (list new : List Agent) (b : Bool) (a : Agent) : Type 0 where
  count : length new ≡ length list
  left : take (cond b ts.left (ts.left + 1)) new ≡ take ts.left list ++ cond b [] (a ∷ [])
  ahead : drop (ts.next + 1) (take ts.end new) ≡ drop (ts.next + 1) (take ts.end list)

moved : (ts : DriverTurns) (list : List Agent) (a : Agent) → ts.left ≤ ts.next → ts.next < ts.end → ts.end ≤ length list → AfterTurn ts list (set list ts.left a) false a
moved ts list a l m n = record {
  count = length-set list ts.left a;
  left = take_more_set list ts.left a (omega (arith, l, m, n));
  ahead = ap (λ (x : List Agent). drop (ts.next + 1) x) (take-set-lt ts.end list ts.left a (omega (arith, l, m))) ∙ drop-set-lt (ts.next + 1) (take ts.end list) ts.left a (omega (arith, l));
}

stayed : (ts : DriverTurns) (list : List Agent) (a : Agent) → AfterTurn ts list list true a
stayed ts list a = record { count = refl; left = sym (append-nil (take ts.left list)); ahead = refl }

one_turn : (ts : DriverTurns) (list new : List Agent) (b : Bool) (a d : Agent) → has_turn ts list ≡ true → a ≡ get_or list ts.next d → AfterTurn ts list new b a → pass_of (turns_after b ts) new ≡ after_outcome b (pass_of ts list)
one_turn ts list new b a d h e s =
    let k = turn_bounds ts list h in
    let size : length (take ts.end list) ≡ ts.end = length-take-le ts.end list k.2 in
    let here : drop ts.next (take ts.end list) ≡ a ∷ drop (ts.next + 1) (take ts.end list) =
    drop_more (take ts.end list) ts.next d (omega (arith, k.1, size)) ∙ ap (λ (x : Agent). x ∷ drop (ts.next + 1) (take ts.end list)) (get_or-take ts.end list ts.next d k.1 ∙ sym e) in
    let left_bound : cond b ts.left (ts.left + 1) ≤ length new = elim (cases_Bool b) [
      | inl t ↦ rw t (omega (arith, k.0, k.1, k.2, s.count))
      | inr t ↦ rw t (omega (arith, k.0, k.1, k.2, s.count))
    ] in
    let left_below : cond b ts.left (ts.left + 1) ≤ ts.next + 1 = elim (cases_Bool b) [
      | inl t ↦ rw t (omega (arith, k.0))
      | inr t ↦ rw t (omega (arith, k.0))
    ] in
    rw h (rw here (elim (eqb_tells (ts.next + 1) ts.end) [
      | inl t ↦
          let none : drop (ts.next + 1) (take ts.end list) ≡ [] = drop_of_length-le (take ts.end list) (omega (arith, size, t.1)) in
          elim (cases_Bool (b || ts.has_started)) [
            | inl f ↦ rw none (rw t.0 (rw f (pass_over_front (cond b ts.left (ts.left + 1)) new left_bound ∙ ap pass_over s.left)))
            | inr f ↦
                let over : DriverTurns = record { left = cond b ts.left (ts.left + 1); next = ts.next + 1; end = ts.end; has_started = false } in
                rw none (rw t.0 (rw f (rw (no_turn over new (omega (arith, t.1))) (ap (λ (l : List Agent). record { ahead = []; left = l; has_started = false }) s.left))))
          ]
      | inr t ↦
          let some : 0 < length (drop (ts.next + 1) (take ts.end list)) = omega (arith, length-drop (ts.next + 1) (take ts.end list), size, k.1, ne_less (ts.next + 1) ts.end t.1 (omega (arith, k.1))) in
          let on : DriverTurns = record { left = cond b ts.left (ts.left + 1); next = ts.next + 1; end = ts.end; has_started = b || ts.has_started } in
          let turn : has_turn on new ≡ true = bounds_turn on new left_below (ne_less (ts.next + 1) ts.end t.1 (omega (arith, k.1))) (omega (arith, k.2, s.count)) in
          rw t.0 (rw turn (rw s.ahead (rw s.left (sym (goes_on (drop (ts.next + 1) (take ts.end list)) (take ts.left list ++ cond b [] (a ∷ [])) (b || ts.has_started) some)))))
    ]))

pub started_turn : (ts : DriverTurns) (list : List Agent) (d : Agent) → has_turn ts list ≡ true → pass_of (turns_after true ts) list ≡ after_outcome true (pass_of ts list)
started_turn ts list d h = let a = get_or list ts.next d in one_turn ts list list true a d h refl (stayed ts list a)

pub left_turn : (ts : DriverTurns) (list : List Agent) (d : Agent) → has_turn ts list ≡ true → pass_of (turns_after false ts) (set list ts.left (get_or list ts.next d)) ≡ after_outcome false (pass_of ts list)
left_turn ts list d h =
    let a = get_or list ts.next d in
    let k = turn_bounds ts list h in
    one_turn ts list (set list ts.left a) false a d h refl (moved ts list a k.0 k.1 k.2)
