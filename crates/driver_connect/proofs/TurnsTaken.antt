-- Turns of drivers that are answered as the drivers of a core answer make the starts of the passes.
use Rattle.std.proofs.Common.{◌≡◌, ℕ, zero, suc, ◌≤◌, ◌==◌, ◌||◌, not, Bool, true, false, List, [], ◌∷◌, ◌++◌, length, Some, None, inl, inr, refl, sym, ap, ◌∙◌, append-nil, append_assoc, subst, arith}
use Rattle.std.proofs.lemmas.Bool.{cases_Bool}
use Rattle.std.proofs.lemmas.Bool.Decides.{eqb_tells}
use Rattle.std.proofs.lemmas.Option.{same_Some}
use Rattle.driver_connect.specs.declared.agents.Agent.{Agent}
use Rattle.driver_connect.specs.declared.starting.Start.{Start}
use Rattle.driver_connect.specs.Starting.{Site, Progress, Passed, is_supported, is_carried_out, started, pass, passes, agents_for, starts_on}
use Rattle.driver_connect.specs.Turns.{after_starts, starts_in_turn}
use Rattle.driver_connect.specs.StartOrder.{Turn, started_in}
use Rattle.driver_connect.specs.DriverTurns.{AreTurns, AreAnswered, DriverPass, followed, next_driver, pass_over}
use Rattle.driver_connect.proofs.InTurn.{after_more, fewer, some_started, starts_more}

some_start : (s : Start) (starts : List Start) → (length (s ∷ starts) == 0) ≡ false
some_start s starts = elim (eqb_tells (length (s ∷ starts)) 0) [
  | inl e ↦ absurd (omega (arith, e.1))
  | inr e ↦ e.0
]

or_true : (b : Bool) → (b || true) ≡ true
or_true true = refl
or_true false = refl

no_start : (starts : List Start) → (length starts == 0) ≡ true → starts ≡ []
no_start [] h = refl
no_start (s ∷ starts) h = absurd (let k : true ≡ false = sym h ∙ some_start s starts in cc)

-- those that are started in turns, and in more turns after them
started_more : (xs ys : List Turn) → started_in (xs ++ ys) ≡ started_in xs ++ started_in ys
started_more [] ys = refl
started_more (x ∷ xs) ys = elim (cases_Bool x.is_started) [
  | inl e ↦ rw e (ap (λ l. x.agent ∷ l) (started_more xs ys))
  | inr e ↦ rw e (started_more xs ys)
]

started_first : (u : Turn) (turns : List Turn) → u.is_started ≡ true → started_in (u ∷ turns) ≡ u.agent ∷ started_in turns
started_first u turns e = rw e refl

left_first : (u : Turn) (turns : List Turn) → u.is_started ≡ false → started_in (u ∷ turns) ≡ started_in turns
left_first u turns e = rw e refl

-- The turns of a pass, and those after it: a pass over the drivers that it left if one was started by then.
record InFront (c : Site) (left : List Agent) (b : Bool) (p : Progress) (turns : List Turn) (r : Passed) : Type 0 where
  front : List Turn
  rest : List Turn
  all : turns ≡ front ++ rest
  starts : starts_in_turn c (started_in front) p ≡ r.starts
  progress : after_starts c (started_in front) p ≡ r.progress
  ended : Bool
  flag : ended ≡ (not (length r.starts == 0) || b)
  after : AreTurns (followed [] (left ++ r.left) ended) rest
  answered : AreAnswered c r.progress rest

front_of : (c : Site) (ahead left : List Agent) (b : Bool) (p : Progress) (turns : List Turn) → AreTurns (followed ahead left b) turns → AreAnswered c p turns → InFront c left b p turns (pass c ahead p)
front_of c [] left b p turns h k = record { front = []; rest = turns; all = refl; starts = refl; progress = refl; ended = b; flag = refl; after = rw (append-nil left) h; answered = k }
front_of c (a ∷ ahead) left b p [] h k = absurd cc
front_of c (a ∷ ahead) left b p (u ∷ turns) h k =
    let same : a ≡ u.agent = same_Some a u.agent h.0 in
    elim (cases_Bool (is_supported c p a)) [
      | inl e ↦
          let s : u.is_started ≡ true = k.0 ∙ ap (λ (x : Agent). is_supported c p x) (sym same) ∙ e in
          let later = rw s at h.1 in
          let answers : AreAnswered c (started c p a) turns = rw e at (rw (← same) at k.1) in
          let r = front_of c ahead (left ++ []) (true || b) (started c p a) turns later answers in
          rw e (record {
            front = u ∷ r.front;
            rest = r.rest;
            all = ap (λ l. u ∷ l) r.all;
            starts = ap (λ (l : List Agent). starts_in_turn c l p) (started_first u r.front s ∙ ap (λ (x : Agent). x ∷ started_in r.front) (sym same)) ∙ ap (λ (l : List Start). record { agent = a.handle; is_carried_out = is_carried_out c p a } ∷ l) r.starts;
            progress = ap (λ (l : List Agent). after_starts c l p) (started_first u r.front s ∙ ap (λ (x : Agent). x ∷ started_in r.front) (sym same)) ∙ r.progress;
            ended = r.ended;
            flag = r.flag ∙ or_true (not (length (pass c ahead (started c p a)).starts == 0)) ∙ sym (rw (some_start (record { agent = a.handle; is_carried_out = is_carried_out c p a }) (pass c ahead (started c p a)).starts) refl);
            after = subst (λ (l : List Agent). AreTurns (followed [] l r.ended) r.rest) (ap (λ (l : List Agent). l ++ (pass c ahead (started c p a)).left) (append-nil left)) r.after;
            answered = r.answered;
          })
      | inr e ↦
          let s : u.is_started ≡ false = k.0 ∙ ap (λ (x : Agent). is_supported c p x) (sym same) ∙ e in
          let later = rw s at h.1 in
          let answers : AreAnswered c p turns = rw e at (rw (← same) at k.1) in
          let r = front_of c ahead (left ++ a ∷ []) b p turns later answers in
          rw e (record {
            front = u ∷ r.front;
            rest = r.rest;
            all = ap (λ l. u ∷ l) r.all;
            starts = ap (λ (l : List Agent). starts_in_turn c l p) (left_first u r.front s) ∙ r.starts;
            progress = ap (λ (l : List Agent). after_starts c l p) (left_first u r.front s) ∙ r.progress;
            ended = r.ended;
            flag = r.flag;
            after = subst (λ (l : List Agent). AreTurns (followed [] l r.ended) r.rest) (append_assoc left (a ∷ []) (pass c ahead p).left) r.after;
            answered = r.answered;
          })
    ]

no_turns : (pass : DriverPass) (turns : List Turn) → next_driver pass ≡ None → AreTurns pass turns → turns ≡ []
no_turns pass [] e h = refl
no_turns pass (t ∷ turns) e h = absurd (let k : None ≡ Some t.agent = sym e ∙ h.0 in cc)

same_pass : (agents : List Agent) → followed agents [] false ≡ pass_over agents
same_pass [] = refl
same_pass (a ∷ agents) = refl

in_all_turns : (k : ℕ) (c : Site) (agents : List Agent) (p : Progress) (turns : List Turn) → length agents ≤ k → AreTurns (pass_over agents) turns → AreAnswered c p turns
    → (starts_in_turn c (started_in turns) p ≡ (passes k c agents p).starts) × (after_starts c (started_in turns) p ≡ (passes k c agents p).progress)
in_all_turns zero c [] p turns l h a = rw (no_turns (pass_over []) turns refl h) (refl, refl)
in_all_turns zero c (x ∷ agents) p turns l h a = absurd (omega arith)
in_all_turns (suc k) c agents p turns l h a =
    let r = front_of c agents [] false p turns (subst (λ (s : DriverPass). AreTurns s turns) (sym (same_pass agents)) h) a in
    elim (cases_Bool (length (pass c agents p).starts == 0)) [
      | inl e ↦
          let f : r.ended ≡ false = r.flag ∙ rw e refl in
          let none : r.rest ≡ [] = no_turns (followed [] (pass c agents p).left false) r.rest refl (subst (λ (b : Bool). AreTurns (followed [] (pass c agents p).left b) r.rest) f r.after) in
          let same : started_in turns ≡ started_in r.front = ap started_in (r.all ∙ ap (λ (l : List Turn). r.front ++ l) none ∙ append-nil r.front) in
          rw e (rw same (r.starts, r.progress))
      | inr e ↦
          let f : r.ended ≡ true = r.flag ∙ rw e refl in
          let some = some_started (pass c agents p).starts e in
          let less : length (pass c agents p).left ≤ k = omega (arith, l, fewer c agents p, some) in
          let on : AreTurns (pass_over (pass c agents p).left) r.rest = subst (λ (b : Bool). AreTurns (followed [] (pass c agents p).left b) r.rest) f r.after in
          let m = in_all_turns k c (pass c agents p).left (pass c agents p).progress r.rest less on r.answered in
          let both : started_in turns ≡ started_in r.front ++ started_in r.rest = ap started_in r.all ∙ started_more r.front r.rest in
          rw e (rw both (
            rw (starts_more c (started_in r.front) (started_in r.rest) p) (rw r.starts (rw r.progress (rw m.0 refl))),
            rw (after_more c (started_in r.front) (started_in r.rest) p) (rw r.progress m.1),
          ))
    ]

pub turns_taken : (c : Site) (named : List ℕ) (p : Progress) (turns : List Turn) → AreTurns (pass_over (agents_for c.drivers p.handles named)) turns → AreAnswered c p turns
    → (starts_in_turn c (started_in turns) p ≡ (starts_on c named p).starts) × (after_starts c (started_in turns) p ≡ (starts_on c named p).progress)
turns_taken c named p turns h a = in_all_turns (length (agents_for c.drivers p.handles named)) c (agents_for c.drivers p.handles named) p turns (omega arith) h a
