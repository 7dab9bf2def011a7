-- Keys, along runs.
use Rattle.std.proofs.Common.{◌≡◌, ◌↔◌, ℕ, ◌+◌, ◌-◌, ◌≤◌, Bool, true, false, List, [], ◌∷◌, Result, Ok, Err, refl, sym, ap, subst, ◌∙◌, inl, inr, arith}
use Rattle.page_ranges.specs.declared.statuses.Status.{Status}
use Rattle.page_ranges.specs.declared.statuses.Status.TheVariants as status
use Rattle.page_services.proofs.Choices.{Permits}
use Rattle.boot_calls.specs.declared.calls.Call.{Call}
use Rattle.boot_calls.specs.declared.calls.Call.TheVariants as call
use Rattle.boot_replies.specs.declared.replies.Reply.{Reply}
use Rattle.boot_replies.specs.declared.replies.Reply.TheVariants as reply
use Rattle.map_keys.specs.declared.memory_maps.MapReply.{MapReply}
use Rattle.boot_core.specs.Machines.{Parts, State, AreSound}
use Rattle.boot_core.specs.Steps.{Setting, Answers, Exits, StepBy, CallRunBy}
use Rattle.boot_core.specs.Laws.{ChangesNoType, ChangesTypes, ReturnsKey, GivesKey}
use Rattle.boot_calls.specs.CallNumbers.{NamesTypes}
use Rattle.boot_core.proofs.MapReplies.{returned_key, returned_directly}
use Rattle.boot_core.proofs.Outcomes.{key_rises, type_or_not, outcome}
use Rattle.boot_core.proofs.Soundness.{stays_sound}

-- what a successful reply of GetMemoryMap says of its key, and of the parts after it
key_in : {A : Type 0} (exited : Bool) (old : Parts) (size key : ℕ) (S : Setting) (answer : Reply A) (new : Parts) → Answers S exited old (call.GetMemoryMap size) answer new → ReturnsKey answer key → (key ≡ old.book.key) × (new ≡ old)
key_in exited old size key S (reply.GetMemoryMap returned bytes) new (returned', bytes', e, h) (success, is) =
    let same : returned ≡ returned' = cc in
    let (key_is, parts) = returned_key exited old new size returned' bytes'.items h (ap (λ (r : MapReply). r.status) (sym same) ∙ success) in
    (sym is ∙ ap (λ (r : MapReply). r.key) same ∙ key_is, parts)
key_in exited old size key S answer new h t = absurd t

-- the key that GetMemoryMap gave is the current one
given_key : {A : Type 0} (S : Setting) (old : State) (key : ℕ) (new : State) → GivesKey S A old key new → (key ≡ old.parts.book.key) × (new.parts ≡ old.parts)
given_key S old key new (inl (size, answer, step, returns_key)) = key_in old.exited old.parts size key S answer new.parts step.answers returns_key
given_key S old key new (inr (buffer, after, returned, step, success, is)) =
    let (key_is, parts) = returned_directly old.exited old.parts new.parts buffer returned after step.answers success in
    (sym is ∙ key_is, parts)

-- what an answer to ExitBootServices says of the key
exit_by : {A : Type 0} (current key : ℕ) (answer : Reply A) (result : Result (Unit {0}) Status) → answer ≡ reply.ExitBootServices result → Exits current key result → (answer ≡ reply.ExitBootServices (Ok tt)) ↔ (key ≡ current)
exit_by current key answer (Ok done) e h = (λ same. h, λ same. e)
exit_by current key answer (Err status.InvalidParameter) e h = (λ same. absurd (cc), λ same. absurd (h same))
exit_by current key answer (Err other) e h = absurd h

exit_answer : {A : Type 0} (S : Setting) (exited : Bool) (old : Parts) (key : ℕ) (answer : Reply A) (new : Parts) → exited ≡ false → Answers S exited old (call.ExitBootServices key) answer new → (answer ≡ reply.ExitBootServices (Ok tt)) ↔ (key ≡ old.book.key)
exit_answer S true old key answer new open_still h = absurd (cc)
exit_answer S false old key answer new open_still (result, e, h) = exit_by old.book.key key answer result e h.0

module _ (S : Setting) (permits : Permits S.chosen) where
  keys_rise : {A : Type 0} (old : State) (calls : List (Call A)) (replies : List (Reply A)) (new : State) → AreSound old.parts → CallRunBy S old calls replies new → old.parts.book.key ≤ new.parts.book.key
  keys_rise old [] [] new sound run = omega (arith, ap (λ (s : State). s.parts.book.key) run)
  keys_rise old (c ∷ calls) (r ∷ replies) new sound (next, step, run) =
      let o = outcome S permits old.exited old.parts c r next.parts sound step.answers in
      omega (arith, key_rises (NamesTypes c) old.parts.book next.parts.book o, keys_rise next calls replies new (stays_sound S permits old.exited old.parts c r next.parts sound step.answers) run)
  keys_rise old [] (r ∷ replies) new sound run = absurd run
  keys_rise old (c ∷ calls) [] new sound run = absurd run

  -- a number of calls have changed a type where the key is higher by that number, and the other way round
  pub key_counts : {A : Type 0} (old : State) (calls : List (Call A)) (replies : List (Reply A)) (new : State) (run : CallRunBy S old calls replies new) (n : ℕ) → AreSound old.parts → ChangesTypes S old calls replies new run n ↔ (new.parts.book.key ≡ old.parts.book.key + n)
  key_counts old [] [] new run n sound =
      let same : new.parts.book.key ≡ old.parts.book.key = ap (λ (s : State). s.parts.book.key) run in
      (λ (none : n ≡ 0). omega (arith, same, none), λ (e : new.parts.book.key ≡ old.parts.book.key + n). omega (arith, same, e))
  key_counts old (c ∷ calls) (r ∷ replies) new (next, step, run) n sound =
      let o = outcome S permits old.exited old.parts c r next.parts sound step.answers in
      let still = stays_sound S permits old.exited old.parts c r next.parts sound step.answers in
      elim (type_or_not (NamesTypes c) old.parts.book next.parts.book o) [
        | inl (same, key) ↦
            let rest = key_counts next calls replies new run n still in (
              λ h. elim h [
                | inl (s, more) ↦ omega (arith, key, rest.0 more)
                | inr (differs, (others, e, more)) ↦ absurd (differs same)
              ],
              λ e. inl (same, rest.1 (omega (arith, key, e))),
            )
        | inr (differs, key) ↦ (
          λ h. elim h [
            | inl (same, more) ↦ absurd (differs same)
            | inr (d, (others, e, more)) ↦ let rest = (key_counts next calls replies new run others still).0 more in omega (arith, key, e, rest)
          ],
          λ e.
              let rises = keys_rise next calls replies new still run in
              let one : n ≡ n - 1 + 1 = omega (arith, key, e, rises) in
              inr (differs, (n - 1, one, (key_counts next calls replies new run (n - 1) still).1 (omega (arith, key, e, one)))),
        )
      ]
  key_counts old [] (r ∷ replies) new run n sound = absurd run
  key_counts old (c ∷ calls) [] new run n sound = absurd run

-- no call changes a type where none of them does
no_change : {A : Type 0} (S : Setting) (old : State) (calls : List (Call A)) (replies : List (Reply A)) (new : State) (run : CallRunBy S old calls replies new) → ChangesNoType S old calls replies new run ↔ ChangesTypes S old calls replies new run 0
no_change S old [] [] new run = (λ h. refl, λ h. tt)
no_change S old (c ∷ calls) (r ∷ replies) new (next, step, run) = (
  λ h. inl (h.0, (no_change S next calls replies new run).0 h.1),
  λ h. elim h [ inl (same, more) ↦ (same, (no_change S next calls replies new run).1 more) | inr (differs, (others, e, more)) ↦ let none : ⊥ = omega (arith, e) in absurd none ],
)
no_change S old [] (r ∷ replies) new run = absurd run
no_change S old (c ∷ calls) [] new run = absurd run

module _ (S : Setting) (permits : Permits S.chosen) where
  pub key_law : {A : Type 0} (first old : State) (key : ℕ) (calls : List (Call A)) (replies : List (Reply A)) (new : State) (run : CallRunBy S old calls replies new) (answer : Reply A) (after : State) →
      AreSound first.parts → GivesKey S A first key old → new.exited ≡ false → StepBy S new (call.ExitBootServices key) answer after →
      (answer ≡ reply.ExitBootServices (Ok tt)) ↔ ChangesNoType S old calls replies new run
  key_law first old key calls replies new run answer after sound gives open_still step =
      let (is_key, same) = given_key S first key old gives in
      let still : AreSound old.parts = subst AreSound (sym same) sound in
      let at_first : key ≡ old.parts.book.key = is_key ∙ sym (ap (λ (p : Parts). p.book.key) same) in
      let exit = exit_answer S new.exited new.parts key answer after.parts open_still step.answers in
      let none = no_change S old calls replies new run in
      let counts = key_counts S permits old calls replies new run 0 still in
      (λ e. none.1 (counts.1 (omega (arith, exit.0 e, at_first))), λ h. exit.1 (omega (arith, counts.0 (none.0 h), at_first)))
