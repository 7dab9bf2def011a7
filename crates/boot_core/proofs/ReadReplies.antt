-- Reads of the pool's bytes into a buffer of the caller's.
use Rattle.std.proofs.Common.{◌≡◌, ◌≤◌, ℕ, Bool, true, false, List, [], ◌++◌, length, take, take_all, drop, Result, Ok, Err, refl, sym, ap, subst, ◌∙◌, arith, append-nil, Vec}
use Rattle.std.proofs.lemmas.List.{drop_all, length-take-le}
use Rattle.page_ranges.specs.declared.statuses.Status.{Status}
use Rattle.page_ranges.specs.declared.statuses.Status.TheVariants.{Success, InvalidParameter, Unsupported}
use Rattle.pool_services.specs.Extents.{Extent}
use Rattle.pool_services.specs.PoolRules.{ReadsPool}
use Rattle.driver_connect.specs.Drivers.{Meaning}
use Rattle.boot_calls.specs.declared.calls.Call.TheVariants.{PoolRead}
use Rattle.boot_replies.specs.declared.replies.Reply.TheVariants as reply
use Rattle.boot_core.specs.Machines.{Parts, State}
use Rattle.boot_core.specs.PoolCalls.{AnswersRead}
use Rattle.boot_replies.specs.Returned.{returned_status}
use Rattle.boot_core.specs.Steps.{WhileOpen, ReadStep, Step}
use Rattle.boot_core.specs.Laws.{read_size}

-- what a call returns, with the bytes that were used, and the buffer after them
abbrev IsReturned : List Extent → ℕ → List ℕ → List ℕ → List ℕ → Status → Type 0
IsReturned es address buffer after used status = AnswersRead es address (length buffer) status used × (after ≡ used ++ drop (length used) buffer)

whole_read : (es : List Extent) (address : ℕ) (buffer after used : List ℕ) (done : Unit {0}) → ReadsPool es address buffer (Ok done) after → used ≡ take (length buffer) after → IsReturned es address buffer after used Success
whole_read es address buffer after used done (bytes, here, room, is) e =
    let long : length after ≡ length buffer = ap (λ (ys : List ℕ). length ys) is ∙ length-take-le (length buffer) bytes room in
    let same : used ≡ after = e ∙ take_all (length buffer) after (omega (arith, long)) in
    let count : length buffer ≤ length used = omega (arith, long, ap (λ (ys : List ℕ). length ys) same) in (
      (bytes, here, room, same ∙ is),
      sym same ∙ sym (append-nil used) ∙ ap (λ (ys : List ℕ). used ++ ys) (sym (drop_all (length used) buffer count)),
    )

refused_read : (es : List Extent) (address : ℕ) (buffer after used : List ℕ) → ReadsPool es address buffer (Err InvalidParameter) after → used ≡ [] → IsReturned es address buffer after used InvalidParameter
refused_read es address buffer after used (outside, is) none = ((outside, none), is ∙ sym (ap (λ (ys : List ℕ). ys ++ drop (length ys) buffer) none))

returned_read : (es : List Extent) (address : ℕ) (buffer after used : List ℕ) (result : Result (Unit {0}) Status) (status : Status) → status ≡ returned_status result → ReadsPool es address buffer result after → used ≡ take (read_size status (length buffer)) after → IsReturned es address buffer after used status
returned_read es address buffer after used (Ok done) status returned h e =
    subst (IsReturned es address buffer after used) (sym returned) (whole_read es address buffer after used done h (e ∙ ap (λ (s : Status). take (read_size s (length buffer)) after) returned))
returned_read es address buffer after used (Err InvalidParameter) status returned h e =
    subst (IsReturned es address buffer after used) (sym returned) (refused_read es address buffer after used h (e ∙ ap (λ (s : Status). take (read_size s (length buffer)) after) returned))
returned_read es address buffer after used (Err other) status returned h e = absurd h

-- what a step of it answers, and its buffer
abbrev Reads : Parts → Parts → ℕ → List ℕ → Status → List ℕ → Type 0
Reads old new address buffer status after = (result : Result (Unit {0}) Status) × (status ≡ returned_status result) × ReadsPool old.pools address buffer result after × (new ≡ old)

read_open : (exited : Bool) (old new : Parts) (address : ℕ) (buffer after used : List ℕ) (status : Status) → WhileOpen exited old new (Reads old new address buffer status after) ((status ≡ Unsupported) × (after ≡ buffer)) → used ≡ take (read_size status (length buffer)) after →
    WhileOpen exited old new (AnswersRead old.pools address (length buffer) status used × (new ≡ old)) ((status ≡ Unsupported) × (used ≡ [])) × (after ≡ used ++ drop (length used) buffer)
read_open true old new address buffer after used status h e =
    let none : used ≡ [] = e ∙ ap (λ (s : Status). take (read_size s (length buffer)) after) h.0.0 in
    (((h.0.0, none), h.1), h.0.1 ∙ sym (ap (λ (ys : List ℕ). ys ++ drop (length ys) buffer) none))
read_open false old new address buffer after used status (result, returned, reads, same) e =
    let is = returned_read old.pools address buffer after used result status returned reads e in
    ((is.0, same), is.1)

pub read_step : {A : Type 0} (ds : List Meaning) (old : State) (address : ℕ) (buffer : List ℕ) (status : Status) (after : List ℕ) (new : State) (used : Vec ℕ A) → ReadStep old address buffer status after new → used.items ≡ take (read_size status (length buffer)) after →
    Step ds old (PoolRead address (length buffer)) (reply.PoolRead status used) new × (after ≡ used.items ++ drop (length used.items) buffer)
read_step ds old address buffer status after new used step bytes =
    let is = read_open old.exited old.parts new.parts address buffer after used.items status step.answers bytes in
    (record { answers = (status, used, refl, is.0); exited = step.exited; calls_left = step.calls_left }, is.1)
