-- Runs, call after call.
use Rattle.std.proofs.Common.{◌≡◌, ℕ, ◌+◌, ◌<◌, List, [], ◌∷◌, ◌++◌, length, take, get_or, refl, subst}
use Rattle.std.proofs.lemmas.List.{take_more}
use Rattle.boot_calls.specs.declared.calls.Call.{Call}
use Rattle.boot_replies.specs.declared.replies.Reply.{Reply}
use Rattle.boot_core.specs.Machines.{State}
use Rattle.boot_core.specs.Steps.{Setting, StepBy, CallRunBy}

-- a run goes on by a step
pub run_on : {A : Type 0} (S : Setting) (old : State) (calls : List (Call A)) (replies : List (Reply A)) (mid : State) (call : Call A) (reply : Reply A) (new : State) → CallRunBy S old calls replies mid → StepBy S mid call reply new → CallRunBy S old (calls ++ call ∷ []) (replies ++ reply ∷ []) new
run_on S old [] [] mid call reply new run step = (new, subst (λ (s : State). StepBy S s call reply new) run step, refl)
run_on S old (c ∷ calls) (r ∷ replies) mid call reply new run step = (run.0, run.1, run_on S run.0 calls replies mid call reply new run.2 step)
run_on S old [] (r ∷ replies) mid call reply new run step = absurd run
run_on S old (c ∷ calls) [] mid call reply new run step = absurd run

-- a run on the calls before an index goes on by the call at the index
pub run_more : {A : Type 0} (S : Setting) (old : State) (calls : List (Call A)) (i : ℕ) (default : Call A) (replies more : List (Reply A)) (mid : State) (reply : Reply A) (new : State) → i < length calls → CallRunBy S old (take i calls) replies mid → StepBy S mid (get_or calls i default) reply new → more ≡ replies ++ reply ∷ [] → CallRunBy S old (take (i + 1) calls) more new
run_more S old calls i default replies more mid reply new inside run step e =
    let taken = take_more calls i default inside in
    rw (e, taken) (run_on S old (take i calls) replies mid (get_or calls i default) reply new run step)
