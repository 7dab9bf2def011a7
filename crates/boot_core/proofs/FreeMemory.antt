-- FreePages runs out of memory only where none is reserved, and FreePool never.
use Rattle.std.proofs.Common.{◌≡◌, ◌≢◌, ◌<◌, ℕ, Bool, true, false, Result, Err, subst, arith}
use Rattle.page_ranges.specs.declared.statuses.Status.{Status}
use Rattle.page_ranges.specs.declared.statuses.Status.TheVariants as status
use Rattle.page_services.specs.PageRules.{FreesPages}
use Rattle.boot_calls.specs.declared.calls.Call.TheVariants as call
use Rattle.boot_replies.specs.declared.replies.Reply.{Reply}
use Rattle.boot_replies.specs.declared.replies.Reply.TheVariants as reply
use Rattle.boot_core.specs.Machines.{Parts, State}
use Rattle.boot_core.specs.Steps.{Setting, Answers, StepBy}

-- what is answered for lack of memory says of FreePages that none is reserved, and is no answer of FreePool
pages_refused : {A : Type 0} (S : Setting) (exited : Bool) (old new : Parts) (address pages : ℕ) (answer : Reply A) → Answers S exited old (call.FreePages address pages) answer new → answer ≡ reply.FreePages (Err status.OutOfResources) → old.book.frees ≡ 0
pages_refused S true old new address pages answer (result, e, h) out = let refused = h.0 in absurd (cc)
pages_refused S false old new address pages answer (result, e, h) out =
    let same : result ≡ Err status.OutOfResources = cc in
    let rule : FreesPages old.book address pages (Err status.OutOfResources) new.book = subst (λ (r : Result (Unit {0}) Status). FreesPages old.book address pages r new.book) same h.0 in
    rule.3

pool_serves : {A : Type 0} (S : Setting) (exited : Bool) (old new : Parts) (address : ℕ) (answer : Reply A) → Answers S exited old (call.FreePool address) answer new → answer ≢ reply.FreePool (Err status.OutOfResources)
pool_serves S true old new address answer (result, e, h) out = let refused = h.0 in absurd (cc)
pool_serves S false old new address answer (result, e, h) out =
    let same : result ≡ Err status.OutOfResources = cc in
    h.0 same

pub never_refused : {A : Type 0} (S : Setting) (old : State) (address pages : ℕ) (answer : Reply A) (new : State) →
    (0 < old.parts.book.frees → StepBy S old (call.FreePages address pages) answer new → answer ≢ reply.FreePages (Err status.OutOfResources)) × (StepBy S old (call.FreePool address) answer new → answer ≢ reply.FreePool (Err status.OutOfResources))
never_refused S old address pages answer new = (
  λ some step out. omega (arith, some, pages_refused S old.exited old.parts new.parts address pages answer step.answers out),
  λ step. pool_serves S old.exited old.parts new.parts address answer step.answers,
)
