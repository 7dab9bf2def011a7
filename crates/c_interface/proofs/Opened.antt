-- What a call that opens an interface leaves in the caller's variable.
use Rattle.std.proofs.Common.{◌≡◌, ◌∙◌, ℕ, true, false, Option, Result, Ok, Err, inl, inr, refl, ap}
use Rattle.page_ranges.specs.Statuses.{status_number}
use Rattle.page_ranges.specs.declared.statuses.Status.{Status}
use Rattle.boot_calls.specs.declared.calls.Call.{Call}
use Rattle.boot_replies.specs.declared.replies.Reply.TheVariants as reply
use Rattle.c_interface.specs.EfiCores.{EfiCoreValue}
use Rattle.c_interface.specs.Opening.{AnswersOpen, given_by, is_giving, named_value}
use Rattle.c_interface.specs.Replies.{number_in, opened_or, returned_or, status_in, value_or}
use Rattle.c_interface.specs.Served.{AnswersNumber, aborted}

-- what is given by the number of a status that is returned
abbrev pub GivesNamed : Option ℕ → ℕ → ℕ → ℕ → Type 0
GivesNamed value returned status result =
    ((s : Status) → status ≡ status_number s → result ≡ given_by s value returned) × (status ≡ aborted → result ≡ returned)

-- the variable is left with TEST_PROTOCOL
pub tested : {A : Type 0} (old new : EfiCoreValue A) (c : Call A) (before status opened : ℕ) → is_giving c ≡ false → AnswersNumber old c before status opened new → AnswersOpen old c before status before new
tested old new c before status opened g (inl (answer, s, e, is)) = inl (answer, s, e, rw g refl)
tested old new c before status opened g (inr (spent, e, is)) = inr (spent, e, refl)

-- and is given what the call gives with any other attributes
pub opened_gives : {A : Type 0} (old new : EfiCoreValue A) (c : Call A) (before status opened after : ℕ) → is_giving c ≡ true → AnswersNumber old c before status opened new
    → GivesNamed (named_value new.core.state.parts.lists.handles c) opened status after → AnswersOpen old c before status after new
opened_gives old new c before status opened after g (inl (answer, s, e, is)) h =
    let value = named_value new.core.state.parts.lists.handles c in
    inl (answer, s, e, rw g (h.0 (status_in answer) e ∙ ap (λ (n : ℕ). given_by (status_in answer) value n) is))
opened_gives old new c before status opened after g (inr (spent, e, is)) h = inr (spent, e, h.1 e ∙ is)

-- ---- the value of a service that looks one up

pub value_opened : (A : Type 0) (before : ℕ) (opened : Result (Option ℕ) Status) → opened_or before opened ≡ returned_or before (number_in {A = A} (reply.OpenProtocol opened))
value_opened A before (Ok value) = refl
value_opened A before (Err status) = refl

pub value_found : (A : Type 0) (before : ℕ) (found : Result ℕ Status) → value_or before found ≡ returned_or before (number_in {A = A} (reply.HandleProtocol found))
value_found A before (Ok value) = refl
value_found A before (Err status) = refl

pub value_located : (A : Type 0) (before : ℕ) (located : Result ℕ Status) → value_or before located ≡ returned_or before (number_in {A = A} (reply.LocateProtocol located))
value_located A before (Ok value) = refl
value_located A before (Err status) = refl
