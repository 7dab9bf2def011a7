-- A device path of a caller's memory that is located.
use Rattle.std.proofs.Common.{◌≡◌, ℕ, List, Result, ap, subst, ◌∙◌, inl}
use Rattle.page_ranges.specs.Statuses.{status_number}
use Rattle.page_ranges.specs.declared.statuses.Status.{Status}
use Rattle.driver_connect.specs.declared.table.TableDriver.{TableDriver}
use Rattle.boot_core.specs.Machines.{CoreValue}
use Rattle.boot_core.specs.PathSteps.{LocateStep}
use Rattle.c_interface.specs.EfiCores.{EfiCoreValue, forgotten}
use Rattle.c_interface.specs.Replies.{returned_status}
use Rattle.c_interface.specs.Paths.{AnswersPath, found_or}

-- a core from which the call before is forgotten makes the call
pub located_here : {A : Type 0} (old begun new : EfiCoreValue A) (guid named path : List ℕ) (found : Result (ℕ × ℕ) Status) (before after : ℕ × ℕ) (status : ℕ) → begun ≡ forgotten old → guid ≡ named →
    LocateStep begun.core.state guid path found new.core.state → new.core.given ≡ begun.core.given → new.certifies ≡ begun.certifies → new.keeps_replies ≡ begun.keeps_replies → new.last ≡ begun.last → new.block ≡ begun.block →
    status ≡ status_number (returned_status found) → after ≡ found_or before found → AnswersPath old named path before status after new
located_here {A = A} old begun new guid named path found before after status e g step given certifies keeps last block is numbers =
    let core = ap (λ (x : EfiCoreValue A). x.core) e in
    inl (
      found,
      subst (λ (name : List ℕ). LocateStep old.core.state name path found new.core.state) g (subst (λ (c : CoreValue TableDriver). LocateStep c.state guid path found new.core.state) core step),
      record {
        given = given ∙ ap (λ (x : EfiCoreValue A). x.core.given) e;
        certifies = certifies ∙ ap (λ (x : EfiCoreValue A). x.certifies) e;
        keeps_replies = keeps ∙ ap (λ (x : EfiCoreValue A). x.keeps_replies) e;
        last = last ∙ ap (λ (x : EfiCoreValue A). x.last) e;
        block = block ∙ ap (λ (x : EfiCoreValue A). x.block) e;
      },
      is,
      numbers,
    )
