-- LocateDevicePath with a path in the caller's memory.
use Rattle.std.proofs.Common.{◌≡◌, ℕ, Bool, true, false, List, Some, Result, Err, refl, sym, ap, ◌∙◌}
use Rattle.page_ranges.specs.declared.statuses.Status.{Status}
use Rattle.page_ranges.specs.declared.statuses.Status.TheVariants.{Unsupported}
use Rattle.pool_services.specs.Extents.{tail_at}
use Rattle.device_path_locate.specs.Locating.{answer_at, located, located_by, located_bytes}
use Rattle.driver_connect.specs.Drivers.{Meaning}
use Rattle.boot_calls.specs.declared.calls.Call.TheVariants as call
use Rattle.boot_replies.specs.declared.replies.Reply.TheVariants as reply
use Rattle.boot_core.specs.Machines.{Parts, State}
use Rattle.boot_core.specs.PathSteps.{LocateStep}
use Rattle.boot_core.specs.Steps.{Step, WhileOpen}

-- what is found of the bytes at an address is what is returned for the address
located_there : (exited : Bool) (old new : Parts) (guid bytes : List ℕ) (address : ℕ) (found : Result (ℕ × ℕ) Status) → tail_at address old.pools ≡ Some bytes →
    WhileOpen exited old new ((found ≡ located_bytes old.lists.handles old.pools guid bytes) × (new ≡ old)) (found ≡ Err Unsupported) →
    WhileOpen exited old new ((answer_at address found ≡ located old.lists.handles old.pools guid address) × (new ≡ old)) (answer_at address found ≡ Err Unsupported)
located_there true old new guid bytes address found here (refused, same) = (ap (answer_at address) refused, same)
located_there false old new guid bytes address found here (is, same) =
    (ap (answer_at address) is ∙ sym (ap (located_by old.lists.handles old.pools guid address) here), same)

pub locate_step : {A : Type 0} (ds : List Meaning) (old : State) (guid bytes : List ℕ) (address : ℕ) (found : Result (ℕ × ℕ) Status) (new : State) → LocateStep old guid bytes found new → tail_at address old.parts.pools ≡ Some bytes →
    Step {A = A} ds old (call.LocateDevicePath guid address) (reply.LocateDevicePath (answer_at address found)) new
locate_step ds old guid bytes address found new step here =
    record {
      answers = (answer_at address found, refl, located_there old.exited old.parts new.parts guid bytes address found here step.answers);
      exited = step.exited;
      calls_left = step.calls_left;
    }
