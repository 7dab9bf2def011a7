-- LocateDevicePath with a path in the caller's memory.
use Rattle.std.specs.Prelude.{◌≡◌, ℕ, List, Some, Result, Err}
use Rattle.page_ranges.specs.declared.statuses.Status.{Status}
use Rattle.page_ranges.specs.declared.statuses.Status.TheVariants.{Unsupported}
use Rattle.pool_services.specs.Extents.{tail_at}
use Rattle.device_path_locate.specs.Locating.{answer_at, located_bytes}
use Rattle.driver_connect.specs.Drivers.{Meaning}
use Rattle.boot_calls.specs.declared.calls.Call.TheVariants as call
use Rattle.boot_replies.specs.declared.replies.Reply.TheVariants as reply
use Rattle.boot_core.specs.Machines.{State}
use Rattle.boot_core.specs.Steps.{IsCounted, Step, WhileOpen}

-- What LocateDevicePath does with a path in the caller's memory, given by its bytes: what it finds,
-- and the machine, which is as it was but for one call less.
pub record LocateStep (old : State) (guid bytes : List ℕ) (found : Result (ℕ × ℕ) Status)
    (new : State) : Type 0 where
  pub answers : WhileOpen old.exited old.parts new.parts
      ((found ≡ located_bytes old.parts.lists.handles old.parts.pools guid bytes)
      × (new.parts ≡ old.parts))
      (found ≡ Err Unsupported)
  pub exited : new.exited ≡ old.exited
  pub calls_left : IsCounted old new

-- It is a step of the machine as if the bytes lay in a block of the pool: where they do, with what
-- the call of their address returns.
abbrev pub LocateStepLaw : Type 0 → Type 0
LocateStepLaw A =
    (ds : List Meaning) (old : State) (guid bytes : List ℕ) (address : ℕ)
    (found : Result (ℕ × ℕ) Status) (new : State) →
    LocateStep old guid bytes found new → tail_at address old.parts.pools ≡ Some bytes →
    Step {A = A} ds old (call.LocateDevicePath guid address)
    (reply.LocateDevicePath (answer_at address found)) new
