-- UninstallMultipleProtocolInterfaces, which no call of a trace names.
use Rattle.std.specs.Prelude.{◌≡◌, ℕ, ◌+◌, List, length, map, Result, Ok, Err}
use Rattle.page_ranges.specs.declared.statuses.Status.{Status}
use Rattle.page_ranges.specs.declared.statuses.Status.TheVariants.{Unsupported}
use Rattle.boot_calls.specs.declared.calls.Call.{Call}
use Rattle.boot_calls.specs.declared.calls.Call.TheVariants as call
use Rattle.boot_replies.specs.declared.replies.Reply.{Reply}
use Rattle.boot_replies.specs.declared.replies.Reply.TheVariants as reply
use Rattle.driver_connect.specs.Drivers.{Meaning}
use Rattle.protocol_services.specs.RemovingMany.{UninstallsMany}
use Rattle.boot_core.specs.Machines.{CoreValue, State, leaving}
use Rattle.boot_core.specs.Steps.{CallRun, IsCounted, OnLists, WhileOpen}

-- What it returns, and the machine after it, which changes in the lists alone, with one call less.
pub record UninstallStep (ds : List Meaning) (old : State) (handle : ℕ)
    (pairs : List (List ℕ × ℕ)) (result : Result (Unit {0}) Status) (new : State) : Type 0 where
  pub answers : WhileOpen old.exited old.parts new.parts
      (OnLists (UninstallsMany ds old.parts.lists handle pairs result) old.parts new.parts)
      (result ≡ Err Unsupported)
  pub exited : new.exited ≡ old.exited
  pub calls_left : IsCounted old new

-- the same of a core with its drivers
abbrev pub UninstallsAll : {D : Type 0} → (D → Meaning) → CoreValue D → ℕ → List (List ℕ × ℕ)
    → Result (Unit {0}) Status → CoreValue D → Type 0
UninstallsAll meaning old handle pairs result new =
    UninstallStep (map meaning old.given.drivers) old.state handle pairs result new.state

-- the calls of UninstallProtocolInterface for some pairs on a handle, and their replies
abbrev pub uninstalls : (A : Type 0) → ℕ → List (List ℕ × ℕ) → List (Call A)
uninstalls A handle pairs = map (λ p. call.UninstallProtocolInterface handle p.0 p.1) pairs

abbrev pub all_done : (A : Type 0) → List (List ℕ × ℕ) → List (Reply A)
all_done A pairs = map (λ p. reply.UninstallProtocolInterface (Ok tt)) pairs

-- Where it succeeds, it leaves the machine as UninstallProtocolInterface of each pair does, one after
-- the other, but for the number of calls left.
abbrev pub UninstallRunLaw : Type 0 → Type 0
UninstallRunLaw A = (ds : List Meaning) (old : State) (handle : ℕ) (pairs : List (List ℕ × ℕ))
    (new : State) (calls : ℕ) → UninstallStep ds old handle pairs (Ok tt) new
    → CallRun ds (leaving (length pairs + calls) old) (uninstalls A handle pairs) (all_done A pairs)
    (leaving calls new)
