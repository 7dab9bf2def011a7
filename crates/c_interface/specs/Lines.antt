-- What a trace line leaves in a core.
use Rattle.std.specs.Prelude.{◌≡◌, ◌⊎◌, ℕ, List}
use Rattle.page_ranges.specs.Statuses.{status_number}
use Rattle.page_ranges.specs.declared.statuses.Status.TheVariants.{Success, InvalidParameter, OutOfResources}
use Rattle.trace_lines.specs.TraceLine.{line_of}
use Rattle.trace_lines.specs.declared.run_faults.RunFault.{RunFault}
use Rattle.trace_lines.specs.declared.run_faults.RunFault.TheVariants as fault
use Rattle.boot_trace.specs.TraceRuns.{Prints, StopsAt}
use Rattle.c_interface.specs.EfiCores.{EfiCoreValue, meanings}
use Rattle.c_interface.specs.LastCalls.{nothing_left}
use Rattle.c_interface.specs.Served.{aborted}
use Rattle.c_interface.specs.declared.efi_core.LastBlock.{LastBlock}
use Rattle.c_interface.specs.declared.efi_core.LastBlock.TheVariants as block

-- the text that is left of a line
abbrev pub IsLeft : {A : Type 0} → List ℕ → LastBlock A → Type 0
IsLeft text (block.Text bytes) = bytes.items ≡ text
IsLeft text other = ⊥

-- The status of what stopped a line. Of a line that is none of a trace something may be left.
abbrev pub StatusOfFault : {A : Type 0} → RunFault → ℕ → LastBlock A → Type 0
StatusOfFault (fault.Line number e) status left = status ≡ status_number InvalidParameter
StatusOfFault fault.NoCallsLeft status left = (status ≡ aborted) × (left ≡ block.Nothing)
StatusOfFault fault status left = (status ≡ status_number OutOfResources) × (left ≡ block.Nothing)

-- Nothing but the state and what is left of the last call changes.
pub record KeepsCore {A : Type 0} (old new : EfiCoreValue A) : Type 0 where
  pub given : new.core.given ≡ old.core.given
  pub certifies : new.certifies ≡ old.certifies
  pub keeps_replies : new.keeps_replies ≡ old.keeps_replies
  pub last : new.last ≡ nothing_left

-- SUCCESS, and what is printed of the line is left; or the line stopped, and the status says why.
abbrev pub RunsLine : {A : Type 0} → ℕ → List ℕ → EfiCoreValue A → ℕ → EfiCoreValue A → Type 0
RunsLine {A = A} number line old status new =
    KeepsCore old new
    × (((text : List ℕ) × (status ≡ status_number Success) × IsLeft text new.block
    × Prints A (meanings old) old.certifies number
    (line_of line) old.core.state text new.core.state)
    ⊎ ((e : RunFault) × StatusOfFault e status new.block
    × StopsAt A (meanings old) old.certifies e number (line_of line) old.core.state new.core.state))
