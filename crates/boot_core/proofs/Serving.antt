-- How a service's own rule makes its step.
use Rattle.std.proofs.Common.{◌≡◌, Bool, true, false, cond, Result, Ok, Err}
use Rattle.page_ranges.specs.declared.statuses.Status.{Status}
use Rattle.page_ranges.specs.declared.statuses.Status.TheVariants as status
use Rattle.boot_core.specs.Machines.{Parts}
use Rattle.boot_core.specs.Steps.{WhileOpen}

-- what a call receives when it begins
abbrev pub Begun : Bool → Result (Unit {0}) Status → Type 0
Begun exited begun = begun ≡ cond exited (Err status.Unsupported) (Ok tt)

-- it may go on, and keeps to the rule
pub open_rule : (exited : Bool) (old new : Parts) (Rule Refusal : Type 0) (begun : Result (Unit {0}) Status) (u : Unit {0}) → Begun exited begun → begun ≡ Ok u → Rule → WhileOpen exited old new Rule Refusal
open_rule true old new Rule Refusal begun u e ok rule = absurd (cc)
open_rule false old new Rule Refusal begun u e ok rule = rule

-- it is refused
pub exited_refusal : (exited : Bool) (old new : Parts) (Rule Refusal : Type 0) (begun : Result (Unit {0}) Status) (s : Status) → Begun exited begun → begun ≡ Err s → (s ≡ status.Unsupported → Refusal) → new ≡ old → WhileOpen exited old new Rule Refusal
exited_refusal true old new Rule Refusal begun s e err refused same = (refused (cc), same)
exited_refusal false old new Rule Refusal begun s e err refused same = absurd (cc)
