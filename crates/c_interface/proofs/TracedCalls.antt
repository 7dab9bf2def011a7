-- What is returned of a call that a caller describes: its line, or why there is none.
use Rattle.std.proofs.Common.{◌≡◌, ℕ, List, Option, Some, None, Ok, Err, refl, ap, subst, ◌∙◌}
use Rattle.page_ranges.specs.Statuses.{status_number}
use Rattle.page_ranges.specs.declared.statuses.Status.{Status}
use Rattle.boot_calls.specs.declared.calls.Call.{Call}
use Rattle.c_interface.specs.declared.efi_core.LastBlock.{LastBlock}
use Rattle.c_interface.specs.declared.efi_core.LastBlock.TheVariants as block
use Rattle.c_interface.specs.CallFields.{MakesCall}
use Rattle.c_interface.specs.CallLines.{HasLine, ReturnsCall}
use Rattle.c_interface.specs.Served.{ReturnsBlock}

-- the line of a call that is made
pub made_returns : {A : Type 0} (wanted : Option (Call A)) (made : Call A) (line : LastBlock A) (buffer : List ℕ) (size status : ℕ) (new_buffer : List ℕ) (new_size : ℕ) → MakesCall wanted (Ok made) → HasLine made line → ReturnsBlock line buffer size status new_buffer new_size → ReturnsCall wanted buffer size status new_buffer new_size
made_returns None made line buffer size status new_buffer new_size wrong h r = absurd wrong
made_returns (Some c) made line buffer size status new_buffer new_size e h r = (line, subst (λ c. HasLine c line) e h, r)

-- no line of a call that is not made
pub refused_returns : {A : Type 0} (wanted : Option (Call A)) (refusal : Status) (buffer : List ℕ) (size status : ℕ) → MakesCall wanted (Err refusal) → status ≡ status_number refusal → ReturnsCall wanted buffer size status buffer size
refused_returns None refusal buffer size status e n = (n ∙ ap status_number e, refl, refl)
refused_returns (Some c) refusal buffer size status e n = (block.OutOfMemory, e.1, (n ∙ ap status_number e.0, refl, refl))
