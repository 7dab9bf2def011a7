use Rattle.std.proofs.Common.{◌≡◌, ℕ, Option, Some, None, refl, ap, ◌∙◌}
use Rattle.std.specs.Option.{ok_or}
use Rattle.text_lines.specs.FirstFault.{or_fault}
use Rattle.trace_lines.specs.declared.faults.TraceFault.TheVariants as fault
use Rattle.trace_lines.proofs.parameters.read_u64.Goals as goal

returned : (o : Option ℕ) → ok_or o fault.Number ≡ or_fault fault.Number o
returned (Some number) = refl
returned None = refl

pub returns : goal.returns
returns c = c.ok_or.ensures.value ∙ returned c.number_of.result ∙ ap (λ (o : Option ℕ). or_fault fault.Number o) c.number_of.ensures
