use Rattle.call_texts.proofs.ReadCalls.{printed_call}
use Rattle.call_texts.proofs.laws.printed_call_law.Goals as goal

pub returns : goal.returns
returns g c = λ asked numbers within. printed_call asked numbers within
