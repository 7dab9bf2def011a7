use Rattle.std.proofs.Common.{subst}
use Rattle.boot_calls.specs.declared.calls.Call.TheVariants as call
use Rattle.c_interface.specs.Served.{AnswersNumbers}
use Rattle.c_interface.proofs.efi_core.EfiCore.locate_handle_buffer.Goals as goal

pub returns : goal.returns
returns g c = subst (λ guid. AnswersNumbers c.args.self.now (call.LocateHandleBuffer c.args.search guid c.args.key) (c.args.count.now, c.args.buffer.now) c.answer_numbers.result (c.answer_numbers.new.first, c.answer_numbers.new.second) c.answer_numbers.new.self) c.uuid-guid.ensures c.answer_numbers.ensures
