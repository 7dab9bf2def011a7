use Rattle.c_interface.proofs.BufferLaws.{printed_read}
use Rattle.c_interface.proofs.laws.printed_read_law.Goals as goal

pub returns : goal.returns
returns g c = λ old new core address bytes new_bytes status f buffer new_buffer size new_size answers is prints. printed_read old new core address bytes new_bytes status f buffer new_buffer size new_size answers is prints
