use Rattle.c_interface.proofs.BufferLaws.{printed_map}
use Rattle.c_interface.proofs.laws.printed_map_law.Goals as goal

pub returns : goal.returns
returns g c = λ old new core map new_map before after status f buffer new_buffer size new_size answers is prints. printed_map old new core map new_map before after status f buffer new_buffer size new_size answers is prints
