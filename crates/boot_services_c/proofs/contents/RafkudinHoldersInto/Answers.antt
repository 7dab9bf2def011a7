use Rattle.std.proofs.Common.{subst}
use Rattle.c_interface.specs.Questions.{FillsWith, holders}
use Rattle.boot_services_c.specs.Cores.{Core}
use Rattle.boot_services_c.proofs.contents.RafkudinHoldersInto.Goals as goal

pub returns-clause-returned : goal.returns-clause-returned
returns-clause-returned c = subst (λ (core : Core). FillsWith (holders core c.args.guid.now) c.holders.result c.args.buffer.now c.holders.new.count c.holders.new.buffer) c.held.ensures.value c.holders.ensures
