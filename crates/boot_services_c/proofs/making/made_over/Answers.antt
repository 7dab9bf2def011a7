use Rattle.std.proofs.Common.{refl}
use Rattle.boot_services_c.proofs.MadeOver.{made_over}
use Rattle.boot_services_c.proofs.making.made_over.Goals as goal

pub returns-clause-over : goal.returns-clause-over
returns-clause-over c =
    rw c.ok_or.ensures.value (made_over c.args.first c.in_ok-core.core (_, c.in_ok-core.ensures.memory, refl) c.pointer_to.result c.number-2.result c.pointer_to.ensures)
