use Rattle.std.proofs.Common.{◌≡◌, List, sym, subst}
use Rattle.driver_connect.specs.declared.table.TableDriver.{TableDriver}
use Rattle.c_machines.specs.DriverTables.{PutsOneBehind}
use Rattle.c_machines.proofs.Behind.{put_behind}
use Rattle.c_machines.proofs.drivers.push_empty.Goals as goal

pub returns-clause-ok : goal.returns-clause-ok
returns-clause-ok g c =
    subst (λ (new : List TableDriver). PutsOneBehind c.args.drivers.now.items new) (sym c.in_ok-push.ensures.items) (put_behind c.args.drivers.now.items _)
