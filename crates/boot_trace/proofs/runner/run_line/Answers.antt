-- One search and no second tactic after it: a body that is wrong is then refused sooner.
use Rattle.std.proofs.Common.{inl, refl, rules}
use Rattle.boot_trace.proofs.runner.run_line.Goals as goal

pub returns-in-Ok-None-clause-ok : goal.returns-in-Ok-None-clause-ok
returns-in-Ok-None-clause-ok g c = search rules

pub returns-in-Ok-None-clause-err : goal.returns-in-Ok-None-clause-err
returns-in-Ok-None-clause-err g c = tt

pub returns-in-Ok-clause-ok : goal.returns-in-Ok-clause-ok
returns-in-Ok-clause-ok g c = search rules

pub returns-in-Ok-clause-err : goal.returns-in-Ok-clause-err
returns-in-Ok-clause-err g c = tt

pub returns-in-Err-print_list-clause-ok : goal.returns-in-Err-print_list-clause-ok
returns-in-Err-print_list-clause-ok g c = tt

pub returns-in-Err-print_list-clause-err : goal.returns-in-Err-print_list-clause-err
returns-in-Err-print_list-clause-err g c = inl refl

pub returns-in-Ok-Some-Service-clause-ok : goal.returns-in-Ok-Some-Service-clause-ok
returns-in-Ok-Some-Service-clause-ok g c = search rules

pub returns-in-Ok-Some-Service-clause-err : goal.returns-in-Ok-Some-Service-clause-err
returns-in-Ok-Some-Service-clause-err g c = search rules

pub returns-in-Err-OutOfMemory-clause-ok : goal.returns-in-Err-OutOfMemory-clause-ok
returns-in-Err-OutOfMemory-clause-ok g c = tt

pub returns-in-Err-OutOfMemory-clause-err : goal.returns-in-Err-OutOfMemory-clause-err
returns-in-Err-OutOfMemory-clause-err g c = inl refl

pub returns-in-Err : goal.returns-in-Err
returns-in-Err g c = search rules
