use Rattle.placement_certificate.proofs.Machines.{proper_b}
use Rattle.plain_search.proofs.tests.machine_b.Goals as goal

pub returns-clause-proper : goal.returns-clause-proper
returns-clause-proper c = rw (c.run.ensures, c.run-2.ensures) proper_b
