use Rattle.driver_connect.proofs.GoingOn.{goes_nowhere}
use Rattle.driver_connect.proofs.starting.Starter.run_passes.Goals as goal

pub returns-in_err-agents-clause-goes_on : goal.returns-in_err-agents-clause-goes_on
returns-in_err-agents-clause-goes_on g c = goes_nowhere c.args.connecting.now
