use Rattle.std.proofs.Common.{rules}
use Rattle.std.proofs.lemmas.Fn.{filter_same}
use Rattle.driver_connect.specs.Stopping.{is_meant}
use Rattle.driver_connect.proofs.stopping.keep_of_driver.Goals as goal

pub returns : goal.returns
returns g c = filter_same _ (is_meant c.args.driver) _ (λ x b f k. search rules) _ _ c.retain.ensures.filtered
