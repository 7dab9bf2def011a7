use Rattle.std.proofs.Common.{◌≡◌, drop}
use Rattle.driver_connect.specs.GoingOn.{HasOpened}
use Rattle.driver_connect.specs.Starting.{with_driver_items}
use Rattle.driver_connect.proofs.Opened.{AreToOpen}
use Rattle.driver_connect.proofs.progress.open_for_driver.Given as goal

abbrev pub invariant-loop-guid : goal.invariant-loop-guid
invariant-loop-guid g l = record {
  items : with_driver_items l.controller l.agent (drop l.guid-index l.guids) l.opens ≡ with_driver_items l.controller l.agent l.guids l.fn.opens;
  opened : HasOpened l.fn.opens l.opens;
  to_open : AreToOpen l.controller l.opens (drop l.guid-index l.guids);
}
