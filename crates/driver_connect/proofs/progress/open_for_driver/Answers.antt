use Rattle.driver_connect.proofs.GoingOn.{opened_further, opened_one}
use Rattle.driver_connect.proofs.Opened.{first_free, items_more, opened_more}
use Rattle.driver_connect.proofs.progress.open_for_driver.Goals as goal

pub loop-guid-preserved : goal.loop-guid-preserved
loop-guid-preserved g c = record {
  items = rw c.in_ok-add.ensures.ok (items_more c.args.controller c.loop-guid.opens c.args.guids.now c.loop-guid.guid-index c.guid-item.result c.args.agent _ c.loop-guid-test.true c.guid-item.is c.loop-guid.invariant.items);
  opened = opened_further _ _ _ c.loop-guid.invariant.opened
      (rw c.in_ok-add.ensures.ok (opened_one c.args.controller c.guid-item.result c.args.agent c.loop-guid.opens
      (first_free c.args.controller c.loop-guid.opens c.args.guids.now c.loop-guid.guid-index c.guid-item.result c.loop-guid-test.true c.guid-item.is c.loop-guid.invariant.to_open)));
  to_open = rw c.in_ok-add.ensures.ok (opened_more c.args.controller c.loop-guid.opens c.args.guids.now c.loop-guid.guid-index c.guid-item.result c.args.agent c.loop-guid-test.true c.guid-item.is c.loop-guid.invariant.to_open);
}
