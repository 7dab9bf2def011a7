use Rattle.std.proofs.Common.{◌∙◌, arith}
use Rattle.driver_connect.specs.Sites.{begun, site_at}
use Rattle.driver_connect.proofs.GoingOn.{made_back, opened_back, those_older}
use Rattle.driver_connect.proofs.FewHandles.{numbers_rise, stamps_rise}
use Rattle.driver_connect.proofs.starting.Starter.connect_in_place.Goals as goal

pub take_back_to-requires : goal.take_back_to-requires
take_back_to-requires g c =
    let m = rw c.take-connecting.ensures at c.connect_levels-connected.ensures.goes_on in
    rw (c.put_in_place-events.ensures.handles, c.last_number-number.ensures, c.last_stamp-stamp.ensures.stamp)
    (those_older c.args.handles.now c.connect_levels-connected.new.connecting.handles c.all-numbers.ensures.proper m.handles (rw c.last_stamp-stamp.ensures.stamp at c.last_stamp-stamp.ensures.latest))

pub returns-in-Ok-clause-whole : goal.returns-in-Ok-clause-whole
returns-in-Ok-clause-whole g c =
    rw (c.put_in_place-events.ensures.handles, c.put_in_place-events.ensures.opens, c.put_in_place-events.ensures.events) (rw c.take-connecting.ensures at c.in-Ok.ensures.whole)

pub returns-in-Ok-clause-numbers : goal.returns-in-Ok-clause-numbers
returns-in-Ok-clause-numbers g c =
    let there = site_at g.D.Driver.meaning c.args.self.now c.args.first.handle in
    rw c.put_in_place-events.ensures.handles
    (numbers_rise (begun c.args.handles.now c.args.opens.now c.args.given) c.connect_levels-connected.new.connecting c.args.first.levels there c.args.named.now (rw c.take-connecting.ensures at c.in-Ok.ensures.whole).1 (rw c.take-connecting.ensures at c.in-Ok.ensures.grows))

pub returns-in-Ok-clause-stamps : goal.returns-in-Ok-clause-stamps
returns-in-Ok-clause-stamps g c =
    let there = site_at g.D.Driver.meaning c.args.self.now c.args.first.handle in
    rw c.put_in_place-events.ensures.handles
    (stamps_rise (begun c.args.handles.now c.args.opens.now c.args.given) c.connect_levels-connected.new.connecting c.args.first.levels there c.args.named.now (rw c.take-connecting.ensures at c.in-Ok.ensures.whole).1 (rw c.take-connecting.ensures at c.in-Ok.ensures.grows))

pub returns-in-Err-clause-err : goal.returns-in-Err-clause-err
returns-in-Err-clause-err g c =
    let m = rw c.take-connecting.ensures at c.connect_levels-connected.ensures.goes_on in (
      c.take_back_to.ensures ∙ rw (c.put_in_place-events.ensures.handles, c.last_number-number.ensures, c.last_stamp-stamp.ensures.stamp) (made_back c.args.handles.now c.connect_levels-connected.new.connecting.handles c.all-numbers.ensures.proper m.handles),
      c.truncate.ensures ∙ rw (c.put_in_place-events.ensures.opens, c.len-items.ensures.count) (opened_back c.args.opens.now c.connect_levels-connected.new.connecting.opens m.opens),
    )

pub returns-in-Err-clause-numbers : goal.returns-in-Err-clause-numbers
returns-in-Err-clause-numbers g c = let same = (returns-in-Err-clause-err g c).0 in rw same (omega arith)

pub returns-in-Err-clause-stamps : goal.returns-in-Err-clause-stamps
returns-in-Err-clause-stamps g c = let same = (returns-in-Err-clause-err g c).0 in rw same (omega arith)
