use Rattle.std.proofs.Common.{map, ap, arith}
use Rattle.std.proofs.lemmas.List.{length-map}
use Rattle.std.proofs.lemmas.Result.{on_ok_weaker}
use Rattle.driver_connect.specs.Drivers.{protocols_on}
use Rattle.driver_connect.proofs.GoingOn.{goes_by, made_none}
use Rattle.driver_connect.proofs.Passes.{planned_unheld, sound_plan}
use Rattle.driver_connect.proofs.Whole.{carried_whole}
use Rattle.driver_connect.proofs.starting.Connecting.carry_out.Goals as goal

pub open_for_driver-requires-clause-free : goal.open_for_driver-requires-clause-free
open_for_driver-requires-clause-free g c =
    rw c.as_slice.ensures.value (rw (← c.self.view_is, ← c.plan.view_is) at (planned_unheld c.args.self.now c.args.controller c.args.plan.now c.requires.can))

pub make_children-requires-clause-places : goal.make_children-requires-clause-places
make_children-requires-clause-places g c =
    let whole = sound_plan c.args.self.now.handles (protocols_on c.args.self.now.handles c.args.self.now.opens c.args.controller) c.args.plan.now c.requires.can in
    let room = rw (← c.self.view_is, ← c.plan.view_is) at whole.room in
    rw c.as_slice-2.ensures.value (omega (arith, room, length-map c.plan.inside.children.items (λ c. c.items)))

pub returns-in_err-open_for_driver-clause-goes_on : goal.returns-in_err-open_for_driver-clause-goes_on
returns-in_err-open_for_driver-clause-goes_on g c = rw (← c.self.view_is) (goes_by _ _ (made_none c.self.inside.handles) c.open_for_driver.ensures.opened)

pub returns-clause-progress : goal.returns-clause-progress
returns-clause-progress g c =
    rw (← c.self.view_is, ← c.plan.view_is)
    (on_ok_weaker c.signal_children.result
    (λ e. carried_whole c.args.notify.now c.args.controller c.args.agent _ _ _ c.as_slice.result.now (map (λ c. c.items) c.as_slice-2.result.now) (map (λ c. c.items) c.as_slice-3.result.now)
    c.as_slice.ensures.value (ap (map (λ c. c.items)) c.as_slice-2.ensures.value) (ap (map (λ c. c.items)) c.as_slice-3.ensures.value)
    c.in_ok-open_for_driver.ensures.items c.in_ok-make_children.ensures.handles e)
    c.signal_children.ensures)
