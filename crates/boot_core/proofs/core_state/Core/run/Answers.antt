use Rattle.std.proofs.Common.{List, map, rules, arith, subst, ◌∙◌, take_all, ap}
use Rattle.boot_calls.specs.declared.calls.Call.{Call}
use Rattle.boot_core.specs.Machines.{Given}
use Rattle.boot_core.specs.Steps.{best_starts, CallRun, Step}
use Rattle.boot_core.proofs.Running.{run_more}
use Rattle.boot_core.proofs.core_state.Core.run.Goals as goal

pub loop-call-preserved : goal.loop-call-preserved
loop-call-preserved g c =
    let i = c.loop-call.invariant in
    let first : List g.row.D.Denot = c.args.self.now.given.drivers in
    let step =
    subst (λ (call : Call g.row.A.Denot). Step (map g.D.Driver.meaning first) c.loop-call.self.state call c.call-reply.result c.call-reply.new.self.state) c.call-item.is
    (subst (λ (ds : List g.row.D.Denot). Step (map g.D.Driver.meaning ds) c.loop-call.self.state c.call-item.result c.call-reply.result c.call-reply.new.self.state) (ap (λ (v : Given g.row.D.Denot). v.drivers) i.given) c.call-reply.ensures.step)
    in
    record {
      runs = run_more (best_starts (map g.D.Driver.meaning first)) c.args.self.now.state c.args.calls.now c.loop-call.call-index c.call-item.result c.loop-call.replies.items c.push.new.self.items c.loop-call.self.state c.call-reply.result c.call-reply.new.self.state c.loop-call-test.true i.runs step (search rules);
      given = c.call-reply.ensures.given ∙ i.given;
      left = omega (arith, c.call-reply.ensures.step.calls_left, i.left);
      count = omega (arith, rw c.in-Ok.is at c.push.ensures.len, i.count);
      room = omega (arith, c.push.ensures.capacity, i.room);
    }

pub returns-clause-runs : goal.returns-clause-runs
returns-clause-runs g c =
    subst (λ (calls : List (Call g.row.A.Denot)). CallRun (map g.D.Driver.meaning c.args.self.now.given.drivers) c.args.self.now.state calls c.loop-call.replies.items c.loop-call.self.state) (take_all c.loop-call.call-index c.args.calls.now c.loop-call-test.false)
    c.loop-call.invariant.runs
