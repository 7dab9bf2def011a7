use Rattle.std.proofs.Common.{false, true, get_or, sym}
use Rattle.std.specs.List.{list_all}
use Rattle.driver_connect.specs.Stopping.{is_no_obstacle}
use Rattle.driver_connect.proofs.Unobstructed.{all_near, handle_by_handle, next_on, on_only}
use Rattle.driver_connect.proofs.protocols.Lists.is_unobstructed.Goals as goal

pub loop-n-init : goal.loop-n-init
loop-n-init g c = sym (handle_by_handle c.args.self.now.handles.now c.args.self.now.opens.now c.args.set.now c.args.made.now c.requires)

pub returns-then-not-is_unobstructed_on : goal.returns-then-not-is_unobstructed_on
returns-then-not-is_unobstructed_on g c =
    let one = rw (c.near.ensures, all_near (is_no_obstacle c.args.self.now.handles.now c.args.set.now) (get_or c.args.made.now c.loop-n.n-index 0) c.args.self.now.opens.now, c.if-not-is_unobstructed_on.true) at c.is_unobstructed_on.ensures in
    sym (next_on (λ n. list_all (on_only (is_no_obstacle c.args.self.now.handles.now c.args.set.now) n) c.args.self.now.opens.now) c.args.made.now c.loop-n.n-index false _ c.loop-n-test.true (sym one) c.loop-n.invariant)

pub loop-n-preserved : goal.loop-n-preserved
loop-n-preserved g c =
    let one = rw (c.near.ensures, all_near (is_no_obstacle c.args.self.now.handles.now c.args.set.now) (get_or c.args.made.now c.loop-n.n-index 0) c.args.self.now.opens.now, c.if-not-is_unobstructed_on.false) at c.is_unobstructed_on.ensures in
    next_on (λ n. list_all (on_only (is_no_obstacle c.args.self.now.handles.now c.args.set.now) n) c.args.self.now.opens.now) c.args.made.now c.loop-n.n-index true _ c.loop-n-test.true (sym one) c.loop-n.invariant
