use Rattle.std.proofs.Common.{◌≡◌, length, ◌∙◌, rules}
use Rattle.driver_connect.specs.Stopping.{round}
use Rattle.driver_connect.proofs.Rounds.{next_round, last_round}
use Rattle.driver_connect.proofs.NewPairs.{none_asked, all_asked, round_of_new}
use Rattle.driver_connect.proofs.protocols.Lists.add_rounds.Goals as goal

pub loop-k-init : goal.loop-k-init
loop-k-init g c = record { so_far = search rules; older = none_asked c.args.self.now.handles.now c.args.self.now.opens.now c.args.set.now.items }

pub add_managers-requires : goal.add_managers-requires
add_managers-requires g c = c.loop-k.invariant.older.0

pub returns-then-len-before : goal.returns-then-len-before
returns-then-len-before g c =
    let t = c.args.self.now.handles.now in
    let opens = c.args.self.now.opens.now in
    let set = c.loop-k.set.items in
    let same : length c.add_managers.new.set.items ≡ length set = search rules in
    let made : c.add_managers.new.set.items ≡ round t opens set = c.in_ok-add_managers.ensures ∙ round_of_new t opens set c.loop-k.asked c.loop-k.invariant.older in
    rw made (last_round c.args.count c.loop-k.k t opens set _ c.loop-k.invariant.so_far (rw made at same))

pub loop-k-preserved : goal.loop-k-preserved
loop-k-preserved g c =
    let t = c.args.self.now.handles.now in
    let opens = c.args.self.now.opens.now in
    let set = c.loop-k.set.items in
    let len : c.len-before.result ≡ length set = search rules in
    let made : c.add_managers.new.set.items ≡ round t opens set = c.in_ok-add_managers.ensures ∙ round_of_new t opens set c.loop-k.asked c.loop-k.invariant.older in
    record {
      so_far = rw made (next_round c.args.count c.loop-k.k t opens set _ c.loop-k-test.true c.loop-k.invariant.so_far);
      older = rw made (rw len (all_asked t opens set));
    }
