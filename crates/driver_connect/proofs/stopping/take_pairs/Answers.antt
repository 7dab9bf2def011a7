use Rattle.std.proofs.Common.{take, ap, ◌∙◌, arith}
use Rattle.std.proofs.lemmas.List.{take_more, take_all}
use Rattle.open_agents.specs.OpenItems.{is_of_pair, without_items}
use Rattle.driver_connect.proofs.Filters.{pairs_none, pairs_more}
use Rattle.driver_connect.proofs.stopping.take_pairs.Goals as goal

pub loop-pair-init : goal.loop-pair-init
loop-pair-init g c = pairs_none c.args.opens.now

pub loop-pair-preserved : goal.loop-pair-preserved
loop-pair-preserved g c =
    let e = take_more c.args.pairs.now c.loop-pair.pair-index (record { controller = 0; agent = 0 }) c.loop-pair-test.true in
    rw e (c.drop_pair.ensures ∙ ap (without_items (is_of_pair _ _)) c.loop-pair.invariant ∙ pairs_more (take c.loop-pair.pair-index c.args.pairs.now) _ c.args.opens.now)

pub returns : goal.returns
returns g c = let e = take_all c.loop-pair.pair-index c.args.pairs.now (omega arith) in rw e at c.loop-pair.invariant
