use Rattle.std.proofs.Common.{rules, ◌≤◌, length}
use Rattle.driver_connect.proofs.OnePair.{one_set}
use Rattle.driver_connect.proofs.pairs.set_of.Goals as goal

pub returns-then-len-le1 : goal.returns-then-len-le1
returns-then-len-le1 g c =
    let one : length c.args.pairs.items ≤ 1 = search rules in
    one_set c.args.pairs.items one
