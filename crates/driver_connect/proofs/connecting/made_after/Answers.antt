use Rattle.driver_connect.proofs.Pending.{made_later}
use Rattle.driver_connect.proofs.connecting.made_after.Goals as goal

pub returns : goal.returns
returns g c =
    rw (made_later c.args.last c.args.handles.now c.all-numbers.result.now c.count_up_to.result c.all-numbers.ensures.proper c.all-numbers.ensures.numbers c.count_up_to.ensures.place)
    at c.from_slice.ensures.items
