use Rattle.std.proofs.Common.{sym, arith}
use Rattle.guid_handles.proofs.Beside.{at_index, beside_absent, beside_there}
use Rattle.guid_handles.proofs.PlaceLists.{there_below}
use Rattle.guid_handles.proofs.rows.place_of.Goals as goal

pub returns-in-Some : goal.returns-in-Some
returns-in-Some c =
    let there = c.in-Some.ensures.there in
    sym (beside_there _ c.args.places.now c.in-Some.at c.args.number _ c.requires.ascending there (at_index _ c.in-Some.at 0 (omega (arith, there_below c.args.numbers.now c.in-Some.at c.args.number there, c.requires.even))))

pub returns-in-None : goal.returns-in-None
returns-in-None c = sym (beside_absent c.args.number _ _ c.in-None.ensures.none)
