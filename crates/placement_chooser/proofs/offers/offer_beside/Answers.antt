use Rattle.std.proofs.Common.{Some, refl, arith}
use Rattle.placement_certificate.proofs.BlockStarts.{few_in_map}
use Rattle.placement_chooser.proofs.Alone.{least_most}
use Rattle.placement_chooser.proofs.offers.offer_beside.Goals as goal

pub overflow_add-result : goal.overflow_add-result
overflow_add-result g c = omega (arith, few_in_map c.args.free.memory c.requires.search.proper, c.requires.search.entries)

pub overflow_sub-result : goal.overflow_sub-result
overflow_sub-result g c = omega (arith, least_most c.args.free.memory c.args.request.now c.args.free.entry c.in-Some.price c.in-Some.start c.requires.search.proper c.requires.search.good c.in-Some.ensures.least, c.requires.search.entries)

pub returns-in-Some-clause-offer : goal.returns-in-Some-clause-offer
returns-in-Some-clause-offer g c =
    let least = c.in-Some.ensures.least in
    let most = least_most c.args.free.memory c.args.request.now c.args.free.entry c.in-Some.price c.in-Some.start c.requires.search.proper c.requires.search.good least in
    (Some (c.in-Some.price, c.in-Some.start), least, (omega (arith, most, c.requires.search.entries), omega (arith, most), refl))
