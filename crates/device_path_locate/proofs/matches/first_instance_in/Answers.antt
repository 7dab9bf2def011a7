use Rattle.std.proofs.Common.{sym, arith}
use Rattle.std.proofs.lemmas.List.{length-take-le}
use Rattle.device_path_locate.proofs.PathMatches.{first_read}
use Rattle.device_path_locate.proofs.matches.first_instance_in.Goals as goal

pub slice_bounds-result-end : goal.slice_bounds-result-end
slice_bounds-result-end c =
    let r = first_read c.args.bytes.now c.in_ok-span.span c.in_ok-span.ensures in
    sym (length-take-le c.in_ok-span.span.first_instance c.args.bytes.now (omega (arith, r.within)))

pub returns-clause-nodes : goal.returns-clause-nodes
returns-clause-nodes c = let r = first_read c.args.bytes.now c.in_ok-span.span c.in_ok-span.ensures in r.taken

pub returns-clause-within : goal.returns-clause-within
returns-clause-within c =
    let r = first_read c.args.bytes.now c.in_ok-span.span c.in_ok-span.ensures in
    omega (arith, r.within, length-take-le c.in_ok-span.span.first_instance c.args.bytes.now (omega (arith, r.within)))
