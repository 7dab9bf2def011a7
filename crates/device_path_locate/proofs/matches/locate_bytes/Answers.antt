use Rattle.std.proofs.Common.{None, Some}
use Rattle.device_path_locate.proofs.PathMatches.{answered}
use Rattle.device_path_locate.proofs.matches.locate_bytes.Goals as goal

pub returns-in-Some-best_match-clause-found : goal.returns-in-Some-best_match-clause-found
returns-in-Some-best_match-clause-found g c =
    answered c.args.handles.now c.args.pools.now.extents c.args.guid c.args.bytes.now c.in-Some.nodes.now (Some c.in-Some-best_match.found) c.in-Some.ensures.nodes c.in-Some-best_match.ensures.found

pub returns-in-None-clause-found : goal.returns-in-None-clause-found
returns-in-None-clause-found g c = answered c.args.handles.now c.args.pools.now.extents c.args.guid c.args.bytes.now c.in-Some.nodes.now None c.in-Some.ensures.nodes c.in-None.ensures.found
