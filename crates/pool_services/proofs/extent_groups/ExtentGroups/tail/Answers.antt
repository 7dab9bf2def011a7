use Rattle.std.proofs.Common.{sym}
use Rattle.pool_services.specs.Groups.{rows_of}
use Rattle.pool_services.specs.Spots.{extents_of, index_of}
use Rattle.pool_services.proofs.ExtentLists.{is-extent, no-tail}
use Rattle.pool_services.proofs.ExtentChanges.{tail-is}
use Rattle.pool_services.proofs.extent_groups.ExtentGroups.tail.Goals as goal

pub returns-in_err-spot-clause-bytes : goal.returns-in_err-spot-clause-bytes
returns-in_err-spot-clause-bytes g c = rw c.from_residual.ensures (sym (no-tail c.args.address (extents_of c.args.self.now) c.in_err-spot.ensures.apart.0 c.in_err-spot.ensures.holder))

pub tail-requires-clause-extent : goal.tail-requires-clause-extent
tail-requires-clause-extent g c = is-extent (extents_of c.args.self.now) (index_of (rows_of c.args.self.now) c.in_ok-spot.spot) c.extent.result.now c.in_ok-spot.ensures.apart.0 c.extent.ensures

pub returns-clause-bytes : goal.returns-clause-bytes
returns-clause-bytes g c =
    tail-is c.args.address (extents_of c.args.self.now) (index_of (rows_of c.args.self.now) c.in_ok-spot.spot) c.extent.result.now _ c.in_ok-spot.ensures.apart.0 c.in_ok-spot.ensures.holder.1 c.extent.ensures.1 c.tail.ensures
