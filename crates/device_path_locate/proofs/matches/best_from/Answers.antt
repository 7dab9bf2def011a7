use Rattle.device_path_locate.specs.Locating.{longest, match_of}
use Rattle.device_path_locate.specs.Reading.{IsBoundary}
use Rattle.std.specs.List.{filter_map}
use Rattle.device_path_locate.proofs.PathMatches.{longer_keeps, one_more}
use Rattle.device_path_locate.proofs.matches.best_from.Goals as goal

pub loop-handle-preserved : goal.loop-handle-preserved
loop-handle-preserved g c =
    let i = c.loop-handle.invariant in
    let holders = c.by_protocol-holders.result.now in
    record {
      found = λ ns all z.
          let f = match_of c.args.handles.now c.args.pools.now.extents ns in
          rw c.longer-best.ensures
          (one_more f c.loop-handle.best c.match_of.result holders c.loop-handle.handle-index (longest (filter_map f holders)) c.loop-handle-test.true (rw c.bytes_of.ensures at (c.match_of.ensures.found ns all z)) (i.found ns all z));
      boundary = rw c.longer-best.ensures (longer_keeps (λ m. IsBoundary c.args.nodes.now m.1) c.loop-handle.best c.match_of.result i.boundary c.match_of.ensures.boundary);
    }
