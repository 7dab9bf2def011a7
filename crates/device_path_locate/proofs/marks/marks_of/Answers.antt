use Rattle.guid_handles.proofs.SortedLists.{all_set}
use Rattle.device_path_locate.specs.Reading.{IsBoundary}
use Rattle.device_path_locate.proofs.Walks.{all_the_same, boundary_behind, first_boundary}
use Rattle.device_path_locate.proofs.marks.marks_of.Goals as goal

pub loop-index-init : goal.loop-index-init
loop-index-init c = record {
  marked = all_the_same (IsBoundary c.args.nodes.now) 128 0 (first_boundary c.args.nodes.now);
  boundary = first_boundary c.args.nodes.now;
}

pub loop-index-preserved : goal.loop-index-preserved
loop-index-preserved c =
    let i = c.loop-index.invariant in
    let nodes = c.args.nodes.now in
    record {
      marked = all_set (IsBoundary nodes) c.loop-index.marks c.loop-index.index c.loop-index.at i.marked i.boundary;
      boundary = boundary_behind nodes c.loop-index.at _ c.walk.result i.boundary c.walk.ensures;
    }
