use Rattle.device_path_locate.proofs.Walks.{no_path_node}
use Rattle.device_path_locate.proofs.marks.inner_node.Goals as goal

pub returns-in_err-node : goal.returns-in_err-node
returns-in_err-node c = rw c.from_residual.ensures (no_path_node c.args.bytes.now c.in_err-node.ensures.node)
