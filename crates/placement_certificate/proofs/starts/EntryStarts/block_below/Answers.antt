use Rattle.std.proofs.Common.{arith}
use Rattle.placement_certificate.proofs.BlockStarts.{below_start, below_first}
use Rattle.placement_certificate.proofs.starts.EntryStarts.block_below.Goals as goal

pub returns-then-self-start : goal.returns-then-self-start
returns-then-self-start c = λ m starts i. below_start m c.args.self.now starts c.args.start (omega arith) i

pub returns-else-self-start : goal.returns-else-self-start
returns-else-self-start c = λ m starts i. below_first m c.args.self.now starts c.args.start (omega arith) i
