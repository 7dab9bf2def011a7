use Rattle.std.proofs.Common.{arith, sym}
use Rattle.boot_core.proofs.pool_buffers.read_bytes.Goals as goal

pub returns-in-Err : goal.returns-in-Err
returns-in-Err g c = (omega arith, (c.in-Some.bytes.now, sym c.in-Some.ensures.bytes, omega (arith, c.if-size-bytes.true)), c.new-in-Err.ensures.items)
