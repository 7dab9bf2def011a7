use Rattle.std.proofs.Common.{◌*◌, arith}
use Rattle.byteorder.specs.Endian.{little_bytes}
use Rattle.raw_pool.proofs.Puts.{length-put}
use Rattle.raw_pool.proofs.store.Store.reset_run.Goals as goal

pub overwrite_word-requires-2 : goal.overwrite_word-requires-2
overwrite_word-requires-2 g c =
    let n = length-put c.args.self.now.region.bytes.set (little_bytes 8 c.args.cells) (32 * c.args.run) (omega arith) in
    rw c.overwrite_word.ensures.bytes (omega arith)
