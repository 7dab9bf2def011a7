use Rattle.std.proofs.Common.{◌≡◌, ◌*◌, replicate}
use Rattle.raw_pool.specs.Bytes.{put}
use Rattle.raw_pool.proofs.raw_bytes.edits.set_parts.Given as goal

abbrev pub invariant-loop-k : goal.invariant-loop-k
invariant-loop-k l = l.bytes ≡ put l.initial.bytes 0 (replicate (32 * l.k) 0)
