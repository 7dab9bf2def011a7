use Rattle.std.proofs.Common.{◌+◌, ℕ, List, ap, ◌∙◌, arith}
use Rattle.byteorder.specs.Endian.{little_bytes}
use Rattle.raw_pool.specs.Bytes.{put}
use Rattle.raw_pool.proofs.Puts.{length-put}
use Rattle.raw_pool.proofs.raw_bytes.RawBytes.overwrite_words.Goals as goal

pub overwrite_word-requires-2 : goal.overwrite_word-requires-2
overwrite_word-requires-2 c = rw c.overwrite_word.ensures.set (omega (arith, length-put c.args.self.now.set (little_bytes 8 c.args.first) c.args.at (omega (arith, c.requires))))

pub returns-clause-set : goal.returns-clause-set
returns-clause-set c = c.overwrite_word-2.ensures.set ∙ ap (λ (xs : List ℕ). put xs (c.args.at + 8) (little_bytes 8 c.args.second)) c.overwrite_word.ensures.set
