use Rattle.std.proofs.Common.{◌+◌, ℕ, List, ap, ◌∙◌, arith}
use Rattle.byteorder.specs.Endian.{little_bytes}
use Rattle.raw_pool.specs.Bytes.{put_words}
use Rattle.raw_pool.proofs.Puts.{length-extended, words-extended}
use Rattle.raw_pool.proofs.raw_bytes.RawBytes.write_words.Goals as goal

pub overwrite_words-requires : goal.overwrite_words-requires
overwrite_words-requires c = rw c.extend_to.ensures.set (omega (arith, length-extended c.args.self.now.set (c.args.at + 16)))

pub returns-clause-set : goal.returns-clause-set
returns-clause-set c =
    c.overwrite_words.ensures.set
    ∙ ap (λ (xs : List ℕ). put_words xs c.args.at c.args.first c.args.second) c.extend_to.ensures.set
    ∙ words-extended c.args.self.now.set (little_bytes 8 c.args.first) (little_bytes 8 c.args.second) c.args.at (c.args.at + 8) (c.args.at + 16) c.requires.0 (omega arith) (omega arith)
