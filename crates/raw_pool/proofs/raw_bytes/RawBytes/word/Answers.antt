use Rattle.std.proofs.Common.{ℕ, List, ap, ◌∙◌}
use Rattle.raw_pool.specs.Bytes.{word}
use Rattle.raw_pool.proofs.raw_bytes.RawBytes.word.Goals as goal

pub returns : goal.returns
returns c = c.word_in.ensures ∙ ap (λ (xs : List ℕ). word xs c.args.at) c.bytes.ensures
