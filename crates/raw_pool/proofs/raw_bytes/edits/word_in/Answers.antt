use Rattle.std.proofs.Common.{◌≡◌, ℕ, ◌+◌, ◌-◌, ap, ◌∙◌, arith, take, drop}
use Rattle.byteorder.specs.Endian.{little_number}
use Rattle.raw_pool.specs.Bytes.{word}
use Rattle.raw_pool.proofs.raw_bytes.edits.word_in.Goals as goal

pub returns : goal.returns
unfolding word
returns c =
    let n : c.args.at + 8 - c.args.at ≡ 8 = omega arith in
    c.read_u64.ensures ∙ ap (λ (k : ℕ). little_number 8 (take k (drop c.args.at c.args.bytes.now))) n
