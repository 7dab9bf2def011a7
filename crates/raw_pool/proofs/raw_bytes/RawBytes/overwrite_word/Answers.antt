use Rattle.std.proofs.Common.{◌≡◌, ◌+◌, ◌-◌, ℕ, List, length, drop, ap, arith}
use Rattle.std.proofs.lemmas.List.{length-take-le, length-drop}
use Rattle.byteorder.specs.Endian.{little_bytes}
use Rattle.raw_pool.proofs.Puts.{lent-put}
use Rattle.raw_pool.proofs.raw_bytes.RawBytes.overwrite_word.Goals as goal

pub set_word-requires : goal.set_word-requires
set_word-requires c =
    let all : List ℕ = c.bytes_mut.result.now in
    let k : ℕ = c.args.at + 8 - c.args.at in
    let same : length all ≡ length c.args.self.now.set = ap length c.bytes_mut.ensures.value in
    omega (arith, length-take-le k (drop c.args.at all) (omega (arith, length-drop c.args.at all, same, c.requires)))

pub returns-clause-set : goal.returns-clause-set
returns-clause-set c =
    let old : List ℕ = c.args.self.now.set in
    let new : List ℕ = little_bytes 8 c.args.number in
    let k : ℕ = c.args.at + 8 - c.args.at in
    rw (c.set_word.ensures, c.bytes_mut.ensures.value)
    (lent-put c.args.self.now.len c.args.at k old old new c.args.self.now.ok.0 (omega (arith, c.requires)) (omega arith))
