use Rattle.std.proofs.Common.{◌≡◌, ◌+◌, ◌-◌, ◌++◌, ℕ, List, length, replicate, refl, ap, ◌∙◌, arith}
use Rattle.byteorder.specs.Endian.{little_bytes}
use Rattle.raw_pool.specs.Bytes.{put}
use Rattle.raw_pool.proofs.Puts.{length-put, put-more}
use Rattle.raw_pool.proofs.raw_bytes.RawBytes.clear_rest.Goals as goal

pub overwrite_word-requires-then-count-eq16 : goal.overwrite_word-requires-then-count-eq16
overwrite_word-requires-then-count-eq16 c =
    rw c.overwrite_word.ensures.set (omega (arith, length-put c.args.self.now.set (little_bytes 8 0) c.args.at c.requires, c.len.ensures, c.if-count-eq16.true))

pub returns-then-count-eq16-clause-set : goal.returns-then-count-eq16-clause-set
returns-then-count-eq16-clause-set c =
    let old : List ℕ = c.args.self.now.set in
    let word : List ℕ = little_bytes 8 0 in
    let count : 16 ≡ length old - c.args.at = omega (arith, c.len.ensures, c.if-count-eq16.true) in
    let zeros : word ++ word ≡ replicate 16 0 = refl in
    c.overwrite_word-then-count-eq16.ensures.set
    ∙ ap (λ (xs : List ℕ). put xs (c.args.at + 8) word) c.overwrite_word.ensures.set
    ∙ put-more old word word c.args.at (c.args.at + 8) c.requires (omega arith)
    ∙ ap (put old c.args.at) (zeros ∙ ap (λ (k : ℕ). replicate k 0) count)
