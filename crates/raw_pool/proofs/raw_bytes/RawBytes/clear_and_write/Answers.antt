use Rattle.std.proofs.Common.{◌+◌, ◌-◌, ◌++◌, ℕ, List, replicate, length, refl, ap, ◌∙◌, arith}
use Rattle.std.proofs.lemmas.List.{length-append, length-replicate}
use Rattle.byteorder.specs.Endian.{little_bytes}
use Rattle.raw_pool.specs.Bytes.{put, put_words}
use Rattle.raw_pool.proofs.Puts.{length-put, words-behind}
use Rattle.raw_pool.proofs.raw_bytes.RawBytes.clear_and_write.Goals as goal

pub overwrite_words-requires : goal.overwrite_words-requires
overwrite_words-requires c =
    rw c.overwrite_zeros.ensures.set
    (omega (arith, c.len.ensures, c.if-count-over.true, length-put c.args.self.now.set (replicate c.args.count 0) c.args.at c.requires.0, length-replicate {A = ℕ} c.args.count 0))

pub returns-then-count-over-clause-set : goal.returns-then-count-over-clause-set
returns-then-count-over-clause-set c = c.overwrite_words.ensures.set ∙ ap (λ (xs : List ℕ). put_words xs (c.args.at + c.args.count) c.args.first c.args.second) c.overwrite_zeros.ensures.set

pub extend-requires : goal.extend-requires
extend-requires c =
    let old : List ℕ = c.args.self.now.set in
    let over : ℕ = length old - c.args.at in
    rw (c.clear_rest.ensures.set, c.clear_rest.ensures.place.0)
    (omega (arith, c.requires.0, c.requires.1, c.len.ensures, c.if-count-over.false, length-put old (replicate over 0) c.args.at c.requires.0, length-replicate {A = ℕ} over 0))

pub overwrite_words-requires-2 : goal.overwrite_words-requires-2
overwrite_words-requires-2 c =
    let old : List ℕ = c.args.self.now.set in
    let over : ℕ = length old - c.args.at in
    let more : ℕ = c.args.count + 16 - (c.len.result - c.args.at) in
    rw (c.extend.ensures.set, c.clear_rest.ensures.set)
    (omega (arith, c.requires.0, c.len.ensures, c.if-count-over.false, length-append (put old c.args.at (replicate over 0)) (replicate more 0), length-put old (replicate over 0) c.args.at c.requires.0, length-replicate {A = ℕ} over 0, length-replicate {A = ℕ} more 0))

pub returns-clause-set : goal.returns-clause-set
returns-clause-set c =
    let old : List ℕ = c.args.self.now.set in
    let over : ℕ = length old - c.args.at in
    let more : ℕ = c.args.count + 16 - (c.len.result - c.args.at) in
    let next : ℕ = c.args.at + c.args.count in
    c.overwrite_words-2.ensures.set
    ∙ ap (λ (xs : List ℕ). put_words xs next c.args.first c.args.second) (c.extend.ensures.set ∙ ap (λ (xs : List ℕ). xs ++ replicate more 0) c.clear_rest.ensures.set)
    ∙ words-behind old (little_bytes 8 c.args.first) (little_bytes 8 c.args.second) c.args.at c.args.count over more next (next + 8) c.requires.0 (omega (arith, c.requires.0)) (omega (arith, c.len.ensures, c.if-count-over.false)) refl refl refl refl
