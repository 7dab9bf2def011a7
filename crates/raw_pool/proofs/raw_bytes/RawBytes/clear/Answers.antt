use Rattle.std.proofs.Common.{◌≡◌, ◌≤◌, ◌+◌, ◌-◌, ◌++◌, ℕ, List, replicate, length, ap, ◌∙◌, arith}
use Rattle.std.proofs.lemmas.List.{length-replicate, replicate-append-replicate}
use Rattle.raw_pool.specs.Bytes.{put}
use Rattle.raw_pool.proofs.Puts.{length-put, put-behind}
use Rattle.raw_pool.proofs.raw_bytes.RawBytes.clear.Goals as goal

pub extend-requires : goal.extend-requires
extend-requires c =
    let old : List ℕ = c.args.self.now.set in
    let over : ℕ = length old - c.args.at in
    rw (c.clear_rest.ensures.set, c.clear_rest.ensures.place.0)
    (omega (arith, c.requires.0, c.requires.1, c.len.ensures, length-put old (replicate over 0) c.args.at c.requires.0, length-replicate {A = ℕ} over 0))

pub returns-else-count-over-clause-set : goal.returns-else-count-over-clause-set
returns-else-count-over-clause-set c =
    let old : List ℕ = c.args.self.now.set in
    let over : ℕ = length old - c.args.at in
    let more : ℕ = c.args.count - (c.len.result - c.args.at) in
    let all : over + more ≡ c.args.count = omega (arith, c.len.ensures, c.if-count-over.false) in
    let reaches : length old ≤ c.args.at + length (replicate {A = ℕ} over 0) = omega (arith, c.len.ensures, length-replicate {A = ℕ} over 0) in
    c.extend.ensures.set ∙ ap (λ (xs : List ℕ). xs ++ replicate more 0) c.clear_rest.ensures.set
    ∙ put-behind old (replicate over 0) (replicate more 0) c.args.at reaches
    ∙ ap (put old c.args.at) (replicate-append-replicate over more 0 ∙ ap (λ (k : ℕ). replicate k 0) all)
