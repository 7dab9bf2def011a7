use Rattle.std.proofs.Common.{◌≡◌, ◌+◌, ◌-◌, ℕ, List, replicate, length, take, drop, ap, ◌∙◌, arith}
use Rattle.std.proofs.lemmas.List.{length-replicate, length-take-le, length-drop}
use Rattle.raw_pool.proofs.Puts.{lent-put}
use Rattle.raw_pool.proofs.raw_bytes.RawBytes.overwrite_zeros.Goals as goal

pub returns-clause-set : goal.returns-clause-set
returns-clause-set c =
    let new : List ℕ = replicate c.args.count 0 in
    let n : length new ≡ c.args.count = length-replicate {A = ℕ} c.args.count 0 in
    let k : ℕ = c.args.at + c.args.count - c.args.at in
    let all : List ℕ = c.bytes_mut.result.now in
    let same : length all ≡ length c.args.self.now.set = ap length c.bytes_mut.ensures.value in
    let long : length (take k (drop c.args.at all)) ≡ c.args.count = length-take-le k (drop c.args.at all) (omega (arith, length-drop c.args.at all, same, c.requires)) ∙ omega arith in
    let zeros : c.set_zeros.new.bytes ≡ new = c.set_zeros.ensures ∙ ap (λ (j : ℕ). replicate j 0) long in
    rw (zeros, c.bytes_mut.ensures.value)
    (lent-put c.args.self.now.len c.args.at (c.args.at + c.args.count - c.args.at) c.args.self.now.set c.args.self.now.set new c.args.self.now.ok.0 (omega (arith, n, c.requires)) (omega (arith, n)))
