use Rattle.std.proofs.Common.{◌≡◌, ◌+◌, ◌-◌, ℕ, List, length, ap, ◌∙◌, arith}
use Rattle.raw_pool.specs.Bytes.{put}
use Rattle.raw_pool.proofs.Puts.{lent-put, length-extended, put-extended}
use Rattle.raw_pool.proofs.raw_bytes.RawBytes.write.Goals as goal

pub returns-clause-set : goal.returns-clause-set
returns-clause-set c =
    let old : List ℕ = c.args.self.now.set in
    let new : List ℕ = c.args.bytes.now in
    let end : ℕ = c.args.at + length new in
    let all : List ℕ = c.extend_to.new.self.set in
    let n : length all ≡ length old + (end - length old) = ap length c.extend_to.ensures.set ∙ length-extended old end in
    rw (c.copy_from_slice.ensures.after, c.bytes_mut.ensures.value)
    (lent-put c.extend_to.new.self.len c.args.at (end - c.args.at) all all new c.extend_to.new.self.ok.0 (omega (arith, n)) (omega arith)
    ∙ ap (λ (xs : List ℕ). put xs c.args.at new) c.extend_to.ensures.set ∙ put-extended old new c.args.at end c.requires.0 (let e : end ≡ c.args.at + length new = omega arith in e))
