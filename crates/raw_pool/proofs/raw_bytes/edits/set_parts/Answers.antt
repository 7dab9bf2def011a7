use Rattle.std.proofs.Common.{◌≡◌, ◌+◌, ◌-◌, ◌*◌, ◌/◌, ◌≤◌, ℕ, List, replicate, length, take, drop, refl, sym, ap, ◌∙◌, arith}
use Rattle.std.proofs.lemmas.List.{length-replicate, length-take-le, length-drop}
use Rattle.raw_pool.specs.Bytes.{put}
use Rattle.raw_pool.proofs.Puts.{length-put, mid-put, put-nothing, zeros-all, zeros-more}
use Rattle.raw_pool.proofs.raw_bytes.edits.set_parts.Goals as goal

pub loop-k-init : goal.loop-k-init
loop-k-init c = sym (put-nothing c.args.bytes.now 0 (omega arith))

pub loop-k-preserved : goal.loop-k-preserved
loop-k-preserved c =
    let all : List ℕ = c.args.bytes.now in
    let at : ℕ = 32 * c.loop-k.k in
    let within : at ≤ length all = omega (arith, c.loop-k-test.true) in
    let next : at + 32 ≡ 32 * (c.loop-k.k + 1) = omega arith in
    mid-put at (at + 32 - at) c.loop-k.bytes c.set_array.new.bytes (omega (arith, ap length c.set_array.ensures))
    ∙ ap (put c.loop-k.bytes at) c.set_array.ensures
    ∙ ap (λ (xs : List ℕ). put xs at (replicate 32 0)) c.loop-k.invariant
    ∙ zeros-more all at 32 within
    ∙ ap (λ (n : ℕ). put all 0 (replicate n 0)) next

pub returns : goal.returns
returns c =
    let all : List ℕ = c.args.bytes.now in
    let at : ℕ = 32 * (length all / 32) in
    let rest : ℕ = length all - at in
    let within : at ≤ length all = omega arith in
    let n : length (replicate {A = ℕ} at 0) ≡ at = length-replicate {A = ℕ} at 0 in
    let done : c.loop-k.k ≡ length all / 32 = omega (arith, c.loop-k-test.false, c.loop-k.auto.k-end) in
    let front : c.loop-k.bytes ≡ put all 0 (replicate at 0) = c.loop-k.invariant ∙ ap (λ (j : ℕ). put all 0 (replicate (32 * j) 0)) done in
    let count : length c.loop-k.bytes ≡ length all = ap length front ∙ length-put all (replicate at 0) 0 (omega arith) ∙ omega (arith, n) in
    let k : ℕ = length c.loop-k.bytes - at in
    let long : length (take k (drop at c.loop-k.bytes)) ≡ rest = length-take-le k (drop at c.loop-k.bytes) (omega (arith, length-drop at c.loop-k.bytes)) ∙ omega (arith, count) in
    let zeros : c.fill.new.self ≡ replicate rest 0 = c.fill.ensures.after (λ y e. e) ∙ ap (λ (j : ℕ). replicate j 0) long in
    mid-put at k c.loop-k.bytes c.fill.new.self (omega (arith, ap length zeros, length-replicate {A = ℕ} rest 0, count))
    ∙ ap (put c.loop-k.bytes at) zeros
    ∙ ap (λ (xs : List ℕ). put xs at (replicate rest 0)) front
    ∙ zeros-more all at rest within
    ∙ ap (λ (j : ℕ). put all 0 (replicate j 0)) (let e : at + rest ≡ length all = omega arith in e)
    ∙ zeros-all all (length all) refl
