use Rattle.std.proofs.Common.{◌≡◌, ◌+◌, ◌-◌, ℕ, List, replicate, length, take, drop, ap, ◌∙◌, arith}
use Rattle.std.proofs.lemmas.List.{length-replicate, length-take-le, length-drop}
use Rattle.raw_pool.proofs.Puts.{lent-put}
use Rattle.raw_pool.proofs.pages.cells.mark.Goals as goal

pub returns : goal.returns
returns c =
    let a = c.args in
    let new : List ℕ = replicate a.count a.mark in
    let n : length new ≡ a.count = length-replicate {A = ℕ} a.count a.mark in
    let k : ℕ = a.at + a.count - a.at in
    let all : List ℕ = c.bytes_mut.result.now in
    let same : length all ≡ length a.marks.now.set = ap length c.bytes_mut.ensures.value in
    let long : length (take k (drop a.at all)) ≡ a.count = length-take-le k (drop a.at all) (omega (arith, length-drop a.at all, same, c.requires)) ∙ omega arith in
    let written : c.fill.new.self ≡ new = c.fill.ensures.after (λ y e. e) ∙ ap (λ (j : ℕ). replicate j a.mark) long in
    rw (written, c.bytes_mut.ensures.value)
    (lent-put a.marks.now.len a.at (a.at + a.count - a.at) a.marks.now.set a.marks.now.set new a.marks.now.ok.0 (omega (arith, n, c.requires)) (omega (arith, n)))
