use Rattle.std.proofs.Common.{◌≡◌, ◌≤◌, ◌<◌, ◌+◌, ◌-◌, ℕ, true, false, length, get_or, sym, subst, ◌∙◌, arith}
use Rattle.std.proofs.lemmas.List.{get_or_default}
use Rattle.raw_pool.proofs.pages.cells.are_free.Goals as goal

pub returns-then-marks-i-ne0 : goal.returns-then-marks-i-ne0
returns-then-marks-i-ne0 c =
    let marks = c.args.marks.now in let at : ℕ = c.args.at in let i : ℕ = c.loop-i.i in
    let low : at ≤ i = omega (arith, c.loop-i.auto.i) in
    let high : i < at + c.args.pages = omega (arith, c.loop-i-test.true, c.loop-i.auto.i-end) in
    let inside : i < length marks = omega (arith, high, c.if-at-marks.false, c.if-pages-marks.false) in
    let same : get_or marks i 1 ≡ get_or marks i 0 = get_or_default marks i 1 0 inside in (
      (λ e. absurd (let f : false ≡ true = e in cc)),
      (λ are. absurd (c.if-marks-i-ne0.true (sym same ∙ subst (λ (k : ℕ). get_or marks k 1 ≡ 0) (let e : at + (i - at) ≡ i = omega arith in e) (are (i - at) (omega arith))))),
    )
