use Rattle.std.proofs.Common.{◌≡◌, ◌+◌, ℕ, sym, subst, get_or, ◌∙◌}
use Rattle.std.proofs.lemmas.List.{get_or_default}
use Rattle.region_heap.proofs.FreeRuns.{Passed, passes_free, passes_taken}
use Rattle.region_heap.proofs.cells.first_free.Goals.{then-mark-ne0, else-mark-ne0+else-free-units}
use Rattle.region_heap.proofs.cells.first_free.Goals as goal

pub loop-at-preserved : goal.loop-at-preserved
loop-at-preserved c =
    let marks = c.args.marks.now in let at : ℕ = c.loop-at.at in let units : ℕ = c.args.units in
    let same : get_or marks at 1 ≡ get_or marks at 0 = get_or_default marks at 1 0 c.loop-at-test.true in
    elim c.if-mark-ne0.branch [
      | then-mark-ne0 w ↦ subst (λ (f : ℕ). Passed marks (at + 1) f units) (sym w.free-is) (passes_taken marks at c.loop-at.free units c.loop-at.invariant (λ e. w.if-mark-ne0.true (sym same ∙ e)))
      | else-mark-ne0+else-free-units w ↦ subst (λ (f : ℕ). Passed marks (at + 1) f units) (sym w.free-is) (passes_free marks at c.loop-at.free units c.loop-at.invariant w.if-free-units.false (same ∙ w.if-mark-ne0.false))
    ]
