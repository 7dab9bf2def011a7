use Rattle.std.proofs.Common.{◌≡◌, ◌≢◌, Some, sym, ap, ◌∙◌, arith}
use Rattle.std.specs.Prelude.{slice_get}
use Rattle.std.specs.Int.{bit_at}
use Rattle.std.proofs.lemmas.Bool.{eqb-false}
use Rattle.std.proofs.lemmas.Option.{slice_get_within}
use Rattle.page_ranges.specs.declared.ranges.Run.{Run}
use Rattle.page_ranges.specs.MemoryTypes.{conventional}
use Rattle.descriptor_table.proofs.FreeMarks.{free_run, mark_set, mark_passed}
use Rattle.descriptor_table.proofs.free_marks.marks_of.Goals as goal
use Rattle.descriptor_table.proofs.free_marks.marks_of.Goals.{then-eq, else-eq}

pub loop-index-init : goal.loop-index-init
loop-index-init c i below free = absurd (omega arith)

pub loop-index-preserved : goal.loop-index-preserved
loop-index-preserved c i below free =
    let runs = c.args.runs.now in
    let k = c.loop-index.index in
    let was = c.loop-index.invariant in
    elim c.if-eq.branch [
      | then-eq w ↦ ap (λ m. bit_at m i) w.marks-is ∙ mark_set runs k c.loop-index.marks (omega (arith, c.loop-index-test.true, c.requires)) was i below free
      | else-eq w ↦
          let other : c.index-runs-index.result.mtype ≢ conventional = λ e. eqb-false _ _ (sym c.eq.ensures ∙ w.if-eq.false) (ap (λ x. x.mtype) (sym c.index-runs-index.is) ∙ e ∙ sym c.conventional.ensures) in
          ap (λ m. bit_at m i) w.marks-is ∙ mark_passed runs k c.loop-index.marks c.index-runs-index.result c.index-runs-index.is other was i below free
    ]

pub returns : goal.returns
returns c i free = let r : (x : Run) × (slice_get c.args.runs.now i ≡ Some x) × (x.mtype ≡ conventional) = free_run (slice_get c.args.runs.now i) free in c.loop-index.invariant i (omega (arith, slice_get_within c.args.runs.now i r.0 r.1, c.loop-index-test.false)) free
