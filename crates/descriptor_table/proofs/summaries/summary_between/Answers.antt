use Rattle.std.proofs.Common.{◌+◌, inl, inr, sym, ap, true≢false, ◌∙◌, arith}
use Rattle.std.specs.Prelude.{slice_get}
use Rattle.std.proofs.lemmas.Bool.{cases_lt, eq-eqb}
use Rattle.descriptor_table.specs.Leaves.{run_before}
use Rattle.descriptor_table.proofs.FreeBounds.{allows_at, joined_left, joined_right, same_run}
use Rattle.descriptor_table.proofs.summaries.summary_between.Goals as goal
use Rattle.descriptor_table.proofs.summaries.summary_between.Goals.{then-eq, else-eq}

pub loop-index-preserved : goal.loop-index-preserved
loop-index-preserved c = elim c.if-eq.branch [
  | then-eq w ↦ λ i r from h at free.
      let rs = c.args.runs.now in
      let old = c.loop-index.summary in
      let new = w.of_free-free.result in
      rw (w.summary-is, w.joined-summary.ensures) (elim (cases_lt i c.loop-index.index) [
        | inl l ↦ joined_left old new (run_before rs i) r (slice_get rs (i + 1)) (c.loop-index.invariant i r from l at free)
        | inr g ↦ joined_right old new (run_before rs i) r (slice_get rs (i + 1)) (allows_at new rs i c.loop-index.index _ _ c.index-runs-index.result r (omega arith) c.index-runs-index.is at w.run_below.ensures w.run_above.ensures w.of_free-free.ensures)
      ])
  | else-eq w ↦ λ i r from h at free. rw w.summary-is (elim (cases_lt i c.loop-index.index) [
    | inl l ↦ c.loop-index.invariant i r from l at free
    | inr g ↦
        let same = same_run c.args.runs.now i c.loop-index.index c.index-runs-index.result r (omega arith) c.index-runs-index.is at in
        absurd (true≢false (sym (eq-eqb c.index-runs-index.result.mtype c.conventional.result (ap (λ q. q.mtype) same ∙ free ∙ sym c.conventional.ensures)) ∙ sym c.eq.ensures ∙ w.if-eq.false))
  ])
]

pub returns : goal.returns
returns c = λ i r from h at free. c.loop-index.invariant i r from (omega (arith, h, c.loop-index-test.false)) at free
