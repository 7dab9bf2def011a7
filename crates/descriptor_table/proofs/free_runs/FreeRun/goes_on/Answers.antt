use Rattle.std.proofs.Common.{◌≡◌, ◌+◌, ◌<◌, true≢false, length, ap, sym, subst, ◌∙◌, arith}
use Rattle.std.specs.Prelude.{slice_get}
use Rattle.std.specs.Int.{bit_at}
use Rattle.std.proofs.lemmas.Bool.{eq-eqb, eqb-true}
use Rattle.std.proofs.lemmas.Nat.Bits.{shr_and_one}
use Rattle.page_ranges.specs.Memory.{page_at}
use Rattle.descriptor_table.specs.Leaves.{leaf_at}
use Rattle.descriptor_table.specs.Summaries.{IsFreeRun}
use Rattle.descriptor_table.proofs.FreeBounds.{goes_on_free}
use Rattle.descriptor_table.proofs.NoUse.{free_like, goes_on_in, like_free, none_free}
use Rattle.descriptor_table.proofs.free_runs.FreeRun.goes_on.Goals as goal

pub returns-then-self-next-eq0 : goal.returns-then-self-next-eq0
returns-then-self-next-eq0 g c =
    let i = c.self.inside.index in
    let rs = c.self.inside.runs.now in
    let r = c.self.inside.run.now in
    let marks = c.self.inside.marks in
    let inv = c.self.invariant in
    let l = leaf_at c.self.inside.leaves.now c.self.inside.leaf in
    let at = ap (λ l. slice_get l i) (sym inv.2) ∙ inv.4 in
    let bound : i + 1 < length l = omega (arith, c.if-next-self.true, ap length inv.2) in
    let unmarked : bit_at marks (i + 1) ≡ 0 = sym (shr_and_one marks (i + 1)) ∙ c.if-self-next-eq0.true in
    rw (← c.self.view_is) (
      λ t. absurd (true≢false (sym t)),
      λ free.
          let above = goes_on_free r (slice_get l (i + 1)) (goes_on_in c.self.inside.leaves.now inv.0.0 inv.0.1 inv.0.2 c.self.inside.leaf inv.1 i r at bound free) in
          absurd (omega (arith, unmarked, inv.3 (i + 1) (subst (λ xs. IsFreeRun (slice_get xs (i + 1))) (sym inv.2) above))),
    )

pub returns-in-Some : goal.returns-in-Some
returns-in-Some g c =
    let f = c.args.self.now in
    let k = f.entry.first + f.entry.pages in
    let above = c.in-Some.above.now in
    let like = c.in-Some.ensures.1 k c.in-Some.ensures.0 in (
      λ t. free_like (page_at f.memory k) above like (eqb-true above.mtype c.conventional.result (sym c.eq.ensures ∙ t) ∙ c.conventional.ensures),
      λ free. c.eq.ensures ∙ eq-eqb above.mtype c.conventional.result (like_free (page_at f.memory k) above like free ∙ sym c.conventional.ensures),
    )

pub returns-in-None : goal.returns-in-None
returns-in-None g c = (λ t. absurd (true≢false (sym t)), λ free. absurd (none_free _ c.in-None.ensures free))
