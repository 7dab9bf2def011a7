use Rattle.std.proofs.Common.{◌≡◌, ◌+◌, Some, ap, sym, ◌∙◌, length, arith}
use Rattle.std.specs.Prelude.{slice_get}
use Rattle.std.specs.Option.{option_map}
use Rattle.std.proofs.lemmas.Option.{slice_get-get_or}
use Rattle.descriptor_table.specs.Tables.{entry_of}
use Rattle.descriptor_table.specs.LeafWalks.{run_above}
use Rattle.descriptor_table.proofs.Downward.{above_inside, block_above, no_block_above, run_ends}
use Rattle.descriptor_table.proofs.free_runs.FreeRun.above.Goals.{then-self, else-self+in_ok-above}
use Rattle.descriptor_table.proofs.free_runs.FreeRun.above.Goals as goal

pub returns-in_err-above : goal.returns-in_err-above
returns-in_err-above g c =
    let i = c.self.inside.index in
    let inv = c.self.invariant in
    let at = ap (λ l. slice_get l i) (sym inv.2) ∙ inv.4 in
    rw c.from_residual.ensures (rw (← c.self.view_is) (no_block_above c.self.inside.leaves.now inv.0.1 inv.0.2 c.self.inside.leaf i c.self.inside.run.now inv.1 at c.in_err-above.ensures))

pub touching_above-requires : goal.touching_above-requires
touching_above-requires g c =
    let i = c.self.inside.index in
    let inv = c.self.invariant in
    let at = ap (λ l. slice_get l i) (sym inv.2) ∙ inv.4 in
    run_ends c.self.inside.leaves.now inv.0.1 inv.0.2 c.self.inside.leaf i c.self.inside.run.now inv.1 at

pub returns : goal.returns
returns g c =
    let ls = c.self.inside.leaves.now in
    let i = c.self.inside.index in
    let j = c.self.inside.leaf in
    let inv = c.self.invariant in
    let at = ap (λ l. slice_get l i) (sym inv.2) ∙ inv.4 in
    let rs = c.self.inside.runs.now in
    let above : Some c.if-self.above.now ≡ run_above ls j i = elim c.if-self.branch [
      | then-self w ↦ ap (λ b. Some b.now) w.above-is ∙ sym (slice_get-get_or rs (i + 1) w.index-self-self.result w.if-self.true) ∙ ap (λ l. slice_get l (i + 1)) inv.2 ∙ above_inside ls j i inv.1 (omega (arith, w.if-self.true, ap length inv.2))
      | else-self+in_ok-above w ↦ ap (λ b. Some b.now) w.above-is ∙ w.in_ok-above.ensures
    ] in
    rw (← c.self.view_is) (block_above ls inv.0.1 inv.0.2 j i c.self.inside.run.now inv.1 at (Some c.if-self.above.now) (option_map (λ r. entry_of r.now) c.touching_above.result) above c.touching_above.ensures)
