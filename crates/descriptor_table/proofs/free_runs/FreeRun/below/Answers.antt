use Rattle.std.proofs.Common.{◌≡◌, ◌-◌, ◌<◌, Some, ap, sym, ◌∙◌, length, arith}
use Rattle.std.specs.Prelude.{slice_get}
use Rattle.std.specs.Option.{option_map}
use Rattle.std.proofs.lemmas.Option.{slice_get_within, slice_get-get_or}
use Rattle.descriptor_table.specs.Tables.{entry_of}
use Rattle.descriptor_table.specs.LeafWalks.{run_below}
use Rattle.descriptor_table.proofs.Downward.{below_ends, below_inside, block_below, no_block_below}
use Rattle.descriptor_table.proofs.free_runs.FreeRun.below.Goals.{then-self-gt0, else-self-gt0+in_ok-below}
use Rattle.descriptor_table.proofs.free_runs.FreeRun.below.Goals as goal

pub returns-in_err-below : goal.returns-in_err-below
returns-in_err-below g c =
    let i = c.self.inside.index in
    let inv = c.self.invariant in
    let at = ap (λ l. slice_get l i) (sym inv.2) ∙ inv.4 in
    rw c.from_residual.ensures (rw (← c.self.view_is) (no_block_below c.self.inside.leaves.now inv.0.1 inv.0.2 c.self.inside.leaf i c.self.inside.run.now inv.1 at c.in_err-below.ensures))

pub touching_below-requires : goal.touching_below-requires
touching_below-requires g c =
    let ls = c.self.inside.leaves.now in
    let i = c.self.inside.index in
    let j = c.self.inside.leaf in
    let inv = c.self.invariant in
    let at = ap (λ l. slice_get l i) (sym inv.2) ∙ inv.4 in
    let rs = c.self.inside.runs.now in
    let bound = slice_get_within rs i c.self.inside.run.now inv.4 in
    let below : Some c.if-self-gt0.below.now ≡ run_below ls j i = elim c.if-self-gt0.branch [
      | then-self-gt0 w ↦
          let k : i - 1 < length rs = omega (arith, bound) in
          ap (λ b. Some b.now) w.below-is ∙ sym (slice_get-get_or rs (i - 1) w.index-self-self.result k) ∙ ap (λ l. slice_get l (i - 1)) inv.2 ∙ below_inside ls j i inv.1 (omega (arith, bound, ap length inv.2)) w.if-self-gt0.true
      | else-self-gt0+in_ok-below w ↦ ap (λ b. Some b.now) w.below-is ∙ w.in_ok-below.ensures
    ] in
    below_ends ls inv.0.1 inv.0.2 j i c.self.inside.run.now inv.1 at c.if-self-gt0.below.now below

pub returns : goal.returns
returns g c =
    let ls = c.self.inside.leaves.now in
    let i = c.self.inside.index in
    let j = c.self.inside.leaf in
    let inv = c.self.invariant in
    let at = ap (λ l. slice_get l i) (sym inv.2) ∙ inv.4 in
    let rs = c.self.inside.runs.now in
    let bound = slice_get_within rs i c.self.inside.run.now inv.4 in
    let below : Some c.if-self-gt0.below.now ≡ run_below ls j i = elim c.if-self-gt0.branch [
      | then-self-gt0 w ↦
          let k : i - 1 < length rs = omega (arith, bound) in
          ap (λ b. Some b.now) w.below-is ∙ sym (slice_get-get_or rs (i - 1) w.index-self-self.result k) ∙ ap (λ l. slice_get l (i - 1)) inv.2 ∙ below_inside ls j i inv.1 (omega (arith, bound, ap length inv.2)) w.if-self-gt0.true
      | else-self-gt0+in_ok-below w ↦ ap (λ b. Some b.now) w.below-is ∙ w.in_ok-below.ensures
    ] in
    rw (← c.self.view_is) (block_below ls inv.0.1 inv.0.2 j i c.self.inside.run.now inv.1 at (Some c.if-self-gt0.below.now) (option_map (λ r. entry_of r.now) c.touching_below.result) below c.touching_below.ensures)
