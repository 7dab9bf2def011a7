use Rattle.std.proofs.Common.{refl, true≢false, sym, ◌∙◌}
use Rattle.std.specs.Option.{option_map}
use Rattle.descriptor_table.proofs.FreeBounds.{all_here, allows_any, allows_here}
use Rattle.descriptor_table.proofs.summaries.Summary.of_free.Goals as goal
use Rattle.descriptor_table.proofs.summaries.Summary.of_free.Goals.{then-is_free, else-is_free}

pub returns : goal.returns
returns c =
    let below = option_map (λ r. r.now) c.args.below in
    let above = option_map (λ r. r.now) c.args.above in
    elim c.if-is_free.branch [
      | then-is_free w ↦
          allows_any _ below c.args.run.now above
          (all_here below c.args.run.now above _ c.type_bits.result c.type_bits-2.result c.pair_bits.result c.pair_bits-2.result c.if-is_free.all c.type_bits.ensures c.type_bits-2.ensures c.pair_bits.ensures c.pair_bits-2.ensures c.max.ensures (rw c.with_bit.ensures refl) refl refl w.all-is)
      | else-is_free w ↦
          allows_here below c.args.run.now above _ c.type_bits.result c.type_bits-2.result c.pair_bits.result c.pair_bits-2.result c.if-is_free.all c.type_bits.ensures c.type_bits-2.ensures c.pair_bits.ensures c.pair_bits-2.ensures c.max.ensures (rw c.with_bit.ensures refl) refl refl
          (λ f. true≢false (sym (c.is_free.ensures.1 f) ∙ w.if-is_free.false))
    ]
