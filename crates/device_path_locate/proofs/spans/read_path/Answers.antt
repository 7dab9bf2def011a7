use Rattle.std.proofs.Common.{◌∙◌, arith, drop, inl, inr, sym, Some}
use Rattle.std.proofs.lemmas.List.{length-drop, take_rest}
use Rattle.device_path_locate.specs.Reading.{IsFrontNode}
use Rattle.device_path_locate.proofs.SpanSteps.{goes_on}
use Rattle.device_path_locate.proofs.spans.read_path.Goals.{then-eq-2, else-eq-2}
use Rattle.device_path_locate.proofs.spans.read_path.Goals as goal

pub loop-whole-preserved : goal.loop-whole-preserved
loop-whole-preserved c =
    let bytes = c.args.bytes.now in
    let w = c.loop-whole.whole in
    let n = c.in_ok-node.node.now in
    let h : IsFrontNode (drop w bytes) (Some n) = rw take_rest at c.in_ok-node.ensures.path in
    let e = sym c.eq.ensures ∙ c.if-eq.false in
    let i = sym c.is_inner.ensures ∙ c.if-not-is_inner.false in
    record {
      within = omega (arith, h.1, length-drop w bytes, c.loop-whole.invariant.within);
      read = c.loop-whole.invariant.read ∙ elim c.if-eq-2.branch [
        | then-eq-2 k ↦ goes_on bytes w c.loop-whole.first_instance c.if-eq-2.first_instance n h e i (inr (sym c.eq-in-loop-whole.ensures ∙ k.if-eq-2.true, k.first_instance-is ∙ k.or-first_instance.ensures))
        | else-eq-2 k ↦ goes_on bytes w c.loop-whole.first_instance c.if-eq-2.first_instance n h e i (inl (sym c.eq-in-loop-whole.ensures ∙ k.if-eq-2.false, k.first_instance-is))
      ];
    }
