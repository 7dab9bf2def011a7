use Rattle.std.proofs.Common.{◌≡◌, ◌+◌, ◌-◌, ◌++◌, take, drop, sym, ◌∙◌, arith}
use Rattle.std.proofs.Math.Seq.{take-add}
use Rattle.std.proofs.lemmas.Slice.Eq.{bytes_eq-Decides}
use Rattle.device_path_locate.proofs.prefixes.common_front.Goals as goal

pub loop-size-preserved : goal.loop-size-preserved
loop-size-preserved c =
    let size = c.loop-size.size in
    let z : size + 64 - size ≡ 64 = omega arith in
    let a = take (size + 64 - size) (drop size c.args.a.now) in
    let b = take (size + 64 - size) (drop size c.args.b.now) in
    let same : a ≡ b = (bytes_eq-Decides a b).0 (sym c.eq.ensures ∙ c.if-eq.true) in
    let e = rw z at same in
    record {
      within = omega (arith, c.loop-size-test.true, c.loop-size.invariant.within);
      same = take-add size 64 c.args.a.now ∙ (λ k. c.loop-size.invariant.same k ++ e k) ∙ sym (take-add size 64 c.args.b.now);
    }
