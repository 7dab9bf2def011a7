use Rattle.std.proofs.Common.{refl, arith}
use Rattle.descriptor_table.specs.Leaves.{runs_in}
use Rattle.descriptor_table.specs.PageTests.{Passes}
use Rattle.descriptor_table.proofs.Finding.{below_end}
use Rattle.descriptor_table.proofs.leaf_searches.all_in_range.Goals as goal

pub returns-then-next-range : goal.returns-then-next-range
returns-then-next-range g c =
    let held = c.in-Some.ensures.member in
    let all = below_end (Passes c.args.test) (runs_in c.args.leaves.now) c.args.range.first c.loop-run.next c.in-Some.run'.now c.requires.runs held.0 held.1 c.loop-run.invariant.below (λ k. (c.passes.ensures k).0 c.if-not-passes.false) in
    (λ t k l u. all k l (omega (arith, held.1.low, held.1.high)), λ a. refl)

pub loop-run-preserved : goal.loop-run-preserved
loop-run-preserved g c =
    let held = c.in-Some.ensures.member in
    record {
      below = below_end (Passes c.args.test) (runs_in c.args.leaves.now) c.args.range.first c.loop-run.next c.in-Some.run'.now c.requires.runs held.0 held.1 c.loop-run.invariant.below (λ k. (c.passes.ensures k).0 c.if-not-passes.false);
      from = omega (arith, held.1.high);
      within = omega (arith, held.1.high);
    }
