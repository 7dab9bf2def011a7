use Rattle.std.proofs.Common.{◌+◌, ◌-◌, ◌<◌, length, drop, sym, ap, ◌∙◌, arith}
use Rattle.std.specs.Prelude.{slice_get}
use Rattle.std.proofs.lemmas.Option.{slice_get_read}
use Rattle.descriptor_table.specs.Leaves.{runs_in}
use Rattle.descriptor_table.proofs.CutCounts.{leaf_then_rest}
use Rattle.descriptor_table.proofs.LeafLists.{get_left, get_right}
use Rattle.descriptor_table.proofs.leaf_searches.run_at_index.Goals as goal

pub returns-then-left-runs : goal.returns-then-left-runs
returns-then-left-runs g c =
    let ls = c.args.leaves.now in
    let i = c.loop-leaf.leaf-index in
    let left = c.loop-leaf.left in
    let leaf = c.leaf-item.result in
    let runs = c.runs-runs.result.now in
    let low : left < length leaf = omega (arith, ap length c.runs-runs.ensures) in
    let found = slice_get_read runs (length runs) left c.index-runs-left.result (omega arith) (omega arith) c.index-runs-left.is in
    sym (c.loop-leaf.invariant ∙ ap (λ rs. slice_get rs left) (leaf_then_rest ls leaf i (omega arith) c.leaf-item.is) ∙ get_left leaf (runs_in (drop (i + 1) ls)) left low ∙ sym (ap (λ rs. slice_get rs left) c.runs-runs.ensures) ∙ found)

pub loop-leaf-preserved : goal.loop-leaf-preserved
loop-leaf-preserved g c =
    let ls = c.args.leaves.now in
    let i = c.loop-leaf.leaf-index in
    let left = c.loop-leaf.left in
    let leaf = c.leaf-item.result in
    c.loop-leaf.invariant ∙ ap (λ rs. slice_get rs left) (leaf_then_rest ls leaf i (omega arith) c.leaf-item.is)
    ∙ get_right leaf (runs_in (drop (i + 1) ls)) left (left - length c.runs-runs.result.now) (omega (arith, ap length c.runs-runs.ensures))
