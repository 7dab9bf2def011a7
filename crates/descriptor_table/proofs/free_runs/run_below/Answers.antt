use Rattle.descriptor_table.proofs.LeafLists.{leaf_at}
use Rattle.std.proofs.Common.{ap, ◌∙◌, ◌-◌, length, arith, ◌≡◌, [], refl}
use Rattle.std.specs.Prelude.{slice_get}
use Rattle.descriptor_table.proofs.Downward.{below_inside, below_leaf}
use Rattle.descriptor_table.proofs.free_runs.run_below.Goals as goal

pub returns-then-index-gt0 : goal.returns-then-index-gt0
returns-then-index-gt0 g c = c.run_at.ensures ∙ ap (λ l. slice_get l (c.args.index - 1)) c.runs_of.ensures ∙ below_inside c.args.leaves.now c.args.leaf c.args.index c.requires.leaf c.requires.index (omega arith)

pub returns : goal.returns
returns g c = c.run_at-2.ensures ∙ ap (λ l. slice_get l (length l - 1)) c.runs_of-runs.ensures ∙ below_leaf c.args.leaves.now c.args.leaf c.args.index c.requires.leaves (λ e. omega arith) c.requires.leaf (omega arith)

pub overflow_sub-runs : goal.overflow_sub-runs
overflow_sub-runs g c = omega (arith, ap length c.runs_of-runs.ensures, (leaf_at c.args.leaves.now (c.args.leaf - 1) [] c.requires.leaves (omega (arith, c.requires.leaf))).0)

pub returns-then-leaf-eq0 : goal.returns-then-leaf-eq0
returns-then-leaf-eq0 g c = let first : c.args.index ≡ 0 = omega arith in rw (c.if-leaf-eq0.true, first) refl

pub runs_of-requires : goal.runs_of-requires
runs_of-requires g c = λ κs low. low

pub runs_of-runs-requires : goal.runs_of-runs-requires
runs_of-runs-requires g c = λ κs low. low

pub overflow_sub-index : goal.overflow_sub-index
overflow_sub-index g c = omega arith

pub overflow_sub-leaf : goal.overflow_sub-leaf
overflow_sub-leaf g c = omega arith
