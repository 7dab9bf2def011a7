use Rattle.std.proofs.Common.{ap, ◌∙◌, ◌+◌, length, arith}
use Rattle.std.specs.Prelude.{slice_get}
use Rattle.descriptor_table.proofs.Downward.{above_inside, above_leaf}
use Rattle.descriptor_table.proofs.free_runs.run_above.Goals as goal

pub returns-then-index-runs : goal.returns-then-index-runs
returns-then-index-runs g c =
    c.run_at.ensures ∙ ap (λ l. slice_get l (c.args.index + 1)) c.runs_of-runs.ensures ∙ above_inside c.args.leaves.now c.args.leaf c.args.index c.requires.leaf (omega (arith, ap length c.runs_of-runs.ensures))

pub returns : goal.returns
returns g c =
    c.run_at-2.ensures ∙ ap (λ l. slice_get l 0) c.runs_of.ensures ∙ above_leaf c.args.leaves.now c.args.leaf c.args.index c.requires.leaves c.requires.leaf (omega (arith, ap length c.runs_of-runs.ensures, c.requires.index))

pub runs_of-requires : goal.runs_of-requires
runs_of-requires g c = λ κs low. low

pub runs_of-runs-requires : goal.runs_of-runs-requires
runs_of-runs-requires g c = λ κs low. low
