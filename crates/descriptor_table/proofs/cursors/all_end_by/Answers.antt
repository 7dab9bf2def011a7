use Rattle.std.proofs.Common.{◌-◌, arith, leb-true}
use Rattle.descriptor_table.proofs.Finding.{ends_by}
use Rattle.descriptor_table.proofs.cursors.all_end_by.Goals as goal

pub returns : goal.returns
returns c = λ t k d low high. ends_by c.args.runs.now (c.args.index - 1) c.index-runs-index.result c.args.page c.requires.runs (omega arith) c.index-runs-index.is (leb-true _ _ t) k d (omega arith)
