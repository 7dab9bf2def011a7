use Rattle.descriptor_table.proofs.FreeBounds.{all_allows}
use Rattle.descriptor_table.proofs.summaries.summary_changed.Goals as goal

pub returns-then-most_joins-eq-ALLOWS_ALL : goal.returns-then-most_joins-eq-ALLOWS_ALL
returns-then-most_joins-eq-ALLOWS_ALL c = λ i r at free near. all_allows c.all.result c.args.runs.now c.all.ensures i r at free
