use Rattle.std.proofs.Common.{arith}
use Rattle.std.proofs.lemmas.Option.{slice_get_within}
use Rattle.descriptor_table.proofs.ChangedRuns.{near_joined}
use Rattle.descriptor_table.proofs.summaries.joined_near.Goals as goal

pub returns : goal.returns
returns c = λ i r at free side.
    let rs = c.args.runs.now in
    let least = c.min-end.ensures in
    rw c.joined.ensures (near_joined c.args.summary c.summary_between.result rs c.args.low c.args.high c.saturating_sub.result c.min-end.result (omega (arith, c.saturating_sub.ensures)) i c.summary_between.ensures (λ h k. omega (arith, least, h, k)) r at (slice_get_within rs i r at) free side)
