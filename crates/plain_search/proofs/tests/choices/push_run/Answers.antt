use Rattle.std.proofs.Common.{refl}
use Rattle.page_ranges.specs.declared.ranges.Owner.TheVariants.{Given}
use Rattle.page_ranges.specs.declared.ranges.Run.{Run}
use Rattle.plain_search.proofs.Drawn.{run_added, still_proper}
use Rattle.plain_search.proofs.tests.choices.push_run.Goals as goal

pub returns-clause-runs : goal.returns-clause-runs
returns-clause-runs c =
    let r : Run = record { range = record { first = c.args.first; pages = c.args.pages }; mtype = c.args.kind.0; attributes = c.args.kind.1; owner = Given } in
    rw (c.in_ok-push.ensures.items, c.run.ensures) (run_added c.args.runs.now.items r c.requires.runs c.requires.some)

pub returns-clause-proper : goal.returns-clause-proper
returns-clause-proper c =
    let r : Run = record { range = record { first = c.args.first; pages = c.args.pages }; mtype = c.args.kind.0; attributes = c.args.kind.1; owner = Given } in
    rw (c.in_ok-push.ensures.items, c.run.ensures) (still_proper c.args.runs.now.items r c.requires.runs c.requires.some c.requires.proper (record { within = c.requires.within; given = λ e. refl; no_runtime = c.requires.kind }))
