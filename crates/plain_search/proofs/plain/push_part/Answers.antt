use Rattle.std.proofs.Common.{sym, subst, arith}
use Rattle.plain_search.specs.RunsBy.{AreRunsBy}
use Rattle.plain_search.proofs.PlainPrices.{none_pushed, part_pushed}
use Rattle.plain_search.proofs.plain.push_part.Goals as goal

pub returns-in_ok-push-clause-order : goal.returns-in_ok-push-clause-order
returns-in_ok-push-clause-order g c = subst (AreRunsBy c.args.end) (sym c.in_ok-push.ensures.items) (part_pushed c.args.out.now.items c.args.first c.args.end c.args.run.now c.requires.order (omega arith))

pub returns-else-first-end-clause-pages : goal.returns-else-first-end-clause-pages
returns-else-first-end-clause-pages g c = none_pushed c.args.out.now.items c.args.first c.args.end c.args.run.now (omega arith)
