use Rattle.std.proofs.Common.{◌-◌, arith}
use Rattle.page_ranges.specs.Runs.{page_in, pages_of}
use Rattle.descriptor_table.proofs.CutRuns.{row_none}
use Rattle.descriptor_table.proofs.cuts.push_part.Goals as goal

pub returns-then-first-end-clause-pages : goal.returns-then-first-end-clause-pages
returns-then-first-end-clause-pages g c = row_none (pages_of c.args.runs.now.items) (c.args.end - c.args.first) (page_in c.args.first c.args.run.now) (omega arith)
