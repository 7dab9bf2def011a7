use Rattle.std.proofs.Common.{arith}
use Rattle.descriptor_table.proofs.FreeMarks.{no_mark_from, none_below}
use Rattle.descriptor_table.proofs.free_marks.first_mark.Goals as goal

pub returns-then-left-eq0-clause-none : goal.returns-then-left-eq0-clause-none
returns-then-left-eq0-clause-none c = λ j low high. no_mark_from c.args.marks c.args.from c.if-left-eq0.true j low

pub returns-then-index-end-clause-below : goal.returns-then-index-end-clause-below
returns-then-index-end-clause-below c = none_below c.args.marks c.args.from c.ranges.marks.fits c.if-left-eq0.false

pub returns-else-index-end-clause-none : goal.returns-else-index-end-clause-none
returns-else-index-end-clause-none c = λ j low high. none_below c.args.marks c.args.from c.ranges.marks.fits c.if-left-eq0.false j low (omega (arith, high, c.if-index-end.false))
