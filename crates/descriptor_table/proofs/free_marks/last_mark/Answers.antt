use Rattle.descriptor_table.proofs.FreeMarks.{no_mark, last_below, none_behind}
use Rattle.descriptor_table.proofs.free_marks.last_mark.Goals as goal

pub returns-then-left-eq0-clause-none : goal.returns-then-left-eq0-clause-none
returns-then-left-eq0-clause-none c = no_mark c.args.marks c.bits_below.result c.args.end c.bits_below.ensures.below c.if-left-eq0.true

pub returns-clause-some : goal.returns-clause-some
returns-clause-some c = last_below c.args.marks c.bits_below.result c.args.end c.bits_below.ensures.below c.bits_below.ensures.above c.bits_below.type_inv c.if-left-eq0.false

pub returns-clause-above : goal.returns-clause-above
returns-clause-above c = none_behind c.args.marks c.bits_below.result c.args.end c.bits_below.ensures.below c.bits_below.ensures.above c.bits_below.type_inv c.if-left-eq0.false
