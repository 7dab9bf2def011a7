use Rattle.descriptor_table.proofs.FreeMarks.{marks_spliced}
use Rattle.descriptor_table.proofs.free_marks.marks_changed.Goals as goal

pub returns : goal.returns
returns c rs =
    marks_spliced c.args.marks c.args.low c.args.high c.bits_below.result c.marks_of.result c.args.parts.now rs c.requires.order c.requires.bound c.requires.fits c.bits_below.ensures.below c.marks_of.ensures
