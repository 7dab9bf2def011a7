use Rattle.std.proofs.Common.{arith}
use Rattle.page_ranges.proofs.Blocks.{entry_end}
use Rattle.placement_certificate.proofs.search.EntrySearch.least_in.Goals as goal

pub overflow_add-entry : goal.overflow_add-entry
overflow_add-entry g c = omega (arith, entry_end c.args.self.now c.requires.proper c.args.entry.now c.requires.entry)
