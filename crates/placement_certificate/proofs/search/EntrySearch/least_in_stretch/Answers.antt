use Rattle.std.proofs.Common.{arith}
use Rattle.page_ranges.proofs.Blocks.{entry_end}
use Rattle.placement_certificate.proofs.search.EntrySearch.least_in_stretch.Goals as goal

pub multiple_from-lowest-requires-clause-page : goal.multiple_from-lowest-requires-clause-page
multiple_from-lowest-requires-clause-page g c = omega (arith, entry_end c.args.self.now c.requires.search.proper c.args.entry.now c.requires.search.entry)
