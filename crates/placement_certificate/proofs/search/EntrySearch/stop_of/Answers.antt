use Rattle.std.proofs.Common.{arith}
use Rattle.page_ranges.proofs.Blocks.{entry_is_block}
use Rattle.placement_certificate.proofs.FreeStretches.{known_stop}
use Rattle.placement_certificate.proofs.search.EntrySearch.stop_of.Goals as goal

pub returns-then-entry-self-clause-stop : goal.returns-then-entry-self-clause-stop
returns-then-entry-self-clause-stop g c =
    let is = rw c.self.view_is at c.self.invariant.1 (omega arith) in
    known_stop c.args.self.now c.args.entry.now c.self.inside.first c.self.inside.stop c.requires.proper c.requires.entry c.requires.available (omega arith) (omega arith) is

pub returns-then-entry-self-clause-known : goal.returns-then-entry-self-clause-known
returns-then-entry-self-clause-known g c =
    let is = entry_is_block c.args.self.now c.requires.proper.ascending c.args.entry.now c.requires.entry in
    let some = is.some in
    (record { low = omega arith; high = omega arith }, is.all)
