use Rattle.std.proofs.Common.{subst, arith}
use Rattle.page_ranges.specs.Cursors.{IsBlockAt}
use Rattle.placement_certificate.proofs.starts.EntryStarts.block_above.Goals as goal

pub returns-then-page-block-clause-above : goal.returns-then-page-block-clause-above
returns-then-page-block-clause-above g c = (record { low = omega (arith, c.requires.behind); high = omega arith }, c.requires.block)

pub returns-then-page-self-clause-above : goal.returns-then-page-self-clause-above
returns-then-page-self-clause-above g c = subst (λ k. IsBlockAt (g.C.PageCursor.memory c.args.cursor.now) k c.args.self.now.known_block) (omega arith) c.requires.starts.known
