use Rattle.std.proofs.Common.{◌+◌, ◌-◌, subst, arith}
use Rattle.page_ranges.specs.Cursors.{IsBlockAt}
use Rattle.page_ranges.proofs.Blocks.{entry_is_block, entry_end}
use Rattle.placement_certificate.proofs.BlockStarts.{start_end, last_present}
use Rattle.placement_certificate.proofs.starts.EntryStarts.first_block.Goals as goal

pub overflow_add-last : goal.overflow_add-last
overflow_add-last g c = omega (arith, start_end (g.C.PageCursor.memory c.args.cursor.now) c.args.self.now c.requires.starts c.args.self.now.lowest c.requires.permitted)

pub overflow_add-self : goal.overflow_add-self
overflow_add-self g c = omega (arith, entry_end (g.C.PageCursor.memory c.args.cursor.now) c.requires.starts.proper c.args.self.now.entry c.requires.starts.entry)

pub returns-then-last-self-clause-block : goal.returns-then-last-self-clause-block
returns-then-last-self-clause-block g c =
    let m = g.C.PageCursor.memory c.args.cursor.now in (
      (entry_is_block m c.requires.starts.proper.ascending c.args.self.now.entry c.requires.starts.entry).all,
      record { low = omega (arith, c.requires.in_entry.low, c.requires.starts.good.some); high = omega (arith, c.requires.starts.good.some) },
    )

pub returns-else-last-self-clause-some : goal.returns-else-last-self-clause-some
returns-else-last-self-clause-some g c =
    let m = g.C.PageCursor.memory c.args.cursor.now in
    let s = c.args.self.now in
    let some = c.requires.starts.good.some in
    let last = s.lowest + s.request.pages - 1 in
    λ none. last_present m s c.requires.starts s.lowest c.requires.permitted (subst (IsBlockAt m last) none (subst (λ k. IsBlockAt m k c.block_at.result) (omega arith) c.block_at.ensures.block))
