use Rattle.std.proofs.Common.{◌∙◌, arith}
use Rattle.page_ranges.proofs.Blocks.{entry_end}
use Rattle.placement_certificate.proofs.BlockStarts.{block_end, start_end, highest_is, none_tried, next_present, next_above, tried_more, tried_all}
use Rattle.placement_certificate.proofs.Granules.{granule_most}
use Rattle.placement_certificate.proofs.starts.EntryStarts.least.Goals as goal

pub loop-start-init : goal.loop-start-init
loop-start-init g c =
    let block = c.in_ok-block.ensures.block in
    record { stays = c.in_ok-block.ensures.stays; tried = λ starts. none_tried (g.C.PageCursor.memory c.args.cursor.now) c.args.self.now starts c.in_ok-block.block c.requires.in_entry c.requires.permitted block.0 block.1 }

pub try_start-found-requires-clause-in_entry : goal.try_start-found-requires-clause-in_entry
try_start-found-requires-clause-in_entry g c = (c.loop-start.invariant.tried c.requires.starts).within

pub try_start-found-requires-clause-permitted : goal.try_start-found-requires-clause-permitted
try_start-found-requires-clause-permitted g c = rw c.loop-start.invariant.stays (c.loop-start.invariant.tried c.requires.starts).permitted

pub try_start-found-requires-clause-block : goal.try_start-found-requires-clause-block
try_start-found-requires-clause-block g c = rw c.loop-start.invariant.stays (c.loop-start.invariant.tried c.requires.starts).block

pub try_start-found-requires-clause-last : goal.try_start-found-requires-clause-last
try_start-found-requires-clause-last g c = (c.loop-start.invariant.tried c.requires.starts).held

pub try_start-found-requires-clause-found : goal.try_start-found-requires-clause-found
try_start-found-requires-clause-found g c = rw c.loop-start.invariant.stays (c.loop-start.invariant.tried c.requires.starts).found

pub overflow_add-top : goal.overflow_add-top
overflow_add-top g c = omega (arith, entry_end (g.C.PageCursor.memory c.args.cursor.now) c.requires.starts.proper c.args.self.now.entry c.requires.starts.entry)

pub returns-then-start-highest-clause-least : goal.returns-then-start-highest-clause-least
returns-then-start-highest-clause-least g c =
    tried_all (g.C.PageCursor.memory c.args.cursor.now) c.args.self.now c.requires.starts c.loop-start.block c.loop-start.found c.try_start-found.result c.loop-start.start (c.loop-start.invariant.tried c.requires.starts)
    (rw c.loop-start.invariant.stays at c.try_start-found.ensures.found)
    (rw c.loop-start.invariant.stays at c.try_start-found.ensures.tried)
    (rw c.loop-start.invariant.stays at c.try_start-found.ensures.still)
    (omega (arith, highest_is (g.C.PageCursor.memory c.args.cursor.now) c.args.self.now c.requires.starts c.min.result c.multiple_to-highest.result c.min.ensures c.multiple_to-highest.ensures))

pub overflow_add-start : goal.overflow_add-start
overflow_add-start g c = omega (arith, start_end (g.C.PageCursor.memory c.args.cursor.now) c.args.self.now c.requires.starts c.loop-start.start (c.loop-start.invariant.tried c.requires.starts).permitted)

pub overflow_add-start-in-loop-start : goal.overflow_add-start-in-loop-start
overflow_add-start-in-loop-start g c =
    omega (arith, start_end (g.C.PageCursor.memory c.args.cursor.now) c.args.self.now c.requires.starts c.loop-start.start (c.loop-start.invariant.tried c.requires.starts).permitted, granule_most _ c.requires.starts.good.granule)

pub block_above-requires-clause-block : goal.block_above-requires-clause-block
block_above-requires-clause-block g c = rw (c.try_start-found.ensures.stays, c.loop-start.invariant.stays) (c.loop-start.invariant.tried c.requires.starts).block

pub block_above-requires-clause-behind : goal.block_above-requires-clause-behind
block_above-requires-clause-behind g c = omega (arith, (c.loop-start.invariant.tried c.requires.starts).held.low)

pub block_above-requires-clause-within : goal.block_above-requires-clause-within
block_above-requires-clause-within g c =
    let has = c.loop-start.invariant.tried c.requires.starts in
    omega (arith, block_end (g.C.PageCursor.memory c.args.cursor.now) c.loop-start.block _ c.requires.starts.proper has.block has.held)

pub returns-in_err-block-2-clause-least : goal.returns-in_err-block-2-clause-least
returns-in_err-block-2-clause-least g c =
    let none = rw (c.try_start-found.ensures.stays, c.loop-start.invariant.stays) at c.in_err-block-2.ensures.above in
    absurd (
    next_present (g.C.PageCursor.memory c.args.cursor.now) c.args.self.now c.requires.starts c.loop-start.block c.loop-start.found c.try_start-found.result c.loop-start.start (c.loop-start.invariant.tried c.requires.starts)
    (rw c.loop-start.invariant.stays at c.try_start-found.ensures.found)
    (rw c.loop-start.invariant.stays at c.try_start-found.ensures.tried)
    (rw c.loop-start.invariant.stays at c.try_start-found.ensures.still)
    (λ same. absurd (omega (arith, same, highest_is (g.C.PageCursor.memory c.args.cursor.now) c.args.self.now c.requires.starts c.min.result c.multiple_to-highest.result c.min.ensures c.multiple_to-highest.ensures))) none
    )

pub overflow_add-block : goal.overflow_add-block
overflow_add-block g c =
    let held = rw (c.try_start-found.ensures.stays, c.loop-start.invariant.stays) at c.in_ok-block-2.ensures.above in
    omega (arith, block_end (g.C.PageCursor.memory c.args.cursor.now) c.in_ok-block-2.block _ c.requires.starts.proper held.1 held.0)

pub loop-start-smaller : goal.loop-start-smaller
loop-start-smaller g c =
    let has = c.loop-start.invariant.tried c.requires.starts in
    let held = rw (c.try_start-found.ensures.stays, c.loop-start.invariant.stays) at c.in_ok-block-2.ensures.above in
    let highest = highest_is (g.C.PageCursor.memory c.args.cursor.now) c.args.self.now c.requires.starts c.min.result c.multiple_to-highest.result c.min.ensures c.multiple_to-highest.ensures in
    let above = next_above (g.C.PageCursor.memory c.args.cursor.now) c.args.self.now c.requires.starts c.loop-start.block c.loop-start.found c.try_start-found.result c.loop-start.start (c.loop-start.invariant.tried c.requires.starts)
    (rw c.loop-start.invariant.stays at c.try_start-found.ensures.found)
    (rw c.loop-start.invariant.stays at c.try_start-found.ensures.tried)
    (rw c.loop-start.invariant.stays at c.try_start-found.ensures.still)
    c.in_ok-block-2.block c.min-start.result (λ same. absurd (omega (arith, same, highest))) held.1 held.0 (omega (arith, highest, c.multiple_to.ensures, c.min-start.ensures)) in
    omega (arith, above, ((c.requires.starts.end_by c.loop-start.start has.within).0 has.permitted).1, c.requires.starts.good.some)

pub loop-start-preserved : goal.loop-start-preserved
loop-start-preserved g c =
    let held = rw (c.try_start-found.ensures.stays, c.loop-start.invariant.stays) at c.in_ok-block-2.ensures.above in
    let highest = highest_is (g.C.PageCursor.memory c.args.cursor.now) c.args.self.now c.requires.starts c.min.result c.multiple_to-highest.result c.min.ensures c.multiple_to-highest.ensures in
    let found = rw c.loop-start.invariant.stays at c.try_start-found.ensures.found in
    let tried = rw c.loop-start.invariant.stays at c.try_start-found.ensures.tried in
    let still = rw c.loop-start.invariant.stays at c.try_start-found.ensures.still in
    record {
      stays = c.block_above.ensures.stays ∙ c.try_start-found.ensures.stays ∙ c.loop-start.invariant.stays;
      tried = λ starts.
          tried_more (g.C.PageCursor.memory c.args.cursor.now) c.args.self.now starts c.loop-start.block c.loop-start.found c.try_start-found.result c.loop-start.start (c.loop-start.invariant.tried starts) found tried still
          c.in_ok-block-2.block c.min-start.result (λ same. absurd (omega (arith, same, highest))) held.1 held.0 (omega (arith, highest, c.multiple_to.ensures, c.min-start.ensures));
    }
