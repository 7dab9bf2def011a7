use Rattle.std.proofs.Common.{refl, rules, arith}
use Rattle.page_ranges.proofs.Blocks.{entry_end}
use Rattle.placement_certificate.proofs.BlockStarts.{block_end, free_in_block}
use Rattle.placement_certificate.proofs.FreeStretches.{entry_free}
use Rattle.placement_certificate.proofs.search.stretch_end.Goals as goal

pub overflow_add-end : goal.overflow_add-end
overflow_add-end g c = omega (arith, entry_end (g.C.PageCursor.memory c.args.cursor.now) c.requires.proper c.args.entry.now c.requires.entry)

pub loop-block-init : goal.loop-block-init
loop-block-init g c = record { stays = refl; within = omega arith; free = entry_free (g.C.PageCursor.memory c.args.cursor.now) c.args.entry.now c.requires.proper c.requires.entry c.requires.available }

pub overflow_add-end-in-Some : goal.overflow_add-end-in-Some
overflow_add-end-in-Some g c =
    let held = rw c.loop-block.invariant.stays at c.in-Some.ensures.block in
    omega (arith, block_end (g.C.PageCursor.memory c.args.cursor.now) c.in-Some.block _ c.requires.proper held.1 held.0)

pub loop-block-smaller : goal.loop-block-smaller
loop-block-smaller g c =
    let held = rw c.loop-block.invariant.stays at c.in-Some.ensures.block in
    omega (arith, block_end (g.C.PageCursor.memory c.args.cursor.now) c.in-Some.block _ c.requires.proper held.1 held.0, held.0.high)

pub loop-block-preserved : goal.loop-block-preserved
loop-block-preserved g c =
    let held = rw c.loop-block.invariant.stays at c.in-Some.ensures.block in
    record {
      stays = search rules;
      within = omega (arith, c.loop-block.invariant.within, held.0.high);
      free = free_in_block (g.C.PageCursor.memory c.args.cursor.now) c.args.entry.now.first c.loop-block.end c.in-Some.block held.1 held.0 (search rules) c.loop-block.invariant.free;
    }
