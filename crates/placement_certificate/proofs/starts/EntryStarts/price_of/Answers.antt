use Rattle.std.proofs.Common.{◌+◌, arith}
use Rattle.page_ranges.specs.Memory.{page_at, page_below}
use Rattle.placement_certificate.proofs.Edges.{adds-most}
use Rattle.placement_certificate.proofs.BlockStarts.{on_page, block_end, first_on, last_on, price_by_edges, few_entries}
use Rattle.placement_certificate.proofs.starts.EntryStarts.price_of.Goals as goal

pub block_above-above-requires-clause-within : goal.block_above-above-requires-clause-within
block_above-above-requires-clause-within g c =
    omega (arith, block_end (g.C.PageCursor.memory c.args.cursor.now) c.args.block.now _ c.requires.starts.proper c.requires.block c.requires.last)

pub overflow_add-result : goal.overflow_add-result
overflow_add-result g c =
    let m = g.C.PageCursor.memory c.args.cursor.now in
    let s = c.args.self.now in
    let p = c.args.start in
    omega (
      arith,
      few_entries m s c.requires.starts,
      c.edge_adds.ensures (page_below m p) (page_at m p) (c.block_below-below.ensures m c.requires.starts c.requires.in_entry) (first_on m s c.requires.starts p c.requires.in_entry),
      adds-most (page_below m p) (page_at m p),
    )

pub overflow_add-result-2 : goal.overflow_add-result-2
overflow_add-result-2 g c =
    let m = g.C.PageCursor.memory c.args.cursor.now in
    let s = c.args.self.now in
    let p = c.args.start in
    let end = p + s.request.pages in
    omega (
      arith,
      few_entries m s c.requires.starts,
      c.edge_adds.ensures (page_below m p) (page_at m p) (c.block_below-below.ensures m c.requires.starts c.requires.in_entry) (first_on m s c.requires.starts p c.requires.in_entry),
      c.edge_adds-2.ensures (page_below m end) (page_at m end) (last_on m s c.requires.starts c.args.block.now p c.requires.block c.requires.last) (on_page m end c.block_above-above.result c.block_above-above.ensures.above),
      adds-most (page_below m p) (page_at m p),
      adds-most (page_below m end) (page_at m end),
    )

pub overflow_sub-result : goal.overflow_sub-result
overflow_sub-result g c =
    let m = g.C.PageCursor.memory c.args.cursor.now in
    let s = c.args.self.now in
    let p = c.args.start in
    let end = p + s.request.pages in
    let below = c.block_below-below.ensures m c.requires.starts c.requires.in_entry in
    let first = first_on m s c.requires.starts p c.requires.in_entry in
    let last = last_on m s c.requires.starts c.args.block.now p c.requires.block c.requires.last in
    omega (
      arith,
      price_by_edges m s c.requires.starts p c.requires.permitted,
      c.edge_adds.ensures (page_below m p) (page_at m p) below first,
      c.edge_adds-2.ensures (page_below m end) (page_at m end) last (on_page m end c.block_above-above.result c.block_above-above.ensures.above),
      c.edge_saves.ensures (page_below m p) (page_at m p) below first,
    )

pub overflow_sub-result-2 : goal.overflow_sub-result-2
overflow_sub-result-2 g c =
    let m = g.C.PageCursor.memory c.args.cursor.now in
    let s = c.args.self.now in
    let p = c.args.start in
    let end = p + s.request.pages in
    let below = c.block_below-below.ensures m c.requires.starts c.requires.in_entry in
    let first = first_on m s c.requires.starts p c.requires.in_entry in
    let last = last_on m s c.requires.starts c.args.block.now p c.requires.block c.requires.last in
    omega (
      arith,
      price_by_edges m s c.requires.starts p c.requires.permitted,
      c.edge_adds.ensures (page_below m p) (page_at m p) below first,
      c.edge_adds-2.ensures (page_below m end) (page_at m end) last (on_page m end c.block_above-above.result c.block_above-above.ensures.above),
      c.edge_saves.ensures (page_below m p) (page_at m p) below first,
      c.edge_saves-2.ensures (page_at m end) (page_below m end) (on_page m end c.block_above-above.result c.block_above-above.ensures.above) last,
    )

pub returns-clause-price : goal.returns-clause-price
returns-clause-price g c =
    let m = g.C.PageCursor.memory c.args.cursor.now in
    let s = c.args.self.now in
    let p = c.args.start in
    let end = p + s.request.pages in
    let below = c.block_below-below.ensures m c.requires.starts c.requires.in_entry in
    let first = first_on m s c.requires.starts p c.requires.in_entry in
    let last = last_on m s c.requires.starts c.args.block.now p c.requires.block c.requires.last in
    omega (
      arith,
      price_by_edges m s c.requires.starts p c.requires.permitted,
      c.edge_adds.ensures (page_below m p) (page_at m p) below first,
      c.edge_adds-2.ensures (page_below m end) (page_at m end) last (on_page m end c.block_above-above.result c.block_above-above.ensures.above),
      c.edge_saves.ensures (page_below m p) (page_at m p) below first,
      c.edge_saves-2.ensures (page_at m end) (page_below m end) (on_page m end c.block_above-above.result c.block_above-above.ensures.above) last,
    )
