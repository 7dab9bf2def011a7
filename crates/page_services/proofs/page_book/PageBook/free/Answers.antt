-- Terms and searches, and no second tactic after them: a body that is wrong is then refused sooner.
use Rattle.std.proofs.Common.{refl, sym, subst, arith}
use Rattle.page_ranges.specs.declared.ranges.Owner.TheVariants.{Given}
use Rattle.page_ranges.specs.declared.ranges.PageRange.{PageRange}
use Rattle.page_ranges.specs.MemoryTypes.{conventional}
use Rattle.page_ranges.specs.Memory.{AllInRange, IsPresent}
use Rattle.page_services.specs.PageRules.{IsInGranules, changed_book}
use Rattle.page_services.proofs.Granules.{freed_granules, freed_present, page_address, frees_changed}
use Rattle.page_services.proofs.page_book.PageBook.free.Goals as goal

pub free_in-requires-clause-present : goal.free_in-requires-clause-present
free_in-requires-clause-present g c =
    let at = rw (page_address c.args.memory c.if-memory-ne0.false, c.are_allocated.ensures.book) at c.freed_range-freed.ensures in
    let owned = c.if-not-are_allocated.ensures.allocated.0 refl in
    rw c.are_allocated.ensures.book
    (subst (λ (range : PageRange). AllInRange c.args.self.now.memory range IsPresent) (sym at) (freed_present c.args.self.now c.args.memory c.args.pages c.are_allocated.ensures.whole (omega arith) owned))

pub free_in-requires-clause-whole : goal.free_in-requires-clause-whole
free_in-requires-clause-whole g c =
    let at = rw (page_address c.args.memory c.if-memory-ne0.false, c.are_allocated.ensures.book) at c.freed_range-freed.ensures in
    rw c.are_allocated.ensures.book
    (λ is. subst (λ (range : PageRange). IsInGranules (changed_book range conventional Given c.args.self.now)) (sym at) (freed_granules c.args.self.now c.args.memory c.args.pages is))

pub returns : goal.returns
returns g c =
    let at = rw (page_address c.args.memory c.if-memory-ne0.false, c.are_allocated.ensures.book) at c.freed_range-freed.ensures in
    let owned = c.if-not-are_allocated.ensures.allocated.0 refl in
    frees_changed c.args.self.now c.free_in.new.self c.args.memory c.args.pages c.free_in.result (c.if-memory-ne0.false, omega arith, omega arith) owned (rw (at, c.are_allocated.ensures.book) at c.free_in.ensures)
