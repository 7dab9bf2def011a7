use Rattle.std.proofs.Common.{◌≡◌, Err, refl, ap, subst, rules, ◌∙◌}
use Rattle.page_services.specs.PageRules.{given_back}
use Rattle.page_ranges.specs.declared.ranges.PageRange.{PageRange}
use Rattle.pool_services.specs.Groups.{joined, rows_of, without_extent}
use Rattle.pool_services.specs.Searches.{IsAt}
use Rattle.pool_services.specs.Spots.{extents_of, index_of}
use Rattle.pool_services.proofs.ExtentLists.{no-place}
use Rattle.pool_services.proofs.ExtentChanges.{freed-ended, freed-in, gone-owns, owned-range, refused-end, same-range}
use Rattle.pool_services.proofs.KeptEnds.{given-ends, gone-ends}
use Rattle.pool_services.proofs.pools.Pools.free.Goals as goal

pub returns-in_default-clause-frees : goal.returns-in_default-clause-frees
returns-in_default-clause-frees g c = (rw (← c.self.view_is) (no-place c.args.address (extents_of c.self.inside.extents) c.in_default.ensures.apart.0 c.in_default.ensures.holder), refl, refl)

pub returns-in-Back-clause-frees : goal.returns-in-Back-clause-frees
returns-in-Back-clause-frees g c =
    let es = extents_of c.self.inside.extents in let i = index_of (rows_of c.self.inside.extents) c.in-Some.spot in
    let (k, f, d) = c.in-Back.ensures in
    rw (← c.self.view_is) (freed-in c.args.book.now es c.args.address i k (extents_of c.give.new.self) f d)

pub returns-in-Back-clause-reserved : goal.returns-in-Back-clause-reserved
returns-in-Back-clause-reserved g c reserved =
    let es = extents_of c.self.inside.extents in let i = index_of (rows_of c.self.inside.extents) c.in-Some.spot in
    let (k, f, d) = c.in-Back.ensures in
    given-ends c.args.book.now i k es (extents_of c.give.new.self) (rw (← c.self.view_is) at reserved) d

pub give_from_pool-requires-clause-owned : goal.give_from_pool-requires-clause-owned
give_from_pool-requires-clause-owned g c =
    let es = extents_of c.self.inside.extents in let i = index_of (rows_of c.self.inside.extents) c.in-Some.spot in let x = c.extent.result.now in
    let ((e, h, k, p, a), one, same) = c.in-Last.ensures in
    let t : IsAt es i x = subst (λ rows. IsAt (joined rows) (index_of rows c.in-Some.spot) x) same c.extent.ensures in
    owned-range c.args.book.now.memory es i x c.range-range.result a (rw (← c.self.view_is) at c.requires.owns) t c.range-range.ensures.first c.range-range.ensures.pages

pub returns-in_err-give_from_pool-in-Last-clause-frees : goal.returns-in_err-give_from_pool-in-Last-clause-frees
returns-in_err-give_from_pool-in-Last-clause-frees g c =
    let es = extents_of c.self.inside.extents in let i = index_of (rows_of c.self.inside.extents) c.in-Some.spot in
    let (f, one, same) = c.in-Last.ensures in
    let is : c.from_residual.result ≡ Err c.in_err-give_from_pool-in-Last.field-0.0 = search rules in
    rw (← c.self.view_is, is, ap joined same) (refused-end c.args.book.now es c.args.address i c.in-Last.cell c.range-range.result c.in_err-give_from_pool-in-Last.field-0.0 c.give_from_pool.new.self f one c.in_err-give_from_pool-in-Last.ensures)

pub returns-in_ok-give_from_pool-in-Last-clause-frees : goal.returns-in_ok-give_from_pool-in-Last-clause-frees
returns-in_ok-give_from_pool-in-Last-clause-frees g c =
    let es = extents_of c.self.inside.extents in let i = index_of (rows_of c.self.inside.extents) c.in-Some.spot in let x = c.extent.result.now in
    let left = extents_of c.remove-extent.new.self in
    let (f, one, same) = c.in-Last.ensures in
    let t : IsAt es i x = subst (λ rows. IsAt (joined rows) (index_of rows c.in-Some.spot) x) same c.extent.ensures in
    let gone : left ≡ without_extent i es = subst (λ rows. left ≡ without_extent (index_of rows c.in-Some.spot) (joined rows)) same c.remove-extent.ensures in
    let back = c.in_ok-give_from_pool-in-Last.ensures ∙ ap (λ (r : PageRange). given_back r c.args.book.now) (same-range c.range-range.result x c.range-range.ensures.first c.range-range.ensures.pages) in
    rw (← c.self.view_is) (freed-ended c.args.book.now es c.args.address i c.in-Last.cell c.give_from_pool.new.self left f one (x, t, back, gone))

pub returns-in_ok-give_from_pool-in-Last-clause-owns : goal.returns-in_ok-give_from_pool-in-Last-clause-owns
returns-in_ok-give_from_pool-in-Last-clause-owns g c =
    let es = extents_of c.self.inside.extents in let i = index_of (rows_of c.self.inside.extents) c.in-Some.spot in let x = c.extent.result.now in
    let left = extents_of c.remove-extent.new.self in
    let ((e, h, k, p, a), one, same) = c.in-Last.ensures in
    let t : IsAt es i x = subst (λ rows. IsAt (joined rows) (index_of rows c.in-Some.spot) x) same c.extent.ensures in
    let gone : left ≡ without_extent i es = subst (λ rows. left ≡ without_extent (index_of rows c.in-Some.spot) (joined rows)) same c.remove-extent.ensures in
    let back = c.in_ok-give_from_pool-in-Last.ensures ∙ ap (λ (r : PageRange). given_back r c.args.book.now) (same-range c.range-range.result x c.range-range.ensures.first c.range-range.ensures.pages) in
    gone-owns c.args.book.now c.give_from_pool.new.self es i x left a (rw (← c.self.view_is) at c.requires.owns) t back gone

pub returns-in_ok-give_from_pool-in-Last-clause-reserved : goal.returns-in_ok-give_from_pool-in-Last-clause-reserved
returns-in_ok-give_from_pool-in-Last-clause-reserved g c reserved =
    let es = extents_of c.self.inside.extents in let i = index_of (rows_of c.self.inside.extents) c.in-Some.spot in let x = c.extent.result.now in
    let left = extents_of c.remove-extent.new.self in
    let (f, one, same) = c.in-Last.ensures in
    let t : IsAt es i x = subst (λ rows. IsAt (joined rows) (index_of rows c.in-Some.spot) x) same c.extent.ensures in
    let gone : left ≡ without_extent i es = subst (λ rows. left ≡ without_extent (index_of rows c.in-Some.spot) (joined rows)) same c.remove-extent.ensures in
    gone-ends c.args.book.now c.give_from_pool.new.self es i c.range-range.result left t.0 (rw (← c.self.view_is) at reserved) c.in_ok-give_from_pool-in-Last.ensures gone
