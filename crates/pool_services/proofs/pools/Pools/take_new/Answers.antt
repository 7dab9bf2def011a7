use Rattle.std.proofs.Common.{◌≡◌, List, Ok, Err, refl, sym, ap, subst}
use Rattle.page_ranges.specs.Granules.{IsGranule}
use Rattle.page_ranges.specs.Memory.{IsProperMemory}
use Rattle.page_services.specs.PageRules.{Book}
use Rattle.pool_services.specs.Extents.{Extent, AreExtents}
use Rattle.pool_services.specs.PoolRules.{OwnsExtents, PoolValue}
use Rattle.pool_services.specs.Spots.{extents_of}
use Rattle.pool_services.proofs.NewExtents.{is-made, is-new-extents, is-of-granule, is-put, owns-new, refused, takes}
use Rattle.pool_services.proofs.Reached.{moved}
use Rattle.pool_services.proofs.KeptEnds.{more-ends, same-ends}
use Rattle.pool_services.proofs.pools.Pools.take_new.Goals as goal

pub returns-in_default-place_for_pool-clause-allocates : goal.returns-in_default-place_for_pool-clause-allocates
returns-in_default-place_for_pool-clause-allocates g c = (
  c.requires.good,
  (λ u. c.requires.none),
  refused g.row.A.Denot c.args.book.now c.args.mtype c.pages_for.result c.in_default-place_for_pool.field-0 c.place_for_pool.new.self
      (takes g.row.A.Denot c.args.book.now c.place_for_pool.new.self c.in-Some.chosen.request c.args.mtype c.pages_for.result (Err c.in_default-place_for_pool.field-0) c.in-Some.ensures.best.0 c.in_default-place_for_pool.ensures.places),
  moved (extents_of c.reserve.new.self) (extents_of c.self.inside.extents) c.args.self.now.extents c.reserve.ensures.extents (ap (λ (v : PoolValue). v.extents) c.self.view_is),
)

pub returns-in_default-place_for_pool-clause-owns : goal.returns-in_default-place_for_pool-clause-owns
returns-in_default-place_for_pool-clause-owns g c =
    let b : c.place_for_pool.new.self ≡ c.args.book.now = refused g.row.A.Denot c.args.book.now c.args.mtype c.pages_for.result c.in_default-place_for_pool.field-0 c.place_for_pool.new.self
    (takes g.row.A.Denot c.args.book.now c.place_for_pool.new.self c.in-Some.chosen.request c.args.mtype c.pages_for.result (Err c.in_default-place_for_pool.field-0) c.in-Some.ensures.best.0 c.in_default-place_for_pool.ensures.places) in
    let e : (extents_of c.reserve.new.self) ≡ c.args.self.now.extents = moved (extents_of c.reserve.new.self) (extents_of c.self.inside.extents) c.args.self.now.extents c.reserve.ensures.extents (ap (λ (v : PoolValue). v.extents) c.self.view_is) in
    subst (λ (x : Book). OwnsExtents x.memory (extents_of c.reserve.new.self)) (sym b) (subst (λ (es : List Extent). OwnsExtents c.args.book.now.memory es) (sym e) c.requires.owns)

pub add-requires-clause-extent : goal.add-requires-clause-extent
add-requires-clause-extent g c =
    let w = takes g.row.A.Denot c.args.book.now c.place_for_pool.new.self c.in-Some.chosen.request c.args.mtype c.pages_for.result (Ok c.in-Ok-place_for_pool.placed) c.in-Some.ensures.best.0 c.in-Ok-place_for_pool.ensures.places in
    let e = is-of-granule _ _ _ _ _ _ _ c.with_block-extent.ensures c.extent_pages-pages.ensures.pages c.granule.ensures.granule in
    let v = subst IsGranule c.granule.ensures.granule c.granule.ensures.valid in
    is-made c.args.book.now c.with_block-extent.result c.args.mtype c.args.size c.pages_for.result c.in-Ok-place_for_pool.placed v c.requires.size c.pages_for.ensures.pages w.0 e

pub add-requires-clause-apart : goal.add-requires-clause-apart
add-requires-clause-apart g c =
    let w = takes g.row.A.Denot c.args.book.now c.place_for_pool.new.self c.in-Some.chosen.request c.args.mtype c.pages_for.result (Ok c.in-Ok-place_for_pool.placed) c.in-Some.ensures.best.0 c.in-Ok-place_for_pool.ensures.places in
    let e = is-of-granule _ _ _ _ _ _ _ c.with_block-extent.ensures c.extent_pages-pages.ensures.pages c.granule.ensures.granule in
    let v = subst IsGranule c.granule.ensures.granule c.granule.ensures.valid in
    let m = moved (extents_of c.reserve.new.self) (extents_of c.self.inside.extents) c.args.self.now.extents c.reserve.ensures.extents (ap (λ (v : PoolValue). v.extents) c.self.view_is) in
    is-new-extents c.args.book.now c.args.self.now.extents (extents_of c.reserve.new.self) _ c.with_block-extent.result c.args.mtype c.args.size c.pages_for.result c.in-Ok-place_for_pool.placed
    v c.requires.size c.pages_for.ensures.pages (subst AreExtents m c.reserve.ensures.apart) c.requires.owns (subst IsProperMemory c.table.ensures c.descriptors.ensures.proper) w.0 m e refl

pub returns-clause-allocates : goal.returns-clause-allocates
returns-clause-allocates g c =
    let w = takes g.row.A.Denot c.args.book.now c.place_for_pool.new.self c.in-Some.chosen.request c.args.mtype c.pages_for.result (Ok c.in-Ok-place_for_pool.placed) c.in-Some.ensures.best.0 c.in-Ok-place_for_pool.ensures.places in
    let e = is-of-granule _ _ _ _ _ _ _ c.with_block-extent.ensures c.extent_pages-pages.ensures.pages c.granule.ensures.granule in (
      c.requires.good,
      c.requires.size,
      is-put c.args.book.now c.place_for_pool.new.self c.args.self.now.extents (extents_of c.reserve.new.self) (extents_of c.add.new.self) c.with_block-extent.result c.args.mtype c.args.size c.pages_for.result c.in-Ok-place_for_pool.placed
          c.pages_for.ensures.pages c.requires.none w.0 w.1
          (moved (extents_of c.reserve.new.self) (extents_of c.self.inside.extents) c.args.self.now.extents c.reserve.ensures.extents (ap (λ (v : PoolValue). v.extents) c.self.view_is)) e c.add.ensures,
    )

pub returns-clause-owns : goal.returns-clause-owns
returns-clause-owns g c =
    let w = takes g.row.A.Denot c.args.book.now c.place_for_pool.new.self c.in-Some.chosen.request c.args.mtype c.pages_for.result (Ok c.in-Ok-place_for_pool.placed) c.in-Some.ensures.best.0 c.in-Ok-place_for_pool.ensures.places in
    let e = is-of-granule _ _ _ _ _ _ _ c.with_block-extent.ensures c.extent_pages-pages.ensures.pages c.granule.ensures.granule in
    let v = subst IsGranule c.granule.ensures.granule c.granule.ensures.valid in
    owns-new c.args.book.now c.place_for_pool.new.self c.args.self.now.extents (extents_of c.reserve.new.self) (extents_of c.add.new.self) c.with_block-extent.result c.args.mtype c.args.size c.pages_for.result c.in-Ok-place_for_pool.placed
    v c.requires.size c.pages_for.ensures.pages c.requires.owns (subst IsProperMemory c.table.ensures c.descriptors.ensures.proper) w.0 w.1
    (moved (extents_of c.reserve.new.self) (extents_of c.self.inside.extents) c.args.self.now.extents c.reserve.ensures.extents (ap (λ (v : PoolValue). v.extents) c.self.view_is)) e c.add.ensures

pub returns-in_default-place_for_pool-clause-reserved : goal.returns-in_default-place_for_pool-clause-reserved
returns-in_default-place_for_pool-clause-reserved g c reserved =
    let b : c.place_for_pool.new.self ≡ c.args.book.now = refused g.row.A.Denot c.args.book.now c.args.mtype c.pages_for.result c.in_default-place_for_pool.field-0 c.place_for_pool.new.self
    (takes g.row.A.Denot c.args.book.now c.place_for_pool.new.self c.in-Some.chosen.request c.args.mtype c.pages_for.result (Err c.in_default-place_for_pool.field-0) c.in-Some.ensures.best.0 c.in_default-place_for_pool.ensures.places) in
    let e : (extents_of c.reserve.new.self) ≡ c.args.self.now.extents = moved (extents_of c.reserve.new.self) (extents_of c.self.inside.extents) c.args.self.now.extents c.reserve.ensures.extents (ap (λ (v : PoolValue). v.extents) c.self.view_is) in
    same-ends c.args.book.now c.place_for_pool.new.self c.args.self.now.extents (extents_of c.reserve.new.self) reserved b e

pub returns-clause-reserved : goal.returns-clause-reserved
returns-clause-reserved g c reserved =
    let w = takes g.row.A.Denot c.args.book.now c.place_for_pool.new.self c.in-Some.chosen.request c.args.mtype c.pages_for.result (Ok c.in-Ok-place_for_pool.placed) c.in-Some.ensures.best.0 c.in-Ok-place_for_pool.ensures.places in
    more-ends c.args.book.now c.place_for_pool.new.self c.args.self.now.extents (extents_of c.reserve.new.self) (extents_of c.add.new.self) c.with_block-extent.result _ c.args.mtype reserved w.1
    (moved (extents_of c.reserve.new.self) (extents_of c.self.inside.extents) c.args.self.now.extents c.reserve.ensures.extents (ap (λ (v : PoolValue). v.extents) c.self.view_is)) c.add.ensures
