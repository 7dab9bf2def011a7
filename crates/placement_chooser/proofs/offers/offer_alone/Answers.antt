use Rattle.std.proofs.Common.{◌≡◌, ◌+◌, ◌-◌, ◌∙◌, ℕ, Some, true≢false, refl, sym, ap, subst, arith}
use Rattle.std.specs.Option.{option_map}
use Rattle.page_ranges.specs.declared.ranges.Descriptor.{Descriptor}
use Rattle.page_ranges.proofs.Blocks.{entry_end}
use Rattle.descriptor_table.specs.Tables.{entry_of}
use Rattle.placement_certificate.specs.Sides.{IsSavedAt}
use Rattle.placement_chooser.specs.Starts.{IsOfferIn}
use Rattle.placement_chooser.proofs.Alone.{first_offered, high_offered, low_offered, none_offered, whole_offered}
use Rattle.placement_chooser.proofs.offers.offer_alone.Goals as goal

pub overflow_add-end : goal.overflow_add-end
overflow_add-end g c = omega (arith, entry_end c.args.free.now.memory c.requires.proper c.args.free.now.entry c.requires.entry, ap (λ (d : Descriptor). d.first + d.pages) c.run-run.ensures)

pub returns-then-not-fits : goal.returns-then-not-fits
returns-then-not-fits g c =
    let m = c.args.free.now.memory in
    let r = c.args.request.now in
    let e = c.args.free.now.entry in
    let same = c.run-run.ensures in
    let first : c.run-run.result.now.range.first ≡ e.first = ap (λ (d : Descriptor). d.first) same in
    let pages : c.run-run.result.now.range.pages ≡ e.pages = ap (λ (d : Descriptor). d.pages) same in
    none_offered m r e c.requires.one c.requires.proper c.requires.good c.requires.entry c.requires.free c.requires.ordinary c.requires.behind (λ by. true≢false (sym (c.fits.ensures.1 (omega (arith, by, first))) ∙ c.if-not-fits.true))

pub returns-then-request-end : goal.returns-then-request-end
returns-then-request-end g c =
    let m = c.args.free.now.memory in
    let r = c.args.request.now in
    let e = c.args.free.now.entry in
    let same = c.run-run.ensures in
    let first : c.run-run.result.now.range.first ≡ e.first = ap (λ (d : Descriptor). d.first) same in
    let pages : c.run-run.result.now.range.pages ≡ e.pages = ap (λ (d : Descriptor). d.pages) same in
    let below = option_map (λ q. entry_of q.now) c.below.result in
    let l = c.edge_saves-low.result in
    let low = subst (λ d. IsSavedAt r.mtype below (Some d) l) same c.edge_saves-low.ensures.saved in
    subst (λ k. IsOfferIn m r e (record { saving = 2 + l; start = k })) (sym first) (first_offered m r e c.requires.one c.requires.proper c.requires.good c.requires.entry c.requires.free c.requires.ordinary c.requires.behind below l c.below.ensures low (omega (arith, c.if-request-end.true, first, pages)) (omega (arith, c.if-not-fits.ensures.0 refl, first)))

pub returns-then-run-request : goal.returns-then-run-request
returns-then-run-request g c =
    let m = c.args.free.now.memory in
    let r = c.args.request.now in
    let e = c.args.free.now.entry in
    let same = c.run-run.ensures in
    let first : c.run-run.result.now.range.first ≡ e.first = ap (λ (d : Descriptor). d.first) same in
    let pages : c.run-run.result.now.range.pages ≡ e.pages = ap (λ (d : Descriptor). d.pages) same in
    let below = option_map (λ q. entry_of q.now) c.below.result in
    let l = c.edge_saves-low.result in
    let low = subst (λ d. IsSavedAt r.mtype below (Some d) l) same c.edge_saves-low.ensures.saved in
    let above = option_map (λ q. entry_of q.now) c.above.result in
    let h = c.edge_saves-high.result in
    let high = subst (λ d. IsSavedAt r.mtype above (Some d) h) same c.edge_saves-high.ensures.saved in
    subst (λ k. IsOfferIn m r e (record { saving = 3 + l + h; start = k })) (sym first) (whole_offered m r e c.requires.one c.requires.proper c.requires.good c.requires.entry c.requires.free c.requires.ordinary c.requires.behind below above l h c.below.ensures c.above.ensures low high (omega (arith, c.if-run-request.true, pages)) (omega (arith, c.if-run-request.true, c.if-request-end.false, first, pages)))

pub returns-then-high-low : goal.returns-then-high-low
returns-then-high-low g c =
    let m = c.args.free.now.memory in
    let r = c.args.request.now in
    let e = c.args.free.now.entry in
    let same = c.run-run.ensures in
    let first : c.run-run.result.now.range.first ≡ e.first = ap (λ (d : Descriptor). d.first) same in
    let pages : c.run-run.result.now.range.pages ≡ e.pages = ap (λ (d : Descriptor). d.pages) same in
    let below = option_map (λ q. entry_of q.now) c.below.result in
    let l = c.edge_saves-low.result in
    let low = subst (λ d. IsSavedAt r.mtype below (Some d) l) same c.edge_saves-low.ensures.saved in
    let above = option_map (λ q. entry_of q.now) c.above.result in
    let h = c.edge_saves-high.result in
    let high = subst (λ d. IsSavedAt r.mtype above (Some d) h) same c.edge_saves-high.ensures.saved in
    subst (λ k. IsOfferIn m r e (record { saving = 2 + l; start = k })) (sym first) (low_offered m r e c.requires.one c.requires.proper c.requires.good c.requires.entry c.requires.free c.requires.ordinary c.requires.behind below above l h c.below.ensures c.above.ensures low high (omega (arith, c.if-run-request.false, c.requires.room, pages)) (omega (arith, c.if-request-end.false, first, pages)) c.if-high-low.true)

pub returns : goal.returns
returns g c =
    let m = c.args.free.now.memory in
    let r = c.args.request.now in
    let e = c.args.free.now.entry in
    let same = c.run-run.ensures in
    let first : c.run-run.result.now.range.first ≡ e.first = ap (λ (d : Descriptor). d.first) same in
    let pages : c.run-run.result.now.range.pages ≡ e.pages = ap (λ (d : Descriptor). d.pages) same in
    let below = option_map (λ q. entry_of q.now) c.below.result in
    let l = c.edge_saves-low.result in
    let low = subst (λ d. IsSavedAt r.mtype below (Some d) l) same c.edge_saves-low.ensures.saved in
    let above = option_map (λ q. entry_of q.now) c.above.result in
    let h = c.edge_saves-high.result in
    let high = subst (λ d. IsSavedAt r.mtype above (Some d) h) same c.edge_saves-high.ensures.saved in
    subst (λ (k : ℕ). IsOfferIn m r e (record { saving = 2 + h; start = k - r.pages })) (sym (ap (λ (d : Descriptor). d.first + d.pages) same)) (high_offered m r e c.requires.one c.requires.proper c.requires.good c.requires.entry c.requires.free c.requires.ordinary c.requires.behind below above l h c.below.ensures c.above.ensures low high (omega (arith, c.if-run-request.false, c.requires.room, pages)) (omega (arith, c.if-request-end.false, first, pages)) (omega (arith, c.if-high-low.false)))
