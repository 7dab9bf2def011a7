use Rattle.std.proofs.Common.{ℕ, ◌^◌, ◌≤◌, sym, ◌∙◌, subst, arith}
use Rattle.pool_services.specs.Extents.{pages_for}
use Rattle.pool_services.proofs.NewExtents.{is-counted, not-uncounted, pages-enough, pages-few, rounded-as}
use Rattle.pool_services.proofs.extents.extent_pages.Goals as goal

pub unreachable-requires : goal.unreachable-requires
unreachable-requires c =
    let few = pages-few c.args.granule c.args.mtype c.args.size c.requires.granule c.requires.size in
    let e = rounded-as c.args.granule c.args.mtype c.args.size c.pages_for.result c.granule_for.result c.pages_for.ensures.pages c.granule_for.ensures in
    absurd (not-uncounted _ (omega (arith, few, e)) c.in_default.ensures)

pub returns-clause-pages : goal.returns-clause-pages
returns-clause-pages c = is-counted _ _ c.in-Some.ensures ∙ rounded-as c.args.granule c.args.mtype c.args.size c.pages_for.result c.granule_for.result c.pages_for.ensures.pages c.granule_for.ensures

pub returns-clause-enough : goal.returns-clause-enough
returns-clause-enough c =
    let e = is-counted _ _ c.in-Some.ensures ∙ rounded-as c.args.granule c.args.mtype c.args.size c.pages_for.result c.granule_for.result c.pages_for.ensures.pages c.granule_for.ensures in
    subst (λ (n : ℕ). pages_for c.args.size ≤ n) (sym e) (pages-enough c.args.granule c.args.mtype c.args.size c.requires.granule)

pub returns-clause-few : goal.returns-clause-few
returns-clause-few c =
    let e = is-counted _ _ c.in-Some.ensures ∙ rounded-as c.args.granule c.args.mtype c.args.size c.pages_for.result c.granule_for.result c.pages_for.ensures.pages c.granule_for.ensures in
    subst (λ (n : ℕ). n ≤ 2 ^ 21) (sym e) (pages-few c.args.granule c.args.mtype c.args.size c.requires.granule c.requires.size)
