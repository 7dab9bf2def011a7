use Rattle.std.proofs.Common.{◌+◌, sym, ap, arith}
use Rattle.std.proofs.lemmas.List.{get_or_default}
use Rattle.placement_certificate.proofs.MapLists.{entry_like, no_page, in_none, firsts_rise}
use Rattle.placement_certificate.proofs.cursors.entry_from.Goals as goal

pub returns-then-index-map-clause-block : goal.returns-then-index-map-clause-block
returns-then-index-map-clause-block c = no_page c.args.map.now c.args.page c.requires.map (in_none c.args.map.now c.args.index c.args.page (λ j d l. c.requires.by j d (omega arith) l) (λ j d l h. absurd (omega arith)))

pub returns-then-entry-page-clause-block : goal.returns-then-entry-page-clause-block
returns-then-entry-page-clause-block c =
    let e = c.index-map-index.result in (
      record { low = omega arith; high = omega (arith, c.requires.above c.args.index e (omega arith) (omega arith), ap (λ s. s.first + s.pages) c.index-map-index.is) },
      λ k i. entry_like c.args.map.now e k c.requires.map (c.args.index, omega arith, sym c.index-map-index.is) i,
    )

pub returns-else-entry-page-clause-block : goal.returns-else-entry-page-clause-block
returns-else-entry-page-clause-block c =
    let e = c.index-map-index.result in
    no_page c.args.map.now c.args.page c.requires.map (in_none c.args.map.now c.args.index c.args.page (λ j d l. c.requires.by j d (omega arith) l)
    (λ j d l h. omega (arith, firsts_rise c.args.map.now c.requires.map c.args.index j d l h, ap (λ s. s.first) c.index-map-index.is, ap (λ s. s.first) (get_or_default c.args.map.now c.args.index d e (omega arith)))))
