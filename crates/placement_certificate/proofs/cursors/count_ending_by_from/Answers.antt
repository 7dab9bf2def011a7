use Rattle.std.proofs.Common.{◌+◌, ap, arith}
use Rattle.std.proofs.lemmas.List.{get_or_default}
use Rattle.placement_certificate.proofs.MapLists.{entry_of_map, ends_rise}
use Rattle.placement_certificate.proofs.cursors.count_ending_by_from.Goals as goal

pub returns-then-page-entry-clause-above : goal.returns-then-page-entry-clause-above
returns-then-page-entry-clause-above c =
    let e = c.index-map-index.result in
    λ k d low high.
    omega (arith, ends_rise c.args.map.now c.requires.map c.loop-index.index k d low high, ap (λ s. s.first + s.pages) c.index-map-index.is, ap (λ s. s.first + s.pages) (get_or_default c.args.map.now c.loop-index.index d e (omega arith)))

pub overflow_add-entry : goal.overflow_add-entry
overflow_add-entry c = omega (arith, (entry_of_map c.args.map.now c.loop-index.index c.index-map-index.result (omega arith) c.index-map-index.is c.requires.map).within)
