use Rattle.std.proofs.Common.{◌-◌, arith, leb-true}
use Rattle.placement_certificate.proofs.MapLists.{entry_of_map, ends_by}
use Rattle.placement_certificate.proofs.cursors.all_end_by.Goals as goal

pub overflow_add-result : goal.overflow_add-result
overflow_add-result c = omega (arith, (entry_of_map c.args.map.now (c.args.index - 1) c.index-map-index.result (omega arith) c.index-map-index.is c.requires.map).within)

pub returns : goal.returns
returns c = λ t k d low high. ends_by c.args.map.now (c.args.index - 1) c.index-map-index.result c.args.page c.requires.map (omega arith) c.index-map-index.is (leb-true _ _ t) k d (omega arith)
