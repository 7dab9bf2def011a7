use Rattle.std.proofs.Common.{◌/◌, List, sym, ap, arith, subst}
use Rattle.pool_services.specs.Extents.{AreExtents, Extent}
use Rattle.pool_services.specs.Groups.{AreUsed, joined}
use Rattle.pool_services.proofs.GroupChanges.{half-of, same-split, split-apart, split-extents}
use Rattle.pool_services.proofs.extent_groups.split.Goals as goal

pub returns-in_err-upper-clause-extents : goal.returns-in_err-upper-clause-extents
returns-in_err-upper-clause-extents g c =
    ap joined (same-split c.args.groups.now.items c.reserve.new.self.items c.args.at c.index_mut.result.now c.split_off.new.self c.requires.index c.in_ok-reserve.ensures.items c.index_mut.ensures.value c.in_err-upper.ensures.err)

pub returns-in_err-upper-clause-apart : goal.returns-in_err-upper-clause-apart
returns-in_err-upper-clause-apart g c =
    let s = same-split c.args.groups.now.items c.reserve.new.self.items c.args.at c.index_mut.result.now c.split_off.new.self c.requires.index c.in_ok-reserve.ensures.items c.index_mut.ensures.value c.in_err-upper.ensures.err in
    (subst (λ (rows : List (List Extent)). AreExtents (joined rows)) (sym s) c.requires.apart.0, subst AreUsed (sym s) c.requires.apart.1)

pub returns-clause-extents : goal.returns-clause-extents
returns-clause-extents g c =
    split-extents c.args.groups.now.items c.reserve.new.self.items c.insert_with_room.new.items.items c.args.at (c.len-half.result / 2) c.index_mut.result.now c.split_off.new.self c.in_ok-upper.upper c.requires.index c.in_ok-reserve.ensures.items c.index_mut.ensures.value c.in_ok-upper.ensures.lower
    c.in_ok-upper.ensures.upper c.insert_with_room.ensures

pub returns-clause-apart : goal.returns-clause-apart
returns-clause-apart g c =
    split-apart c.args.groups.now.items c.reserve.new.self.items c.insert_with_room.new.items.items c.args.at (c.len-half.result / 2) c.index_mut.result.now c.split_off.new.self c.in_ok-upper.upper c.requires.index c.in_ok-reserve.ensures.items c.index_mut.ensures.value c.in_ok-upper.ensures.lower
    c.in_ok-upper.ensures.upper c.insert_with_room.ensures c.requires.apart c.requires.many
    (half-of c.args.groups.now.items c.reserve.new.self.items c.args.at c.len-half.result c.index.result.now c.requires.index c.in_ok-reserve.ensures.items c.index.ensures (omega (arith, c.len-half.ensures)))
