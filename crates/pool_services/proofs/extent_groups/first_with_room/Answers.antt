use Rattle.std.proofs.Common.{◌∙◌, ap, arith, sym, subst, List, Some}
use Rattle.raw_pool.specs.Blocks.{cells_for}
use Rattle.pool_services.specs.Extents.{Extent}
use Rattle.pool_services.specs.Groups.{rows_of}
use Rattle.pool_services.specs.Searches.{IsFirstWithRoom}
use Rattle.pool_services.proofs.GroupChanges.{count-rows, first-in, in-old, in-rows, none-at-all, none-more, same-groups, same-row-of}
use Rattle.pool_services.proofs.extent_groups.first_with_room.Goals as goal

pub returns : goal.returns
returns g c = record {
  first = none-at-all c.args.mtype (cells_for c.args.size) c.loop-group.group (rows_of c.args.groups.now.items) (omega (arith, c.loop-group-test.false, c.len-group-end.ensures, count-rows c.args.groups.now.items)) c.loop-group.invariant.none;
  same = c.loop-group.invariant.same;
}

pub loop-group-preserved : goal.loop-group-preserved
loop-group-preserved g c =
    let gs = c.loop-group.groups.items in let old = c.args.groups.now.items in let k = c.loop-group.group in let x = c.index_mut.result.now in let e = c.index_mut.ensures.value in let h = c.loop-group.invariant in
    let w = in-rows old k c.len-group-end.result (omega (arith, c.len-group-end.ensures)) c.loop-group-test.true in
    let l = in-old old gs k h.same w in
    record {
      same = same-groups gs k x c.first.new.self l e (ap (λ v. v.items) c.first.ensures.extents) ∙ h.same;
      none = none-more c.args.mtype (cells_for c.args.size) k (rows_of old) x.extents.items w (same-row-of old gs k x h.same l e) h.none c.in_default.ensures.first;
    }

pub returns-in-Some : goal.returns-in-Some
returns-in-Some g c =
    let gs = c.loop-group.groups.items in let old = c.args.groups.now.items in let k = c.loop-group.group in let x = c.index_mut.result.now in let e = c.index_mut.ensures.value in let h = c.loop-group.invariant in
    let w = in-rows old k c.len-group-end.result (omega (arith, c.len-group-end.ensures)) c.loop-group-test.true in
    let l = in-old old gs k h.same w in
    let f = subst (λ (es : List Extent). IsFirstWithRoom c.args.mtype (cells_for c.args.size) es (Some c.in-Some.at)) (sym (same-row-of old gs k x h.same l e)) c.in-Some.ensures.first in
    record {
      first = ((w, f.1.0), first-in c.args.mtype (cells_for c.args.size) k c.in-Some.at (rows_of old) w h.none f);
      same = same-groups gs k x c.first.new.self l e (ap (λ v. v.items) c.first.ensures.extents) ∙ h.same;
    }
