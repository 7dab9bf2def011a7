use Rattle.std.proofs.Common.{sym, ◌∙◌, arith}
use Rattle.open_agents.proofs.ListedItems.{few_items, written_next}
use Rattle.open_agents.proofs.listed.write_near.Goals as goal

pub overflow_add-count : goal.overflow_add-count
overflow_add-count c =
    let first = rw (c.in-Some.ensures.steps, sym c.is_open_on.ensures ∙ c.if-is_open_on.true) at c.loop-o.invariant.counted in
    omega (arith, first, few_items c.args.near.slots.now c.args.near.places.now c.args.handle c.args.guid)

pub loop-o-preserved-then-is_open_on : goal.loop-o-preserved-then-is_open_on
loop-o-preserved-then-is_open_on c =
    let first = rw (c.in-Some.ensures.steps, sym c.is_open_on.ensures ∙ c.if-is_open_on.true) at c.loop-o.invariant.counted in
    let written = rw (c.in-Some.ensures.steps, sym c.is_open_on.ensures ∙ c.if-is_open_on.true) at c.loop-o.invariant.written in
    record {
      counted = omega (arith, first);
      written = rw (c.put_item.ensures, c.item_of.ensures) (written ∙ written_next _ _ c.loop-o.count c.loop-o.out);
    }
