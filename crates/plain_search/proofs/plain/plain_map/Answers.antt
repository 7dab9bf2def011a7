use Rattle.std.proofs.Common.{◌-◌, ◌≡◌, ◌<◌, sym, ◌∙◌, length, arith}
use Rattle.std.proofs.lemmas.Grind.{common_steps}
use Rattle.plain_search.proofs.PlainMaps.{map_grown, map_first, map_apart, pages_at_most, run_end}
use Rattle.plain_search.proofs.plain.plain_map.Goals as goal
use Rattle.plain_search.proofs.plain.plain_map.Goals.{else-not-is_empty-via-then-not-is_empty+else-goes_on, else-not-is_empty-via-else-not-is_empty}

pub overflow_add-entry : goal.overflow_add-entry
overflow_add-entry g c =
    let some : 0 < length c.loop-i.entries.items = grind (arith, common_steps) in
    omega (
      arith,
      run_end c.args.runs.now (c.loop-i.i - 1) c.index-runs-i.result c.requires.ends (omega arith) c.index-runs-i.is,
      pages_at_most c.args.runs.now c.loop-i.i c.loop-i.entries.items c.index-then-goes_on.result.now c.requires.order c.requires.ends c.loop-i.invariant some c.index-then-goes_on.ensures,
    )

pub loop-i-preserved-then-goes_on : goal.loop-i-preserved-then-goes_on
loop-i-preserved-then-goes_on g c =
    let some : 0 < length c.loop-i.entries.items = grind (arith, common_steps) in
    map_grown c.args.runs.now (c.loop-i.i - 1) c.loop-i.i c.index-runs-i.result c.loop-i.entries.items c.index-then-goes_on.result.now c.index.result.now c.requires.order (omega arith) (omega arith) c.index-runs-i.is
    c.loop-i.invariant some c.index-then-goes_on.ensures c.index.ensures (sym c.goes_on.ensures ∙ c.if-goes_on.true)

pub loop-i-preserved : goal.loop-i-preserved
loop-i-preserved g c = c.in_ok-insert.ensures.items ∙ elim c.else-not-is_empty.branch [
  | else-not-is_empty-via-then-not-is_empty+else-goes_on w ↦
      let some : 0 < length c.loop-i.entries.items = grind (arith, common_steps) in
      map_apart c.args.runs.now (c.loop-i.i - 1) c.loop-i.i c.index-runs-i.result c.loop-i.entries.items w.index.result.now c.requires.order (omega arith) (omega arith) c.index-runs-i.is c.loop-i.invariant some
      w.index.ensures (sym w.goes_on.ensures ∙ w.if-goes_on.false)
  | else-not-is_empty-via-else-not-is_empty w ↦
      let none : length c.loop-i.entries.items ≡ 0 = grind (arith, common_steps) in
      map_first c.args.runs.now (c.loop-i.i - 1) c.loop-i.i c.index-runs-i.result c.loop-i.entries.items c.requires.order (omega arith) (omega arith) c.index-runs-i.is c.loop-i.invariant none
]
