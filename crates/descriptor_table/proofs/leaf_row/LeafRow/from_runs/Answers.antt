use Rattle.std.proofs.Common.{[], ◌∷◌, ◌++◌, length, ap, sym, subst, ◌∙◌, arith}
use Rattle.std.proofs.lemmas.Bool.{eqb-false, eqb-true}
use Rattle.page_ranges.specs.MemoryTypes.{page_count}
use Rattle.page_ranges.specs.Runs.{AreRuns}
use Rattle.descriptor_table.specs.Leaves.{entry_count, runs_in}
use Rattle.descriptor_table.specs.Tables.{EndBy}
use Rattle.descriptor_table.proofs.LeafRows.{all_filled, filled_excess, filled_leaves, filled_runs}
use Rattle.descriptor_table.proofs.leaf_row.LeafRow.from_runs.Goals as goal

pub loop-rest-preserved : goal.loop-rest-preserved
loop-rest-preserved g c =
    let ls = c.loop-rest.leaves.items in
    let new = c.push_reserved.new.self.items in
    let leaf = c.in_ok-from_slice.field-0 in
    let rest = c.loop-rest.rest.now in
    let count = c.min-count.result in
    let put = c.push_reserved.ensures.items ∙ ap (λ ms. ms ++ leaf ∷ []) c.reserve.ensures.items in
    let was = c.loop-rest.invariant in
    let some = eqb-false (length rest) 0 (sym c.is_empty.ensures ∙ c.loop-rest-test.true) in
    record {
      runs = filled_runs ls new leaf rest count put c.in_ok-from_slice.ensures c.args.runs.now _ (omega arith) was.runs;
      leaves = filled_leaves ls new leaf rest count put c.in_ok-from_slice.ensures (omega (arith, some)) (omega arith) (omega arith) was.leaves;
      excess = filled_excess ls new leaf rest count put c.in_ok-from_slice.ensures (omega arith) (omega arith) was.excess;
    }

pub invariant_of-result : goal.invariant_of-result
invariant_of-result g c =
    let ls = c.loop-rest.leaves.items in
    let was = c.loop-rest.invariant in
    let left = eqb-true (length c.loop-rest.rest.now) 0 (sym c.is_empty.ensures ∙ c.loop-rest-test.false) in
    let same = all_filled (runs_in ls) c.loop-rest.rest.now c.args.runs.now left was.runs in
    let none = ap length c.in_ok-spare.ensures.items in
    record {
      are_leaves = was.leaves;
      runs = subst AreRuns (sym same) c.requires.runs;
      ends = subst (EndBy page_count) (sym same) c.requires.ends;
      entries = c.count_entries-entries.ensures.count ∙ ap entry_count (sym same);
      excess = sym was.excess;
      fits = omega (arith, none);
      spare_fit = omega (arith, none, c.in_ok-spare.ensures.capacity, c.len.ensures);
      parts_fit = omega (arith, c.in_ok-parts.ensures.capacity);
    }
