use Rattle.std.proofs.Common.{◌≡◌, ◌<◌, ◌≤◌, [], ◌∷◌, ◌++◌, length, length-append, ap, sym, subst, ◌∙◌, drop, arith}
use Rattle.std.proofs.lemmas.List.{get_or_default}
use Rattle.page_ranges.specs.MemoryTypes.{page_count}
use Rattle.page_ranges.specs.Runs.{AreRuns}
use Rattle.descriptor_table.specs.Leaves.{entry_count, leaf_at, runs_in, AreLeaves}
use Rattle.descriptor_table.specs.LeafRows.{excess_of}
use Rattle.descriptor_table.specs.Tables.{EndBy}
use Rattle.descriptor_table.proofs.LeafLists
use Rattle.descriptor_table.proofs.SplitLeaves.{excess_at, half_excess, half_leaves, halves, high_half, low_half, low_length, split_behind, split_first, split_length, split_put, split_runs}
use Rattle.descriptor_table.proofs.leaf_row.LeafRow.split.Goals as goal

pub overflow_sub-self-2 : goal.overflow_sub-self-2
overflow_sub-self-2 g c =
    let ls = c.self.inside.leaves.items in
    let i = c.args.at in
    let h : i < length ls = omega (arith, c.requires.bound, ap (λ r. length r.leaves) c.self.view_is) in
    let was = c.runs-runs.ensures ∙ c.index.ensures ∙ get_or_default ls i c.index.result.now [] h in
    omega (arith, ap length was, c.self.invariant.excess, excess_at ls i)

pub invariant_of-self : goal.invariant_of-self
invariant_of-self g c =
    let ls = c.self.inside.leaves.items in
    let i = c.args.at in
    let is = c.self.invariant in
    let view = c.self.view_is in
    let h : i < length ls = omega (arith, c.requires.bound, ap (λ r. length r.leaves) view) in
    let was = c.runs-runs.ensures ∙ c.index.ensures ∙ get_or_default ls i c.index.result.now [] h in
    let put = split_put ls i h c.insert_with_room.new.items.items c.runs-runs.result.now c.index_mut.result.now c.truncate.new.self c.fill.new.self was
    (c.index_mut.ensures.value ∙ get_or_default ls i c.index_mut.result.now [] h) c.truncate.ensures c.fill.ensures c.insert_with_room.ensures.items in
    let full : 31 ≤ length (leaf_at ls i) = omega (arith, c.requires.full, ap (λ r. length (leaf_at r.leaves i)) view) in
    let most = (LeafLists.leaf_at ls i [] is.are_leaves h).1 in
    let rest : c.self.inside.spare.items ≡ c.pop.new.self.items ++ c.in-Some.leaf ∷ [] = c.in-Some.ensures.items in
    let runs = ap runs_in put ∙ split_runs (low_half ls i h) (high_half ls i h) ls i h (halves ls i h) in
    let count = ap length put ∙ split_length (low_half ls i h) (high_half ls i h) ls i h in
    record {
      are_leaves = subst AreLeaves (sym put) (half_leaves ls i h full most is.are_leaves);
      runs = subst AreRuns (sym runs) is.runs;
      ends = subst (EndBy page_count) (sym runs) is.ends;
      entries = is.entries ∙ ap entry_count (sym runs);
      excess = omega (arith, is.excess, ap length was, ap excess_of put, half_excess ls i h full most);
      fits = omega (arith, is.fits, count, ap length rest, length-append c.pop.new.self.items (c.in-Some.leaf ∷ []), c.insert_with_room.ensures.capacity);
      spare_fit = omega (arith, is.spare_fit, count, ap length rest, length-append c.pop.new.self.items (c.in-Some.leaf ∷ []), c.pop.ensures.capacity);
      parts_fit = is.parts_fit;
    }

pub returns-clause-runs : goal.returns-clause-runs
returns-clause-runs g c =
    let ls = c.self.inside.leaves.items in
    let i = c.args.at in
    let view = c.self.view_is in
    let h : i < length ls = omega (arith, c.requires.bound, ap (λ r. length r.leaves) view) in
    let was = c.runs-runs.ensures ∙ c.index.ensures ∙ get_or_default ls i c.index.result.now [] h in
    let put = split_put ls i h c.insert_with_room.new.items.items c.runs-runs.result.now c.index_mut.result.now c.truncate.new.self c.fill.new.self was
    (c.index_mut.ensures.value ∙ get_or_default ls i c.index_mut.result.now [] h) c.truncate.ensures c.fill.ensures c.insert_with_room.ensures.items in
    ap (λ ms. runs_in (drop i ms)) put ∙ split_behind (low_half ls i h) (high_half ls i h) ls i h (halves ls i h) ∙ ap (λ r. runs_in (drop i r.leaves)) view

pub returns-clause-fits : goal.returns-clause-fits
returns-clause-fits g c =
    let ls = c.self.inside.leaves.items in
    let i = c.args.at in
    let view = c.self.view_is in
    let h : i < length ls = omega (arith, c.requires.bound, ap (λ r. length r.leaves) view) in
    let was = c.runs-runs.ensures ∙ c.index.ensures ∙ get_or_default ls i c.index.result.now [] h in
    let put = split_put ls i h c.insert_with_room.new.items.items c.runs-runs.result.now c.index_mut.result.now c.truncate.new.self c.fill.new.self was
    (c.index_mut.ensures.value ∙ get_or_default ls i c.index_mut.result.now [] h) c.truncate.ensures c.fill.ensures c.insert_with_room.ensures.items in
    let full : 31 ≤ length (leaf_at ls i) = omega (arith, c.requires.full, ap (λ r. length (leaf_at r.leaves i)) view) in
    let most = (LeafLists.leaf_at ls i [] c.self.invariant.are_leaves h).1 in
    omega (arith, ap (λ ms. length (leaf_at ms i)) put, ap length (split_first (low_half ls i h) (high_half ls i h) ls i h), low_length ls i h full most)

pub returns-clause-takes : goal.returns-clause-takes
returns-clause-takes g c =
    let ls = c.self.inside.leaves.items in
    let i = c.args.at in
    let view = c.self.view_is in
    let h : i < length ls = omega (arith, c.requires.bound, ap (λ r. length r.leaves) view) in
    let was = c.runs-runs.ensures ∙ c.index.ensures ∙ get_or_default ls i c.index.result.now [] h in
    let put = split_put ls i h c.insert_with_room.new.items.items c.runs-runs.result.now c.index_mut.result.now c.truncate.new.self c.fill.new.self was
    (c.index_mut.ensures.value ∙ get_or_default ls i c.index_mut.result.now [] h) c.truncate.ensures c.fill.ensures c.insert_with_room.ensures.items in
    let full : 31 ≤ length (leaf_at ls i) = omega (arith, c.requires.full, ap (λ r. length (leaf_at r.leaves i)) view) in
    let most = (LeafLists.leaf_at ls i [] c.self.invariant.are_leaves h).1 in
    let rest : c.self.inside.spare.items ≡ c.pop.new.self.items ++ c.in-Some.leaf ∷ [] = c.in-Some.ensures.items in
    omega (arith, full, ap excess_of put, half_excess ls i h full most, ap (λ r. excess_of r.leaves) view, ap (λ r. r.spare) view, ap length rest, length-append c.pop.new.self.items (c.in-Some.leaf ∷ []))
