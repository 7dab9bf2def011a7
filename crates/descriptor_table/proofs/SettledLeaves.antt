-- Two leaves whose runs at the border are joined, and that become one.
use Rattle.std.proofs.Common.{◌≡◌, ◌≢◌, ℕ, zero, suc, ◌+◌, ◌-◌, ◌*◌, ◌<◌, ◌≤◌, List, [], ◌∷◌, ◌++◌, Vec, length, length-append, take, drop, refl, sym, ap, ap₂, subst, ◌∙◌, append_assoc, append-nil, arith}
use Rattle.std.specs.List.{remove}
use Rattle.std.specs.Prelude.{vec_capacity}
use Rattle.std.proofs.Math.ListN.{set}
use Rattle.std.proofs.lemmas.List.{drop-set-lt, get_or-set_other, length-set, take-set}
use Rattle.page_ranges.specs.declared.ranges.Run.{Run}
use Rattle.page_ranges.specs.MemoryMap.{memory_map}
use Rattle.page_ranges.specs.MemoryTypes.{page_count}
use Rattle.page_ranges.specs.Runs.{pages_of, AreRuns, AreMaximalRuns}
use Rattle.page_ranges.proofs.MaximalRuns.{maximal_are_runs}
use Rattle.page_ranges.proofs.Members.{all_append, all_append_left, all_append_right}
use Rattle.page_ranges.proofs.RunLists.{runs-left}
use Rattle.descriptor_table.specs.LeafBorders.{AreApart}
use Rattle.descriptor_table.specs.LeafRows.{excess_at_border, excess_of, merged_at, runs_from, runs_up_to, AreFew, AreMaximalFrom, IsRow, JoinsBorder, KeepsPages}
use Rattle.descriptor_table.specs.Leaves.{leaf_at, runs_in, AreLeaves, IsLeaf}
use Rattle.descriptor_table.specs.Tables.{EndBy}
use Rattle.descriptor_table.proofs.ChangedLeaves.{parts_at, same_pages}
use Rattle.descriptor_table.proofs.LeafApart.{apart_first, maximal_behind}
use Rattle.descriptor_table.proofs.LeafChanged.{all_is, front_is, runs_after, rest_is}
use Rattle.descriptor_table.proofs.LeafLists
use Rattle.descriptor_table.proofs.LeafSplices.{set_leaves}
use Rattle.descriptor_table.proofs.SplitLeaves.{excess_set}

-- ---- a leaf is merged into the one before it: their indices, and the next one

record IsMerged (ks qs : List (List Run)) (i at next : ℕ) : Type 0 where
  front : runs_in (take at qs) ≡ runs_in (take next ks)
  rest : drop at qs ≡ drop next ks
  count : length qs + 1 ≡ length ks
  excess : excess_of qs + (length (leaf_at ks i) - 16) + (length (leaf_at ks at) - 16) ≡ excess_of ks + (length (leaf_at ks i ++ leaf_at ks at) - 16)
  here : leaf_at qs i ≡ leaf_at ks i ++ leaf_at ks at

is_merged : (ks : List (List Run)) (i : ℕ) → suc i < length ks → IsMerged ks (set (remove ks (suc i)) i (leaf_at ks i ++ leaf_at ks (suc i))) i (suc i) (suc (suc i))
is_merged [] i h = absurd (omega arith)
is_merged (b ∷ []) i h = absurd (omega arith)
is_merged (b ∷ n ∷ ks) zero h = record { front = append_assoc b n []; rest = refl; count = omega arith; excess = omega arith; here = refl }
is_merged (b ∷ n ∷ ks) (suc i) h =
    let m = is_merged (n ∷ ks) i (omega arith) in
    record { front = ap (λ rs. b ++ rs) m.front; rest = m.rest; count = omega (arith, m.count); excess = omega (arith, m.excess); here = m.here }

merged_leaf : (ks qs : List (List Run)) (at : ℕ) → (0 < at) × (at < length ks) → qs ≡ merged_at at ks → IsMerged ks qs (at - 1) at (at + 1)
merged_leaf ks qs at bound put =
    let back : suc (at - 1) ≡ at = omega (arith, bound.0) in
    let next : suc at ≡ at + 1 = omega arith in
    subst (IsMerged ks qs (at - 1) at) next (subst (λ ms. IsMerged ks ms (at - 1) at (suc at)) (sym put) (rw back at (is_merged ks (at - 1) (omega (arith, bound.1)))))

-- ---- a border is settled: the leaves up to a next one are done

pub record IsSettled (at next : ℕ) (old new : List (List Run)) : Type 0 where
  pub passed : AreMaximalRuns (runs_up_to next new)
  pub order : AreMaximalFrom at old → AreMaximalRuns (runs_in new)
  pub pages : KeepsPages (at + 1) old next new
  pub ends : (n : ℕ) → EndBy n (runs_up_to (at + 1) old) → EndBy n (runs_up_to next new)
  pub rest : drop next new ≡ drop (at + 1) old
  pub count : length new + (at + 1) ≡ length old + next
  pub less : excess_of new ≤ excess_of old + 15 * (at + 1 - next)

settled_runs : {at next : ℕ} {ls ks : List (List Run)} → IsSettled at next ls ks → AreRuns (runs_in ls) → EndBy page_count (runs_in ls)
    → AreRuns (runs_in ks) × EndBy page_count (runs_in ks)
settled_runs {at} {next} {ls} {ks} s runs ends =
    let P : Run → Type 0 = λ r. r.range.first + r.range.pages ≤ page_count in
    let old = runs_up_to (at + 1) ls in
    let front = runs_up_to next ks in
    let back = runs_from (at + 1) ls in
    let parts = sym (parts_at ks next ∙ ap (λ ms. front ++ runs_in ms) s.rest) in
    let end = subst (EndBy page_count) (parts_at ls (at + 1)) ends in (
      subst AreRuns parts (runs_after old front back (subst AreRuns (parts_at ls (at + 1)) runs) (maximal_are_runs front s.passed) s.ends),
      subst (EndBy page_count) parts (all_append P front back (s.ends page_count (all_append_left P old back end)) (all_append_right P old back end)),
    )

-- the row with these leaves
pub settled_row : {A : Type 0} {leaves spare new kept : Vec (List Run) A} {count beyond more at next : ℕ} {parts : Vec Run A} → IsRow leaves spare count beyond parts
    → IsSettled at next leaves.items new.items → AreLeaves new.items → more ≡ excess_of new.items → length new.items + length kept.items ≤ vec_capacity new
    → length new.items + length kept.items ≤ vec_capacity kept → IsRow new kept count more parts
settled_row {leaves = leaves} {new = new} {at = at} {next = next} was s all excess fits spare_fit =
    let sound = settled_runs s was.runs was.ends in
    record {
      are_leaves = all;
      runs = sound.0;
      ends = sound.1;
      entries = was.entries ∙ sym (ap (λ m. length (memory_map m)) (same_pages leaves.items new.items (at + 1) next s.pages s.rest));
      excess = excess;
      fits = fits;
      spare_fit = spare_fit;
      parts_fit = was.parts_fit;
    }

-- the runs at the border are apart
pub apart_settled : (ls : List (List Run)) (at : ℕ) → at < length ls → AreLeaves ls → AreRuns (runs_in ls) → AreMaximalRuns (runs_up_to at ls) → AreMaximalRuns (leaf_at ls at)
    → AreApart (runs_up_to at ls) (runs_from at ls) → IsSettled at (at + 1) ls ls
apart_settled ls at h all runs below leaf apart =
    let front = runs_up_to at ls in
    let l = leaf_at ls at in
    let rest = runs_from (at + 1) ls in
    let whole = all_is ls at h ∙ sym (append_assoc front l rest) in
    let first = apart_first front l rest (LeafLists.leaf_at ls at [] all h).0 (subst (AreApart front) (rest_is ls at h) apart) in
    let passed = subst AreMaximalRuns (sym (front_is ls at h)) (maximal_behind front l below leaf (runs-left (front ++ l) rest (subst AreRuns whole runs)) first) in
    let parts = subst AreRuns (parts_at ls at) runs in
    let order = λ (m : AreMaximalFrom at ls). subst AreMaximalRuns (sym (parts_at ls at)) (maximal_behind front (runs_from at ls) below m parts apart) in
    record { passed = passed; order = order; pages = refl; ends = λ n e. e; rest = refl; count = refl; less = omega arith }

-- the runs at the border are joined
module _ (ls ks : List (List Run)) (at : ℕ) (bound : (0 < at) × (at < length ls)) (all : AreLeaves ls) (j : JoinsBorder at ls ks) where
  abbrev low : List Run
  low = leaf_at ks (at - 1)

  abbrev high : List Run
  high = leaf_at ks at

  -- the leaves once the lower one has changed
  abbrev half : List (List Run)
  half = set ls (at - 1) low

  joined_length : length ks ≡ length ls
  joined_length = ap length j.two ∙ length-set half at high ∙ length-set ls (at - 1) low

  joined_rest : drop (at + 1) ks ≡ drop (at + 1) ls
  joined_rest = ap (drop (at + 1)) j.two ∙ drop-set-lt (at + 1) half at high (omega arith) ∙ drop-set-lt (at + 1) ls (at - 1) low (omega arith)

  pub joined_excess : excess_of ks + excess_at_border at ls ≡ excess_of ls + excess_at_border at ks
  joined_excess =
      let apart : at ≢ at - 1 = omega (arith, bound.0) in
      let other = get_or-set_other ls (at - 1) at low [] apart in
      omega (arith, ap excess_of j.two, excess_set ls (at - 1) low (omega (arith, bound.1)), excess_set half at high (omega (arith, bound.1, length-set ls (at - 1) low)), ap length other)

  sizes : (0 < length low) × (length low ≤ 32) × (length high ≤ 32)
  sizes =
      let one = LeafLists.leaf_at ls (at - 1) [] all (omega (arith, bound.1)) in
      let two = LeafLists.leaf_at ls at [] all bound.1 in
      (omega (arith, j.count, one.0), omega (arith, j.count, one.1), omega (arith, j.fewer, two.1))

  half_leaves : AreLeaves half
  half_leaves = set_leaves ls (at - 1) low all (sizes.0, sizes.1)

  pub joined_leaves : 0 < length high → AreLeaves ks
  joined_leaves some = subst AreLeaves (sym j.two) (set_leaves half at high half_leaves (some, sizes.2))

  pub joined_settled : AreRuns (runs_in ls) → AreMaximalRuns (leaf_at ls at) → IsSettled at (at + 1) ls ks
  joined_settled runs leaf =
      let old = runs_up_to (at + 1) ls in
      let back = runs_from (at + 1) ls in
      let parts = subst AreRuns (parts_at ls (at + 1)) runs in
      let in_two = parts_at ks (at + 1) ∙ ap (λ ms. runs_up_to (at + 1) ks ++ runs_in ms) joined_rest in
      let none = j.order [] (subst AreMaximalRuns (sym (append-nil (leaf_at ls at))) leaf) (subst AreRuns (sym (append-nil old)) (runs-left old back parts)) in
      record {
        passed = subst AreMaximalRuns (append-nil (runs_up_to (at + 1) ks)) none;
        order = λ m. subst AreMaximalRuns (sym in_two) (j.order back (subst AreMaximalRuns (rest_is ls at bound.1) m) parts);
        pages = j.pages;
        ends = j.ends;
        rest = joined_rest;
        count = omega (arith, joined_length);
        less = omega (arith, joined_excess, j.count, j.fewer);
      }

  -- the leaf is then merged into the one before it
  module _ (few : AreFew low high) where
    pub merged_fits : length low + length high ≤ 32
    merged_fits = omega (arith, few, sizes.1)

    module _ (qs : List (List Run)) (put : qs ≡ merged_at at ks) where
      it : IsMerged ks qs (at - 1) at (at + 1)
      it = merged_leaf ks qs at (bound.0, omega (arith, bound.1, joined_length)) put

      one_leaves : AreLeaves qs
      one_leaves =
          let same : remove ks at ≡ remove half at = ap (λ ms. remove ms at) j.two ∙ ap₂ ◌++◌ (take-set half at high) (drop-set-lt (suc at) half at high (omega arith)) in
          let gone = all_append IsLeaf (take at half) (drop (suc at) half) (LeafLists.leaves_taken half at half_leaves) (LeafLists.leaves_dropped half (suc at) half_leaves) in
          let size = length-append low high in
          let leaf : IsLeaf (low ++ high) = (omega (arith, sizes.0, size), omega (arith, merged_fits, size)) in
          subst AreLeaves (sym put) (set_leaves (remove ks at) (at - 1) (low ++ high) (subst AreLeaves (sym same) gone) leaf)

      one_settled : AreRuns (runs_in ls) → AreMaximalRuns (leaf_at ls at) → IsSettled at at ls qs
      one_settled runs leaf =
          let joined = joined_settled runs leaf in
          let same = parts_at qs at ∙ ap₂ (λ rs ms. rs ++ runs_in ms) it.front it.rest ∙ sym (parts_at ks (at + 1)) in
          record {
            passed = subst AreMaximalRuns (sym it.front) joined.passed;
            order = λ m. subst AreMaximalRuns (sym same) (joined.order m);
            pages = ap pages_of it.front ∙ j.pages;
            ends = λ n e. subst (EndBy n) (sym it.front) (j.ends n e);
            rest = it.rest ∙ joined_rest;
            count = omega (arith, it.count, joined_length);
            less = omega (arith, it.excess, joined_excess, j.count, few, sizes.1, length-append low high);
          }

      pub merged_settled : AreRuns (runs_in ls) → AreMaximalRuns (leaf_at ls at)
          → IsSettled at at ls qs × AreLeaves qs × (excess_of qs + excess_at_border at ls ≡ excess_of ls + (length (leaf_at qs (at - 1)) - 16))
      merged_settled runs leaf = (one_settled runs leaf, one_leaves, omega (arith, it.excess, joined_excess, ap length it.here))
