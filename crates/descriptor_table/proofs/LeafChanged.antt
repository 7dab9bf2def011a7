-- A leaf of a row whose pages get a type and an owner.
use Rattle.std.specs.Prelude.{IsTrue}
use Rattle.std.proofs.Common.{◌≡◌, ℕ, Bool, true, false, zero, suc, ◌+◌, ◌-◌, ◌<◌, ◌≤◌, List, [], ◌∷◌, ◌++◌, length, length-append, take, drop, refl, sym, ap, subst, ◌∙◌, append-nil, append_assoc, take-append-drop, arith}
use Rattle.std.proofs.Math.ListN.{set}
use Rattle.std.proofs.lemmas.List.{drop-set-lt, get_or-set_same, length-map, length-set, take-set}
use Rattle.page_ranges.specs.declared.ranges.Owner.{Owner}
use Rattle.page_ranges.specs.declared.ranges.PageRange.{PageRange}
use Rattle.page_ranges.specs.declared.ranges.Run.{Run}
use Rattle.page_ranges.specs.Memory.{row, retyped}
use Rattle.page_ranges.specs.MemoryTypes.{page_count}
use Rattle.page_ranges.specs.Runs.{page_in, pages_of, AreRuns, AreMaximalRuns}
use Rattle.page_ranges.proofs.MaximalRuns.{maximal_are_runs}
use Rattle.page_ranges.proofs.Members.{all_append, all_append_left, all_append_right}
use Rattle.page_ranges.proofs.Retyped.{changed}
use Rattle.page_ranges.proofs.Rows.{length-row}
use Rattle.page_ranges.proofs.RunLists.{runs-append, runs-left, runs-right, EndBy-higher}
use Rattle.page_ranges.proofs.RunMaps.{runs_join}
use Rattle.descriptor_table.specs.declared.retyping.Retyping.{Retyping}
use Rattle.descriptor_table.specs.LeafBorders.{HasEndsOf}
use Rattle.descriptor_table.specs.LeafChanges.{Retypes}
use Rattle.descriptor_table.specs.LeafRows.{entries_in_three, excess_of}
use Rattle.descriptor_table.specs.Leaves.{entry_count, first_page, leaf_at, runs_in, AreLeaves}
use Rattle.descriptor_table.specs.Reserves.{cut_count}
use Rattle.descriptor_table.specs.Tables.{EndBy}
use Rattle.descriptor_table.proofs.CutCounts.{two_cuts}
use Rattle.descriptor_table.proofs.Ends.{last_end, same_first, same_last}
use Rattle.descriptor_table.proofs.LeafEnds.{inside_count}
use Rattle.descriptor_table.proofs.LeafLists
use Rattle.descriptor_table.proofs.LeafLists.{begin_by_first, end_by_next, runs_in-append}
use Rattle.descriptor_table.proofs.LeafSplices.{set_leaves, set_runs}
use Rattle.descriptor_table.proofs.Meetings.{count-append, last_run, meet-append, one_if}
use Rattle.descriptor_table.proofs.SplitLeaves.{excess_set}

last_by : (n : ℕ) (x : Run) (xs : List Run) → EndBy n (x ∷ xs) → (last_run x xs).range.first + (last_run x xs).range.pages ≤ n
last_by n x [] e = e.0
last_by n x (y ∷ xs) e = last_by n y xs e.1

-- ---- the same pages, retyped

module _ (range : PageRange) (t : ℕ) (o : Owner) where
  some_left : (rs ss : List Run) → AreRuns rs → 0 < length rs → pages_of ss ≡ retyped range t o (pages_of rs) → 0 < length ss
  some_left [] ss a h e = absurd (omega arith)
  some_left (x ∷ xs) [] a h e =
      let first = row x.range.pages (page_in x.range.first x) in
      absurd (omega (arith, a.0, ap length e, length-map (pages_of (x ∷ xs)) (changed range t o), length-append first (pages_of xs), length-row x.range.pages (page_in x.range.first x)))
  some_left (x ∷ xs) (y ∷ ys) a h e = omega arith

  same_begin : (rs ss : List Run) → AreRuns rs → AreRuns ss → pages_of ss ≡ retyped range t o (pages_of rs) → 0 < length rs → 0 < length ss → first_page ss ≡ first_page rs
  same_begin [] ss a b e h k = absurd (omega arith)
  same_begin (x ∷ xs) [] a b e h k = absurd (omega arith)
  same_begin (x ∷ xs) (y ∷ ys) a b e h k = same_first range t o x y xs ys a b e

  same_end : (rs ss : List Run) (n : ℕ) → AreRuns rs → AreRuns ss → pages_of ss ≡ retyped range t o (pages_of rs) → 0 < length rs → EndBy n rs → EndBy n ss
  same_end rs [] n a b e h k = tt
  same_end [] (y ∷ ys) n a b e h k = absurd (omega arith)
  same_end (x ∷ xs) (y ∷ ys) n a b e h k =
      EndBy-higher ((last_run y ys).range.first + (last_run y ys).range.pages) n (y ∷ ys) (omega (arith, same_last range t o x y xs ys a b e, last_by n x xs k)) (last_end y ys b)

-- ---- runs between others give way to runs that begin and end with them

first_page-append : (l rs : List Run) → 0 < length l → first_page (l ++ rs) ≡ first_page l
first_page-append [] rs h = absurd (omega arith)
first_page-append (r ∷ l) rs h = refl

pub runs_after : (rs ss after : List Run) → AreRuns (rs ++ after) → AreRuns ss → ((n : ℕ) → EndBy n rs → EndBy n ss) → AreRuns (ss ++ after)
runs_after rs ss [] a b e = subst AreRuns (sym (append-nil ss)) b
runs_after rs ss (q ∷ after) a b e =
    let rest = runs-right rs (q ∷ after) a in
    runs-append q.range.first ss (q ∷ after) b (e q.range.first (end_by_next rs (q ∷ after) a (omega arith))) rest (begin_by_first (q ∷ after) rest)

runs_between : (before rs ss after : List Run) → AreRuns (before ++ (rs ++ after)) → AreRuns ss → 0 < length rs → 0 < length ss → first_page ss ≡ first_page rs → ((n : ℕ) → EndBy n rs → EndBy n ss) → AreRuns (before ++ (ss ++ after))
runs_between before rs ss after a b some left same e =
    let rest = runs_after rs ss after (runs-right before (rs ++ after) a) b e in
    let first = first_page-append rs after some in
    let begin = first_page-append ss after left in
    runs-append (first_page (ss ++ after)) before (ss ++ after) (runs-left before (rs ++ after) a)
    (EndBy-higher (first_page (rs ++ after)) (first_page (ss ++ after)) before (omega (arith, first, begin, same)) (end_by_next before (rs ++ after) a (omega (arith, some, length-append rs after)))) rest (begin_by_first (ss ++ after) rest)

-- ---- entries of three parts

-- Entries that go on from the first part in the second, and from the second in the third, count once.
pub counts_of_three : (before l after : List Run) (all k m : ℕ) → AreRuns (before ++ (l ++ after)) → 0 < length l → all ≡ entry_count (before ++ (l ++ after)) → all + k ≡ entry_count before + entry_count (l ++ after) → all + m ≡ entry_count (before ++ l) + entry_count after → all + k + m ≡ entry_count before + entry_count l + entry_count after
counts_of_three before [] after all k m a h e f g = absurd (omega arith)
counts_of_three before (y ∷ l) after all k m a h e f g =
    let rest = runs-right before ((y ∷ l) ++ after) a in
    let front = runs-left before ((y ∷ l) ++ after) a in
    omega (
      arith,
      e,
      f,
      g,
      count-append before ((y ∷ l) ++ after) front rest,
      count-append before (y ∷ l) front (runs-left (y ∷ l) after rest),
      ap one_if (meet-append runs_join before y l after),
    )

-- ---- one leaf that changes

rest_here : (ls : List (List Run)) (i : ℕ) → i < length ls → runs_in (drop i ls) ≡ leaf_at ls i ++ runs_in (drop (suc i) ls)
rest_here [] i h = absurd (omega arith)
rest_here (l ∷ ls) zero h = refl
rest_here (l ∷ ls) (suc i) h = rest_here ls i (omega arith)

front_here : (ls : List (List Run)) (i : ℕ) → i < length ls → runs_in (take (suc i) ls) ≡ runs_in (take i ls) ++ leaf_at ls i
front_here [] i h = absurd (omega arith)
front_here (l ∷ ls) zero h = append-nil l
front_here (l ∷ ls) (suc i) h = ap (λ rs. l ++ rs) (front_here ls i (omega arith)) ∙ sym (append_assoc l (runs_in (take i ls)) (leaf_at ls i))

pub rest_is : (ls : List (List Run)) (i : ℕ) → i < length ls → runs_in (drop i ls) ≡ leaf_at ls i ++ runs_in (drop (i + 1) ls)
rest_is ls i h =
    let next : suc i ≡ i + 1 = omega arith in
    rest_here ls i h ∙ ap (λ k. leaf_at ls i ++ runs_in (drop k ls)) next

pub front_is : (ls : List (List Run)) (i : ℕ) → i < length ls → runs_in (take (i + 1) ls) ≡ runs_in (take i ls) ++ leaf_at ls i
front_is ls i h =
    let next : i + 1 ≡ suc i = omega arith in
    ap (λ k. runs_in (take k ls)) next ∙ front_here ls i h

pub all_is : (ls : List (List Run)) (i : ℕ) → i < length ls → runs_in ls ≡ runs_in (take i ls) ++ (leaf_at ls i ++ runs_in (drop (i + 1) ls))
all_is ls i h = ap runs_in (sym (take-append-drop i ls)) ∙ runs_in-append (take i ls) (drop i ls) ∙ ap (λ rs. runs_in (take i ls) ++ rs) (rest_is ls i h)

-- the runs of a leaf, which are old, give way to others: its pages, retyped
pub record IsRetyped (r : Retyping) (ls : List (List Run)) (i : ℕ) (old new : List Run) : Type 0 where
  pub bound : i < length ls
  pub is : old ≡ leaf_at ls i
  pub leaves : AreLeaves ls
  pub runs : AreRuns (runs_in ls)
  pub ends : EndBy page_count (runs_in ls)
  pub fits : length old ≤ 30
  pub pages : Retypes r old new
  pub order : AreMaximalRuns new
  pub more : length new ≤ length old + cut_count r.range old

module _ {r : Retyping} {ls : List (List Run)} {i : ℕ} {old new : List Run} (w : IsRetyped r ls i old new) where
  abbrev front : List Run
  front = runs_in (take i ls)

  abbrev back : List Run
  back = runs_in (drop (i + 1) ls)

  all_old : runs_in ls ≡ front ++ (old ++ back)
  all_old = all_is ls i w.bound ∙ ap (λ l. front ++ (l ++ back)) (sym w.is)

  all_new : runs_in (set ls i new) ≡ front ++ (new ++ back)
  all_new = let next : suc i ≡ i + 1 = omega arith in set_runs ls i new w.bound ∙ ap (λ k. front ++ (new ++ runs_in (drop k ls))) next

  in_old : AreRuns (front ++ (old ++ back))
  in_old = subst AreRuns all_old w.runs

  old_runs : AreRuns old
  old_runs = runs-left old back (runs-right front (old ++ back) in_old)

  new_runs : AreRuns new
  new_runs = maximal_are_runs new w.order

  some : 0 < length old
  some = omega (arith, ap length w.is, (LeafLists.leaf_at ls i [] w.leaves w.bound).0)

  left : 0 < length new
  left = some_left r.range r.mtype r.owner old new old_runs some w.pages

  pub changed_bound : i < length (set ls i new)
  changed_bound = omega (arith, w.bound, length-set ls i new)

  pub changed_leaves : AreLeaves (set ls i new)
  changed_leaves = set_leaves ls i new w.leaves (left, omega (arith, w.fits, w.more, two_cuts r.range old old_runs))

  ends : (n : ℕ) → EndBy n old → EndBy n new
  ends n e = same_end r.range r.mtype r.owner old new n old_runs new_runs w.pages some e

  pub changed_runs : AreRuns (runs_in (set ls i new))
  changed_runs =
      subst AreRuns (sym all_new) (runs_between front old new back in_old new_runs some left (same_begin r.range r.mtype r.owner old new old_runs new_runs w.pages some left) ends)

  pub changed_ends : EndBy page_count (runs_in (set ls i new))
  changed_ends =
      let P : Run → Type 0 = λ r. r.range.first + r.range.pages ≤ page_count in
      let parts = subst (EndBy page_count) all_old w.ends in
      let rest = all_append_right P front (old ++ back) parts in
      let after = all_append P new back (ends page_count (all_append_left P old back rest)) (all_append_right P old back rest) in
      subst (EndBy page_count) (sym all_new) (all_append P front (new ++ back) (all_append_left P front (old ++ back) parts) after)

  pub changed_excess : excess_of (set ls i new) + (length old - 16) ≡ excess_of ls + (length new - 16)
  changed_excess = omega (arith, ap length w.is, excess_set ls i new w.bound)

  -- How many entries there are by those of the leaf, and by how many go on over its borders, before and after. These are asked
  -- for only if the leaf's first or last run may change.
  pub changed_entries : (asked : Bool) (k n less more : ℕ) → entry_count new + less ≡ entry_count old + more
      → (asked ≡ false → HasEndsOf old new) → (asked ≡ false → k ≡ 0) → (asked ≡ false → n ≡ 0)
      → (IsTrue asked → entry_count (runs_in ls) + k ≡ entries_in_three i ls) → (IsTrue asked → entry_count (runs_in (set ls i new)) + n ≡ entries_in_three i (set ls i new))
      → entry_count (runs_in ls) + k + more ≡ entry_count (runs_in (set ls i new)) + n + less
  changed_entries true k n less more e same a b c d =
      let first = take-set ls i new in
      let last : drop (i + 1) (set ls i new) ≡ drop (i + 1) ls = drop-set-lt (i + 1) ls i new (omega arith) in
      let here = get_or-set_same ls i new [] w.bound in
      omega (arith, e, ap entry_count w.is, c refl, d refl, ap (λ ms. entry_count (runs_in ms)) first, ap entry_count here, ap (λ ms. entry_count (runs_in ms)) last)
  changed_entries false k n less more e same a b c d =
      let inside = inside_count front old new back in_old (subst AreRuns all_new changed_runs) some left (same refl) in
      omega (arith, e, a refl, b refl, inside, ap entry_count all_old, ap entry_count all_new)
