-- Leaves whose pages get a type and an owner one after the other.
use Rattle.std.proofs.Common.{◌≡◌, ℕ, zero, suc, ◌+◌, ◌-◌, ◌<◌, ◌≤◌, List, [], ◌∷◌, ◌++◌, length, length-append, take, drop, refl, sym, ap, ap₂, subst, ◌∙◌, append_assoc, take-append-drop, arith}
use Rattle.std.specs.List.{AllByRecursion, AllWithin}
use Rattle.std.proofs.Math.ListN.{set}
use Rattle.std.proofs.lemmas.List.{drop-set-lt, drop_all, length-set, take-set}
use Rattle.page_ranges.specs.declared.ranges.Owner.{Owner}
use Rattle.page_ranges.specs.declared.ranges.PageRange.{PageRange}
use Rattle.page_ranges.specs.declared.ranges.Run.{Run}
use Rattle.page_ranges.specs.Memory.{Page, retyped}
use Rattle.page_ranges.specs.Runs.{pages_of, AreRuns, AreMaximalRuns}
use Rattle.page_ranges.proofs.Members.{all_implied}
use Rattle.page_ranges.proofs.Retyped.{retyped-append}
use Rattle.page_ranges.proofs.RunLists.{EndBy-higher, pages_of-append, retyped-all_above, retyped-all_below, runs-right}
use Rattle.descriptor_table.specs.Leaves.{first_page, leaf_at, runs_in, AreLeaves}
use Rattle.descriptor_table.specs.Reserves.{cut_count}
use Rattle.descriptor_table.specs.Tables.{EndBy}
use Rattle.descriptor_table.proofs.CutCounts.{cuts-append, two_cuts}
use Rattle.descriptor_table.proofs.LeafChanged.{front_is, rest_is}
use Rattle.descriptor_table.proofs.LeafLists
use Rattle.descriptor_table.proofs.LeafLists.{begin_by_first, end_by_next, runs_in-append}
use Rattle.descriptor_table.proofs.Meetings.{maximal-left, maximal-right}

pub parts_at : (ls : List (List Run)) (n : ℕ) → runs_in ls ≡ runs_in (take n ls) ++ runs_in (drop n ls)
parts_at ls n = ap runs_in (sym (take-append-drop n ls)) ∙ runs_in-append (take n ls) (drop n ls)

pub leaf_maximal : (ls : List (List Run)) (at : ℕ) → AreMaximalRuns (runs_in (drop at ls)) → AreMaximalRuns (leaf_at ls at)
leaf_maximal [] at m = tt
leaf_maximal (l ∷ ls) zero m = maximal-left l (runs_in ls) m
leaf_maximal (l ∷ ls) (suc at) m = leaf_maximal ls at m

-- ---- leaves from an index on

first_of : (l : List Run) (rs : List Run) → 0 < length l → first_page (l ++ rs) ≡ first_page l
first_of [] rs h = absurd (omega arith)
first_of (r ∷ l) rs h = refl

pub none_left : (ls : List (List Run)) (at page : ℕ) → length ls ≤ at → AllByRecursion (λ r. page ≤ r.range.first) (runs_in (drop at ls))
none_left ls at page h = subst (λ ms. AllByRecursion (λ r. page ≤ r.range.first) (runs_in ms)) (sym (drop_all at ls h)) tt

module _ (ls : List (List Run)) (at page : ℕ) (h : at < length ls) (all : AreLeaves ls) (runs : AreRuns (runs_in ls)) where
  leaf_some : 0 < length (leaf_at ls at)
  leaf_some = (LeafLists.leaf_at ls at [] all h).0

  rest_runs : AreRuns (runs_in (drop at ls))
  rest_runs = runs-right (runs_in (take at ls)) (runs_in (drop at ls)) (subst AreRuns (parts_at ls at) runs)

  rest_first : first_page (runs_in (drop at ls)) ≡ first_page (leaf_at ls at)
  rest_first = ap first_page (rest_is ls at h) ∙ first_of (leaf_at ls at) (runs_in (drop (at + 1) ls)) leaf_some

  pub begin_above : page ≤ first_page (leaf_at ls at) → AllByRecursion (λ r. page ≤ r.range.first) (runs_in (drop at ls))
  begin_above low =
      all_implied (λ r. first_page (runs_in (drop at ls)) ≤ r.range.first) (λ r. page ≤ r.range.first) (λ r e. omega (arith, e, rest_first, low)) (runs_in (drop at ls)) (begin_by_first (runs_in (drop at ls)) rest_runs)

  pub end_below : first_page (leaf_at ls at) ≤ page → EndBy page (runs_in (take at ls))
  end_below low =
      let some : 0 < length (runs_in (drop at ls)) = omega (arith, ap length (rest_is ls at h), length-append (leaf_at ls at) (runs_in (drop (at + 1) ls)), leaf_some) in
      EndBy-higher (first_page (runs_in (drop at ls))) page (runs_in (take at ls)) (omega (arith, rest_first, low)) (end_by_next (runs_in (take at ls)) (runs_in (drop at ls)) (subst AreRuns (parts_at ls at) runs) some)

-- the leaves before the last of those that begin by a page end by it
pub first_leaf : (ls : List (List Run)) (count n page : ℕ) → n ≡ count - 1 → count ≤ length ls → AllWithin (λ l. first_page l ≤ page) ls 0 count → AreLeaves ls → AreRuns (runs_in ls) → EndBy page (runs_in (take n ls))
first_leaf ls zero n page e h by all runs = let none : n ≡ 0 = omega arith in subst (λ k. EndBy page (runs_in (take k ls))) (sym none) tt
first_leaf ls (suc count) n page e h by all runs =
    let last : n < suc count = omega arith in
    end_below ls n page (omega (arith, last, h)) all runs (by n [] (omega arith) last)

-- ---- the pages, up to an index as they become, and from it on as they were

module _ (range : PageRange) (t : ℕ) (o : Owner) where
  abbrev pub so_far : List (List Run) → ℕ → List Page
  so_far ls at = pages_of (runs_in (take at ls)) ++ retyped range t o (pages_of (runs_in (drop at ls)))

  pub so_far_none : (ls : List (List Run)) (at : ℕ) → EndBy range.first (runs_in (take at ls)) → so_far ls at ≡ retyped range t o (pages_of (runs_in ls))
  so_far_none ls at e =
      let front = runs_in (take at ls) in
      let back = runs_in (drop at ls) in
      ap (λ m. m ++ retyped range t o (pages_of back)) (sym (retyped-all_below range t o front e)) ∙ sym (retyped-append range t o (pages_of front) (pages_of back)) ∙ ap (retyped range t o) (sym (ap pages_of (parts_at ls at) ∙ pages_of-append front back))

  pub so_far_all : (ls : List (List Run)) (at : ℕ) → AllByRecursion (λ r. range.first + range.pages ≤ r.range.first) (runs_in (drop at ls)) → so_far ls at ≡ pages_of (runs_in ls)
  so_far_all ls at a =
      let front = runs_in (take at ls) in
      let back = runs_in (drop at ls) in
      ap (λ m. pages_of front ++ m) (retyped-all_above range t o back a) ∙ sym (ap pages_of (parts_at ls at) ∙ pages_of-append front back)

pub few_cuts : (range : PageRange) (ls : List (List Run)) (at : ℕ) → AreRuns (runs_in ls) → cut_count range (runs_in (drop at ls)) ≤ 2
few_cuts range ls at a = two_cuts range (runs_in (drop at ls)) (runs-right (runs_in (take at ls)) (runs_in (drop at ls)) (subst AreRuns (parts_at ls at) a))

-- the pages of leaves whose first ones are replaced by leaves of the same pages
pub same_pages : (ls qs : List (List Run)) (n k : ℕ) → pages_of (runs_in (take k qs)) ≡ pages_of (runs_in (take n ls)) → drop k qs ≡ drop n ls → pages_of (runs_in qs) ≡ pages_of (runs_in ls)
same_pages ls qs n k e f =
    ap pages_of (parts_at qs k) ∙ pages_of-append (runs_in (take k qs)) (runs_in (drop k qs)) ∙ ap₂ (λ m ms. m ++ pages_of (runs_in ms)) e f
    ∙ sym (ap pages_of (parts_at ls n) ∙ pages_of-append (runs_in (take n ls)) (runs_in (drop n ls)))

-- ---- one leaf: room is made in `ms`, it is changed in `ns`, and its borders are settled in `qs`

module _ (ls ms ns qs : List (List Run)) (at k : ℕ) (h : at < length ms) (taken : take at ms ≡ take at ls) (same : runs_in (drop at ms) ≡ runs_in (drop at ls)) (is : ns ≡ set ms at (leaf_at ns at)) (rest : drop k qs ≡ drop (at + 1) ns) where
  rest_kept : drop (at + 1) ns ≡ drop (at + 1) ms
  rest_kept = ap (drop (at + 1)) is ∙ drop-set-lt (at + 1) ms at (leaf_at ns at) (omega arith)

  pub step_back : runs_in (drop at ls) ≡ leaf_at ms at ++ runs_in (drop k qs)
  step_back = sym same ∙ rest_is ms at h ∙ ap (λ ps. leaf_at ms at ++ runs_in ps) (sym (rest ∙ rest_kept))

  step_front : runs_in (take (at + 1) ns) ≡ runs_in (take at ls) ++ leaf_at ns at
  step_front =
      front_is ns at (omega (arith, h, ap length is, length-set ms at (leaf_at ns at))) ∙ ap (λ ps. runs_in ps ++ leaf_at ns at) (ap (take at) is ∙ take-set ms at (leaf_at ns at) ∙ taken)

  pub step_left : AreMaximalRuns (runs_in (drop at ls)) → AreMaximalRuns (runs_in (drop k qs))
  step_left m = maximal-right (leaf_at ms at) (runs_in (drop k qs)) (subst AreMaximalRuns step_back m)

  pub step_cuts : (range : PageRange) → cut_count range (runs_in (drop at ls)) ≡ cut_count range (leaf_at ms at) + cut_count range (runs_in (drop k qs))
  step_cuts range = ap (cut_count range) step_back ∙ cuts-append range (leaf_at ms at) (runs_in (drop k qs))

  pub step_pages : (range : PageRange) (t : ℕ) (o : Owner) → pages_of (leaf_at ns at) ≡ retyped range t o (pages_of (leaf_at ms at)) → pages_of (runs_in (take k qs)) ≡ pages_of (runs_in (take (at + 1) ns)) → so_far range t o qs k ≡ so_far range t o ls at
  step_pages range t o e f =
      let front = runs_in (take at ls) in
      let leaf = leaf_at ms at in
      let back = runs_in (drop k qs) in
      let first = f ∙ ap pages_of step_front ∙ pages_of-append front (leaf_at ns at) ∙ ap (λ m. pages_of front ++ m) e in
      ap (λ m. m ++ retyped range t o (pages_of back)) first ∙ append_assoc (pages_of front) (retyped range t o (pages_of leaf)) (retyped range t o (pages_of back))
      ∙ ap (λ m. pages_of front ++ m) (sym (retyped-append range t o (pages_of leaf) (pages_of back)) ∙ ap (retyped range t o) (sym (ap pages_of step_back ∙ pages_of-append leaf back)))
