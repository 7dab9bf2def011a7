-- The last run of a leaf and the first one of the next.
use Rattle.std.specs.Prelude.{slice_get}
use Rattle.std.proofs.Common.{◌≡◌, ℕ, zero, suc, ◌+◌, ◌-◌, ◌<◌, ◌≤◌, false, true, List, [], ◌∷◌, ◌++◌, Some, length, take, drop, refl, sym, ap, subst, ◌∙◌, append_assoc, arith}
use Rattle.std.specs.List.{AllByRecursion}
use Rattle.std.proofs.lemmas.List.{drop_all}
use Rattle.std.proofs.lemmas.Option.{slice_get_within}
use Rattle.page_ranges.specs.declared.ranges.Run.{Run}
use Rattle.page_ranges.specs.MemoryTypes.{page_count}
use Rattle.page_ranges.specs.Runs.{pages_of, should_be_one_run, IsApartRun, AreRuns, AreMaximalRuns}
use Rattle.page_ranges.proofs.MaximalRuns.{one_run_parts}
use Rattle.page_ranges.proofs.Members.{all_implied, all_append_right}
use Rattle.page_ranges.proofs.RunLists.{pages_of-append}
use Rattle.descriptor_table.specs.LeafBorders.{JoinsRuns}
use Rattle.descriptor_table.specs.Tables.{EndBy}
use Rattle.descriptor_table.proofs.Joins.{grown-pages, longer}

ends_with : (rs : List Run) (k : ℕ) (r : Run) → k + 1 ≡ length rs → slice_get rs k ≡ Some r → rs ≡ take k rs ++ r ∷ []
ends_with [] k r e h = absurd (omega arith)
ends_with (q ∷ []) zero r e h = let same : q ≡ r = cc in ap (λ s. s ∷ []) same
ends_with (q ∷ p ∷ rs) zero r e h = absurd (omega arith)
ends_with (q ∷ rs) (suc k) r e h = ap (λ ps. q ∷ ps) (ends_with rs k r (omega arith) h)

begins_with : (ss : List Run) (x : Run) → slice_get ss 0 ≡ Some x → ss ≡ x ∷ drop 1 ss
begins_with [] x e = absurd cc
begins_with (s ∷ ss) x e = let same : s ≡ x = cc in ap (λ q. q ∷ ss) same

-- ---- the two should not be one

apart_order : (p : List Run) (r x : Run) (n : List Run) → AreMaximalRuns (p ++ r ∷ []) → AreMaximalRuns (x ∷ n) → AreRuns (p ++ r ∷ x ∷ n) → should_be_one_run r x ≡ false → AreMaximalRuns (p ++ r ∷ x ∷ n)
apart_order [] r x n a b c f = (a.0, c.1, f, b)
apart_order (y ∷ []) r x n a b c f = (a.0, c.1, a.2, apart_order [] r x n a.3 b c.2 f)
apart_order (y ∷ z ∷ p) r x n a b c f = (a.0, c.1, a.2, apart_order (z ∷ p) r x n a.3 b c.2 f)

-- ---- they should

module _ (r x : Run) (one : should_be_one_run r x ≡ true) where
  one_end : (n : ℕ) → x.range.first + x.range.pages ≤ n → r.range.first + (r.range.pages + x.range.pages) ≤ n
  one_end n h = let same = one_run_parts r x one in omega (arith, same.next)

  one_pages : (p n : List Run) → pages_of (p ++ longer r x.range.pages ∷ n) ≡ pages_of (p ++ r ∷ x ∷ n)
  one_pages p n =
      let l = longer r x.range.pages in
      let both = grown-pages x (r ∷ []) 0 r refl refl one ∙ sym (pages_of-append (r ∷ []) (x ∷ [])) in
      let here = pages_of-append (l ∷ []) n ∙ ap (λ m. m ++ pages_of n) both ∙ sym (pages_of-append (r ∷ x ∷ []) n) in
      pages_of-append p (l ∷ n) ∙ ap (λ m. pages_of p ++ m) here ∙ sym (pages_of-append p (r ∷ x ∷ n))

  one_ends : (k : ℕ) (p n : List Run) → EndBy k (p ++ r ∷ x ∷ n) → EndBy k (p ++ longer r x.range.pages ∷ n)
  one_ends k [] n a = (one_end k a.1.0, a.1.1)
  one_ends k (y ∷ p) n a = (a.0, one_ends k p n a.1)

  one_begins : (k : ℕ) (p n : List Run) → AllByRecursion (λ s. k ≤ s.range.first) (p ++ r ∷ x ∷ n) → AllByRecursion (λ s. k ≤ s.range.first) (p ++ longer r x.range.pages ∷ n)
  one_begins k [] n a = (a.0, a.1.1)
  one_begins k (y ∷ p) n a = (a.0, one_begins k p n a.1)

  one_apart : (n : List Run) → IsApartRun x n → IsApartRun (longer r x.range.pages) n
  one_apart [] a = tt
  one_apart (s ∷ n) a =
      let same = one_run_parts r x one in
      let end : r.range.first + (r.range.pages + x.range.pages) ≡ x.range.first + x.range.pages = omega (arith, same.next) in
      rw (end, same.mtype, same.attributes, same.owner) a

  one_order : (p n : List Run) → AreMaximalRuns (p ++ r ∷ []) → AreMaximalRuns (x ∷ n) → AreRuns (p ++ r ∷ x ∷ n) → AreMaximalRuns (p ++ longer r x.range.pages ∷ n)
  one_order [] n a b c = (
    omega (arith, a.0),
    all_implied (λ s. x.range.first + x.range.pages ≤ s.range.first) (λ s. r.range.first + (r.range.pages + x.range.pages) ≤ s.range.first) (λ s h. one_end s.range.first h) n b.1,
    one_apart n b.2,
    b.3,
  )
  one_order (y ∷ []) n a b c = (a.0, one_begins (y.range.first + y.range.pages) [] n c.1, a.2, one_order [] n a.3 b c.2)
  one_order (y ∷ z ∷ p) n a b c = (a.0, one_begins (y.range.first + y.range.pages) (z ∷ p) n c.1, a.2, one_order (z ∷ p) n a.3 b c.2)

-- ---- the border between two leaves

module _ (rs ss : List Run) (r x : Run) (last : slice_get rs (length rs - 1) ≡ Some r) (first : slice_get ss 0 ≡ Some x) where
  pub some_last : 0 < length rs
  some_last = omega (arith, slice_get_within rs (length rs - 1) r last)

  abbrev front : List Run
  front = take (length rs - 1) rs

  at_last : rs ≡ front ++ r ∷ []
  at_last = ends_with rs (length rs - 1) r (omega (arith, some_last)) last

  all_are : rs ++ ss ≡ front ++ r ∷ x ∷ drop 1 ss
  all_are = ap (λ ps. ps ++ ss) at_last ∙ append_assoc front (r ∷ []) ss ∙ ap (λ ns. front ++ r ∷ ns) (begins_with ss x first)

  both_end : EndBy page_count (rs ++ ss) → EndBy page_count (r ∷ x ∷ drop 1 ss)
  both_end a = all_append_right (λ q. q.range.first + q.range.pages ≤ page_count) front (r ∷ x ∷ drop 1 ss) (subst (EndBy page_count) all_are a)

  pub last_end : EndBy page_count (rs ++ ss) → r.range.first + r.range.pages ≤ page_count
  last_end a = (both_end a).0

  pub pages_fit : EndBy page_count (rs ++ ss) → should_be_one_run r x ≡ true → r.range.pages + x.range.pages ≤ page_count
  pages_fit a one = omega (arith, one_end r x one page_count (both_end a).1.0)

  -- the lists after others and before others
  first_behind : (before : List Run) → before ++ rs ≡ (before ++ front) ++ r ∷ []
  first_behind before = ap (λ ps. before ++ ps) at_last ∙ sym (append_assoc before front (r ∷ []))

  next_before : (after : List Run) → ss ++ after ≡ x ∷ (drop 1 ss ++ after)
  next_before after = ap (λ ps. ps ++ after) (begins_with ss x first)

  between : (before after all back : List Run) → all ≡ front ++ back → before ++ (all ++ after) ≡ (before ++ front) ++ (back ++ after)
  between before after all back e =
      ap (λ ps. before ++ (ps ++ after)) e ∙ ap (λ ps. before ++ ps) (append_assoc front back after) ∙ sym (append_assoc before front (back ++ after))

  pub border_apart : should_be_one_run r x ≡ false → JoinsRuns rs ss (rs ++ ss)
  border_apart f before after a n b =
      let all = between before after (rs ++ ss) (r ∷ x ∷ drop 1 ss) all_are in
      subst AreMaximalRuns (sym all)
      (apart_order (before ++ front) r x (drop 1 ss ++ after) (subst AreMaximalRuns (first_behind before) a) (subst AreMaximalRuns (next_before after) n) (subst AreRuns all b) f)

  module _ (one : should_be_one_run r x ≡ true) (new rest : List Run) (put : new ≡ front ++ (longer r x.range.pages ∷ [] ++ drop (length rs) rs)) (left : rest ≡ drop 1 ss) where
    new_are : new ++ rest ≡ front ++ longer r x.range.pages ∷ drop 1 ss
    new_are =
        let l = longer r x.range.pages in
        let here : new ≡ front ++ l ∷ [] = put ∙ ap (λ ps. front ++ l ∷ ps) (drop_all (length rs) rs (omega arith)) in
        ap (λ ps. ps ++ rest) here ∙ append_assoc front (l ∷ []) rest ∙ ap (λ ns. front ++ l ∷ ns) left

    pub joined_pages : pages_of (new ++ rest) ≡ pages_of (rs ++ ss)
    joined_pages = ap pages_of new_are ∙ one_pages r x one front (drop 1 ss) ∙ sym (ap pages_of all_are)

    pub joined_ends : (k : ℕ) → EndBy k (rs ++ ss) → EndBy k (new ++ rest)
    joined_ends k a = subst (EndBy k) (sym new_are) (one_ends r x one k front (drop 1 ss) (subst (EndBy k) all_are a))

    pub joined_order : JoinsRuns rs ss (new ++ rest)
    joined_order before after a n b =
        subst AreMaximalRuns (sym (between before after (new ++ rest) (longer r x.range.pages ∷ drop 1 ss) new_are))
        (one_order r x one (before ++ front) (drop 1 ss ++ after) (subst AreMaximalRuns (first_behind before) a) (subst AreMaximalRuns (next_before after) n) (subst AreRuns (between before after (rs ++ ss) (r ∷ x ∷ drop 1 ss) all_are) b))
