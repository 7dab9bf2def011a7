-- Leaves of runs, and the runs in them.
use Rattle.std.proofs.Common.{◌≡◌, ℕ, zero, suc, ◌+◌, ◌<◌, ◌≤◌, List, [], ◌∷◌, ◌++◌, length, length-append, get_or, take, drop, Option, Some, None, Contains, refl, sym, ap, subst, ◌∙◌, append-nil, arith}
use Rattle.std.specs.Prelude.{IfSome, slice_get}
use Rattle.std.specs.List.{AllByRecursion}
use Rattle.std.specs.List.Sorted.{IsNonDecreasingBy}
use Rattle.std.proofs.lemmas.List.Concat.{flat_map-append}
use Rattle.page_ranges.specs.declared.ranges.Run.{Run}
use Rattle.page_ranges.specs.Memory.{Page, page_at}
use Rattle.page_ranges.specs.Runs.{pages_of, AreRuns, IsInRun}
use Rattle.page_ranges.proofs.Lookups.{page_at-append_present, page_at-append_absent}
use Rattle.page_ranges.proofs.Members.{all_implied, all_append, all_append_left, all_append_right, member_left, member_right}
use Rattle.page_ranges.proofs.RunLists.{pages_of-append, page_at-below_runs, runs-left, runs-right}
use Rattle.descriptor_table.specs.Tables.{EndBy}
use Rattle.descriptor_table.specs.Leaves.{first_page, runs_in, IsLeaf, AreLeaves}
use Rattle.descriptor_table.proofs.Ends.{page_at-past_all}

pub runs_in-append : (ls ms : List (List Run)) → runs_in (ls ++ ms) ≡ runs_in ls ++ runs_in ms
runs_in-append ls ms = flat_map-append (λ (l : List Run). l) ls ms

-- the runs of leaves, one more leaf after them
pub runs_in-last : (ls : List (List Run)) (l : List Run) → runs_in (ls ++ l ∷ []) ≡ runs_in ls ++ l
runs_in-last ls l = runs_in-append ls (l ∷ []) ∙ ap (λ rs. runs_in ls ++ rs) (append-nil l)

-- ---- where runs begin and end

pub begin_by_first : (rs : List Run) → AreRuns rs → AllByRecursion (λ s. first_page rs ≤ s.range.first) rs
begin_by_first [] a = tt
begin_by_first (r ∷ rs) a = (omega arith, all_implied (λ s. r.range.first + r.range.pages ≤ s.range.first) (λ s. r.range.first ≤ s.range.first) (λ s h. omega arith) rs a.1)

pub end_by_next : (xs : List Run) (ys : List Run) → AreRuns (xs ++ ys) → 0 < length ys → EndBy (first_page ys) xs
end_by_next xs [] a h = absurd (omega arith)
end_by_next [] (y ∷ ys) a h = tt
end_by_next (x ∷ xs) (y ∷ ys) a h = ((all_append_right (λ s. x.range.first + x.range.pages ≤ s.range.first) xs (y ∷ ys) a.1).0, end_by_next xs (y ∷ ys) a.2 h)

first_page-append : (l : List Run) (rs : List Run) → 0 < length l → first_page (l ++ rs) ≡ first_page l
first_page-append [] rs h = absurd (omega arith)
first_page-append (r ∷ l) rs h = refl

-- the first pages of leaves rise
firsts_from : (n : ℕ) (ls : List (List Run)) → AreLeaves ls → AllByRecursion (λ s. n ≤ s.range.first) (runs_in ls) → AllByRecursion (λ l. n ≤ first_page l) ls
firsts_from n [] a h = tt
firsts_from n ([] ∷ ls) a h = absurd (omega (arith, a.0.0))
firsts_from n ((r ∷ l) ∷ ls) a h = (h.0, firsts_from n ls a.1 (all_append_right (λ s. n ≤ s.range.first) l (runs_in ls) h.1))

all_at : {X : Type 0} (P : X → Type 0) (xs : List X) (i : ℕ) (d : X) → AllByRecursion P xs → i < length xs → P (get_or xs i d)
all_at P [] i d a h = absurd (omega arith)
all_at P (x ∷ xs) zero d a h = a.0
all_at P (x ∷ xs) (suc i) d a h = all_at P xs i d a.1 (omega arith)

pub leaf_at : (ls : List (List Run)) (i : ℕ) (d : List Run) → AreLeaves ls → i < length ls → IsLeaf (get_or ls i d)
leaf_at ls i d a h = all_at IsLeaf ls i d a h

pub leaf_runs : (ls : List (List Run)) (i : ℕ) (d : List Run) → AreRuns (runs_in ls) → i < length ls → AreRuns (get_or ls i d)
leaf_runs [] i d a h = absurd (omega arith)
leaf_runs (l ∷ ls) zero d a h = runs-left l (runs_in ls) a
leaf_runs (l ∷ ls) (suc i) d a h = leaf_runs ls i d (runs-right l (runs_in ls) a) (omega arith)

-- what holds of all runs holds of those of a leaf
pub leaf_all : (P : Run → Type 0) (ls : List (List Run)) (i : ℕ) (d : List Run) → AllByRecursion P (runs_in ls) → i < length ls → AllByRecursion P (get_or ls i d)
leaf_all P [] i d a h = absurd (omega arith)
leaf_all P (l ∷ ls) zero d a h = all_append_left P l (runs_in ls) a
leaf_all P (l ∷ ls) (suc i) d a h = leaf_all P ls i d (all_append_right P l (runs_in ls) a) (omega arith)

pub leaf_ends : (n : ℕ) (ls : List (List Run)) (i : ℕ) (d : List Run) → EndBy n (runs_in ls) → i < length ls → EndBy n (get_or ls i d)
leaf_ends n = leaf_all (λ r. r.range.first + r.range.pages ≤ n)

pub leaf_member : (ls : List (List Run)) (i : ℕ) (d : List Run) (r : Run) → i < length ls → Contains (get_or ls i d) r → Contains (runs_in ls) r
leaf_member [] i d r h c = absurd (omega arith)
leaf_member (l ∷ ls) zero d r h c = member_left l (runs_in ls) r c
leaf_member (l ∷ ls) (suc i) d r h c = member_right l (runs_in ls) r (leaf_member ls i d r (omega arith) c)

pub leaf_firsts_rise : (ls : List (List Run)) → AreLeaves ls → AreRuns (runs_in ls) → IsNonDecreasingBy first_page ls
leaf_firsts_rise [] a b i j d l h = absurd (omega arith)
leaf_firsts_rise (l ∷ ls) a b zero zero d m h = omega arith
leaf_firsts_rise (l ∷ ls) a b zero (suc j) d m h =
    all_at (λ k. first_page l ≤ first_page k) ls j d
    (firsts_from (first_page l) ls a.1
    (all_append_right (λ s. first_page l ≤ s.range.first) l (runs_in ls) (rw (first_page-append l (runs_in ls) a.0.0) at (begin_by_first (l ++ runs_in ls) b)))) (omega arith)
leaf_firsts_rise (l ∷ ls) a b (suc i) zero d m h = absurd (omega arith)
leaf_firsts_rise (l ∷ ls) a b (suc i) (suc j) d m h = leaf_firsts_rise ls a.1 (runs-right l (runs_in ls) b) i j d (omega arith) (omega arith)

-- ---- the leaves before a place and after it

some_runs : (ls : List (List Run)) → AreLeaves ls → 0 < length ls → 0 < length (runs_in ls)
some_runs [] a h = absurd (omega arith)
some_runs (l ∷ ls) a h = omega (arith, a.0.0, length-append l (runs_in ls))

first_in : (l : List Run) (ls : List (List Run)) → IsLeaf l → first_page (runs_in (l ∷ ls)) ≡ first_page l
first_in l ls a = first_page-append l (runs_in ls) a.0

-- where a leaf begins below a page, the runs of the leaves before it end below that page
pub leaves_end_below : (ls : List (List Run)) (n page : ℕ) → AreLeaves ls → AreRuns (runs_in ls) → n < length ls → first_page (get_or ls n []) < page → AllByRecursion (λ r. r.range.first + r.range.pages < page) (runs_in (take n ls))
leaves_end_below [] n page a b h l = absurd (omega arith)
leaves_end_below (l ∷ ls) zero page a b h m = tt
leaves_end_below (l ∷ []) (suc n) page a b h m = absurd (omega arith)
leaves_end_below (l ∷ k ∷ ls) (suc n) page a b h m =
    let rest = runs-right l (runs_in (k ∷ ls)) b in
    let low : first_page k ≤ first_page (get_or (k ∷ ls) n []) = leaf_firsts_rise (k ∷ ls) a.1 rest 0 n [] (omega arith) (omega arith) in
    let ends = end_by_next l (runs_in (k ∷ ls)) b (some_runs (k ∷ ls) a.1 (omega arith)) in
    all_append (λ r. r.range.first + r.range.pages < page) l (runs_in (take n (k ∷ ls)))
    (all_implied (λ r. r.range.first + r.range.pages ≤ first_page (runs_in (k ∷ ls))) (λ r. r.range.first + r.range.pages < page) (λ r e. omega (arith, e, first_in k ls a.1.0)) l ends)
    (leaves_end_below (k ∷ ls) n page a.1 rest (omega arith) m)

-- what begins above a page, by the first pages of the leaves
pub leaves_begin_above : (ls : List (List Run)) (n page : ℕ) → AreRuns (runs_in ls) → ((k : ℕ) (d : List Run) → n ≤ k → k < length ls → page < first_page (get_or ls k d)) → AllByRecursion (λ r. page < r.range.first) (runs_in (drop n ls))
leaves_begin_above [] zero page b h = tt
leaves_begin_above [] (suc n) page b h = tt
leaves_begin_above (l ∷ ls) zero page b h =
    all_append (λ r. page < r.range.first) l (runs_in ls)
    (all_implied (λ s. first_page l ≤ s.range.first) (λ r. page < r.range.first) (λ r e. omega (arith, e, h 0 l (omega arith) (omega arith))) l (begin_by_first l (runs-left l (runs_in ls) b)))
    (leaves_begin_above ls zero page (runs-right l (runs_in ls) b) (λ k d m u. h (suc k) d (omega arith) (omega arith)))
leaves_begin_above (l ∷ ls) (suc n) page b h = leaves_begin_above ls n page (runs-right l (runs_in ls) b) (λ k d m u. h (suc k) d (omega arith) (omega arith))

-- ---- the leaf that a page lies in

behind_case : (ms ns : List Page) (k : ℕ) (o : Option Page) → page_at ns k ≡ None → page_at ms k ≡ o → page_at (ms ++ ns) k ≡ page_at ms k
behind_case ms ns k None none e = page_at-append_absent ms ns k e ∙ none ∙ sym e
behind_case ms ns k (Some x) none e = page_at-append_present ms ns k x e ∙ sym e

page_at-behind : (ms ns : List Page) (k : ℕ) → page_at ns k ≡ None → page_at (ms ++ ns) k ≡ page_at ms k
page_at-behind ms ns k none = behind_case ms ns k (page_at ms k) none refl

-- a page is looked up in the last leaf that begins by it
pub page_at_leaf : (ls : List (List Run)) (n k : ℕ) (d : List Run) → AreLeaves ls → AreRuns (runs_in ls) → n < length ls → first_page (get_or ls n d) ≤ k → ((j : ℕ) (e : List Run) → n < j → j < length ls → k < first_page (get_or ls j e))
    → page_at (pages_of (runs_in ls)) k ≡ page_at (pages_of (get_or ls n d)) k
page_at_leaf [] n k d a b h low above = absurd (omega arith)
page_at_leaf (l ∷ ls) zero k d a b h low above =
    let none = page_at-below_runs (runs_in ls) k (leaves_begin_above ls 0 k (runs-right l (runs_in ls) b) (λ j e m u. above (suc j) e (omega arith) (omega arith))) in
    ap (λ m. page_at m k) (pages_of-append l (runs_in ls)) ∙ page_at-behind (pages_of l) (pages_of (runs_in ls)) k none
page_at_leaf (l ∷ []) (suc n) k d a b h low above = absurd (omega arith)
page_at_leaf (l ∷ m ∷ ls) (suc n) k d a b h low above =
    let rest = runs-right l (runs_in (m ∷ ls)) b in
    let up : first_page m ≤ first_page (get_or (m ∷ ls) n d) = leaf_firsts_rise (m ∷ ls) a.1 rest 0 n d (omega arith) (omega arith) in
    let ends = end_by_next l (runs_in (m ∷ ls)) b (some_runs (m ∷ ls) a.1 (omega arith)) in
    let none = page_at-past_all l k (all_implied (λ r. r.range.first + r.range.pages ≤ first_page (runs_in (m ∷ ls))) (λ r. r.range.first + r.range.pages ≤ k) (λ r e. omega (arith, e, first_in m ls a.1.0)) l ends) in
    ap (λ x. page_at x k) (pages_of-append l (runs_in (m ∷ ls))) ∙ page_at-append_absent (pages_of l) (pages_of (runs_in (m ∷ ls))) k none
    ∙ page_at_leaf (m ∷ ls) n k d a.1 rest (omega arith) low (λ j e x u. above (suc j) e (omega arith) (omega arith))

-- a page below all leaves is absent
pub page_at_no_leaf : (ls : List (List Run)) (k : ℕ) → AreRuns (runs_in ls) → ((j : ℕ) (e : List Run) → j < length ls → k < first_page (get_or ls j e)) → page_at (pages_of (runs_in ls)) k ≡ None
page_at_no_leaf ls k b above = page_at-below_runs (runs_in ls) k (leaves_begin_above ls 0 k b (λ j e m u. above j e u))

-- the run that was found in a leaf is one of all runs
pub found_in_leaf : (ls : List (List Run)) (i k : ℕ) (d l : List Run) (o : Option Run) → i < length ls → l ≡ get_or ls i d → IfSome o (λ r. Contains l r × IsInRun r k) → IfSome o (λ r. Contains (runs_in ls) r × IsInRun r k)
found_in_leaf ls i k d l None h e m = m
found_in_leaf ls i k d l (Some r) h e m = (leaf_member ls i d r h (subst (λ x. Contains x r) e m.0), m.1)

-- ---- parts of leaves

pub leaves_taken : (ls : List (List Run)) (n : ℕ) → AreLeaves ls → AreLeaves (take n ls)
leaves_taken [] zero a = tt
leaves_taken [] (suc n) a = tt
leaves_taken (l ∷ ls) zero a = tt
leaves_taken (l ∷ ls) (suc n) a = (a.0, leaves_taken ls n a.1)

pub leaves_dropped : (ls : List (List Run)) (n : ℕ) → AreLeaves ls → AreLeaves (drop n ls)
leaves_dropped [] zero a = tt
leaves_dropped [] (suc n) a = tt
leaves_dropped (l ∷ ls) zero a = a
leaves_dropped (l ∷ ls) (suc n) a = leaves_dropped ls n a.1

pub no_leaves : (ls : List (List Run)) → length ls ≡ 0 → length (runs_in ls) ≡ 0
no_leaves [] e = refl
no_leaves (l ∷ ls) e = absurd (omega arith)

pub no_runs_in : (ls : List (List Run)) → AreLeaves ls → length (runs_in ls) ≡ 0 → length ls ≡ 0
no_runs_in [] a e = refl
no_runs_in (l ∷ ls) a e = absurd (omega (arith, a.0.0, length-append l (runs_in ls)))

-- ---- runs by index

pub get_left : (xs ys : List Run) (k : ℕ) → k < length xs → slice_get (xs ++ ys) k ≡ slice_get xs k
get_left [] ys k h = absurd (omega arith)
get_left (x ∷ xs) ys zero h = refl
get_left (x ∷ xs) ys (suc k) h = get_left xs ys k (omega arith)

pub get_right : (xs ys : List Run) (k j : ℕ) → k ≡ length xs + j → slice_get (xs ++ ys) k ≡ slice_get ys j
get_right [] ys k j e = let f : k ≡ j = omega arith in ap (slice_get ys) f
get_right (x ∷ xs) ys zero j e = absurd (omega arith)
get_right (x ∷ xs) ys (suc k) j e = get_right xs ys k j (omega arith)

pub get_dropped : {X : Type 0} (xs : List X) (n k i : ℕ) → n + k ≡ i → slice_get (drop n xs) k ≡ slice_get xs i
get_dropped xs zero k i e = let f : k ≡ i = omega arith in ap (slice_get xs) f
get_dropped [] (suc n) zero i e = refl
get_dropped [] (suc n) (suc k) i e = refl
get_dropped (x ∷ xs) (suc n) k zero e = absurd (omega arith)
get_dropped (x ∷ xs) (suc n) k (suc i) e = get_dropped xs n k i (omega arith)

-- a run of a leaf is one of all, after those of the leaves before it
pub run_of_leaf : (ls : List (List Run)) (j i : ℕ) (d : List Run) → j < length ls → i < length (get_or ls j d) → slice_get (runs_in ls) (length (runs_in (take j ls)) + i) ≡ slice_get (get_or ls j d) i
run_of_leaf [] j i d h k = absurd (omega arith)
run_of_leaf (l ∷ ls) zero i d h k = let e : 0 + i ≡ i = omega arith in ap (slice_get (l ++ runs_in ls)) e ∙ get_left l (runs_in ls) i k
run_of_leaf (l ∷ ls) (suc j) i d h k =
    get_right l (runs_in ls) (length (l ++ runs_in (take j ls)) + i) (length (runs_in (take j ls)) + i) (omega (arith, length-append l (runs_in (take j ls)))) ∙ run_of_leaf ls j i d (omega arith) k
