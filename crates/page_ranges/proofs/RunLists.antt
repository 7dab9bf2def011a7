-- Lists of runs, and the memories that they represent.
use Rattle.std.proofs.Common.{◌≡◌, ℕ, zero, suc, ◌+◌, ◌-◌, ◌<◌, ◌≤◌, false, List, [], ◌∷◌, ◌++◌, length, get_or, drop, Some, None, append_assoc, refl, sym, ap, ap₂, ◌∙◌, arith}
use Rattle.std.specs.List.{AllByRecursion}
use Rattle.std.proofs.lemmas.Grind.{flat_map-append}
use Rattle.std.proofs.lemmas.List.{append-nil}
use Rattle.page_ranges.specs.declared.ranges.Owner.{Owner}
use Rattle.page_ranges.specs.declared.ranges.Owner.TheVariants.{Given}
use Rattle.page_ranges.specs.declared.ranges.PageRange.{PageRange}
use Rattle.page_ranges.specs.declared.ranges.Run.{Run}
use Rattle.page_ranges.specs.MemoryTypes.{page_count, conventional, has_runtime, attributes_as}
use Rattle.page_ranges.specs.Memory.{Page, page_at, row, IsAscending, IsProperPage, IsProperMemory, retyped}
use Rattle.page_ranges.specs.Runs.{page_in, pages_of, IsInRun, AreRuns}
use Rattle.page_ranges.proofs.Lookups.{AllFrom, page_at-absent}
use Rattle.page_ranges.proofs.Members.{all_implied, all_append, all_append_left}
use Rattle.page_ranges.proofs.Retyped.{changed, changed_in, changed_below, changed_above, retyped-append}
use Rattle.page_ranges.proofs.Rows.{page_at-row, page_at-outside_row, all-row, row-all, ascending-row, row-cut, map-row}

-- the pages of one run
abbrev pub pages_of_run : Run → List Page
pages_of_run r = row r.range.pages (page_in r.range.first r)

-- ---- lookups

pub page_at-held : (r : Run) (rs : List Run) (k : ℕ) → IsInRun r k → page_at (pages_of (r ∷ rs)) k ≡ Some (page_in k r)
page_at-held r rs k i = page_at-row (pages_of rs) r.range.pages (page_in r.range.first r) k i.low i.high

-- a number that is none of the first run's
pub page_at-not_held : (r : Run) (rs : List Run) (k : ℕ) → (r.range.first ≤ k → r.range.first + r.range.pages ≤ k) → page_at (pages_of (r ∷ rs)) k ≡ page_at (pages_of rs) k
page_at-not_held r rs k h = page_at-outside_row (pages_of rs) r.range.pages (page_in r.range.first r) k h

pub pages_of-from : (rs : List Run) (j : ℕ) → AllByRecursion (λ s. j ≤ s.range.first) rs → AllFrom j (pages_of rs)
pages_of-from [] j a = tt
pages_of-from (r ∷ rs) j a = all-row (λ y. j ≤ y.number) (pages_of rs) r.range.pages (page_in r.range.first r) (λ k l u. omega (arith, a.0)) (pages_of-from rs j a.1)

-- a number below all runs
pub page_at-below_runs : (rs : List Run) (k : ℕ) → AllByRecursion (λ s. k < s.range.first) rs → page_at (pages_of rs) k ≡ None
page_at-below_runs rs k a = page_at-absent (pages_of rs) k (pages_of-from rs (suc k) a)

pub begin_at : (n : ℕ) (rs : List Run) (i : ℕ) (d : Run) → AllByRecursion (λ s. n ≤ s.range.first) rs → i < length rs → n ≤ (get_or rs i d).range.first
begin_at n [] i d a h = absurd (omega arith)
begin_at n (r ∷ rs) zero d a h = a.0
begin_at n (r ∷ rs) (suc i) d a h = begin_at n rs i d a.1 (omega arith)

-- each run ends before those after it
pub ends_before : (rs : List Run) (i j : ℕ) (d e : Run) → AreRuns rs → i < j → j < length rs → (get_or rs i d).range.first + (get_or rs i d).range.pages ≤ (get_or rs j e).range.first
ends_before [] i j d e a l h = absurd (omega arith)
ends_before (q ∷ rs) i zero d e a l h = absurd (omega arith)
ends_before (q ∷ rs) zero (suc j) d e a l h = begin_at (q.range.first + q.range.pages) rs j e a.1 (omega arith)
ends_before (q ∷ rs) (suc i) (suc j) d e a l h = ends_before rs i j d e a.2 (omega arith) (omega arith)

pub some_pages_at : (rs : List Run) (i : ℕ) (d : Run) → AreRuns rs → i < length rs → 0 < (get_or rs i d).range.pages
some_pages_at [] i d a h = absurd (omega arith)
some_pages_at (r ∷ rs) zero d a h = a.0
some_pages_at (r ∷ rs) (suc i) d a h = some_pages_at rs i d a.2 (omega arith)

-- the run at an index that holds the number
pub page_at-held_at : (rs : List Run) (i : ℕ) (d : Run) (k : ℕ) → AreRuns rs → i < length rs → IsInRun (get_or rs i d) k → page_at (pages_of rs) k ≡ Some (page_in k (get_or rs i d))
page_at-held_at [] i d k a h j = absurd (omega arith)
page_at-held_at (r ∷ rs) zero d k a h j = page_at-held r rs k j
page_at-held_at (r ∷ rs) (suc i) d k a h j =
    page_at-not_held r rs k (λ l. omega (arith, begin_at (r.range.first + r.range.pages) rs i d a.1 (omega arith), j.low)) ∙ page_at-held_at rs i d k a.2 (omega arith) j

-- a number at or above the end of each run before an index
pub page_at-past : (rs : List Run) (i : ℕ) (d : Run) (k : ℕ) → i ≤ length rs → ((j : ℕ) → j < i → (get_or rs j d).range.first + (get_or rs j d).range.pages ≤ k) → page_at (pages_of rs) k ≡ page_at (pages_of (drop i rs)) k
page_at-past rs zero d k h past = refl
page_at-past [] (suc i) d k h past = absurd (omega arith)
page_at-past (r ∷ rs) (suc i) d k h past = page_at-not_held r rs k (λ l. past 0 (omega arith)) ∙ page_at-past rs i d k (omega arith) (λ j l. past (suc j) (omega arith))

-- ---- lists joined and runs cut

pub pages_of-append : (rs ss : List Run) → pages_of (rs ++ ss) ≡ pages_of rs ++ pages_of ss
pages_of-append rs ss = flat_map-append pages_of_run rs ss

pub pages_of-last : (rs : List Run) (r : Run) → pages_of (rs ++ r ∷ []) ≡ pages_of rs ++ pages_of_run r
pages_of-last rs r = pages_of-append rs (r ∷ []) ∙ ap (λ ys. pages_of rs ++ ys) (append-nil (pages_of_run r))

-- a number of pages of a run, from a page number on
abbrev pub part : ℕ → ℕ → Run → Run
part first pages r = record { range = record { first = first; pages = pages }; mtype = r.mtype; attributes = r.attributes; owner = r.owner }

pub cut_in_two : (r : Run) (a b : ℕ) → r.range.pages ≡ a + b → pages_of_run r ≡ pages_of_run (part r.range.first a r) ++ pages_of_run (part (r.range.first + a) b r)
cut_in_two r a b e = ap (λ n. row n (page_in r.range.first r)) e ∙ row-cut a b (page_in r.range.first r)

pub cut_in_three : (r : Run) (a b c : ℕ) → r.range.pages ≡ a + (b + c) → pages_of_run r ≡ pages_of_run (part r.range.first a r) ++ pages_of_run (part (r.range.first + a) b r) ++ pages_of_run (part (r.range.first + a + b) c r)
cut_in_three r a b c e =
    cut_in_two r a (b + c) e
    ∙ ap (λ ys. pages_of_run (part r.range.first a r) ++ ys) (row-cut b c (page_in (r.range.first + a) r))
    ∙ sym (append_assoc (pages_of_run (part r.range.first a r)) (pages_of_run (part (r.range.first + a) b r)) (pages_of_run (part (r.range.first + a + b) c r)))

-- ---- a range that gets a type and an owner

-- a run once it has a type and an owner
abbrev pub retyped_run : ℕ → Owner → Run → Run
retyped_run t o r = record { range = r.range; mtype = t; attributes = attributes_as t r.attributes; owner = o }

pub retyped-run_inside : (range : PageRange) (t : ℕ) (o : Owner) (r : Run) → range.first ≤ r.range.first → r.range.first + r.range.pages ≤ range.first + range.pages → retyped range t o (pages_of_run r) ≡ pages_of_run (retyped_run t o r)
retyped-run_inside range t o r h l =
    map-row (changed range t o) r.range.pages (page_in r.range.first r) (page_in r.range.first (retyped_run t o r)) refl (λ k g u. changed_in range t o (page_in k r) (omega arith) (omega arith))

pub retyped-run_below : (range : PageRange) (t : ℕ) (o : Owner) (r : Run) → r.range.first + r.range.pages ≤ range.first → retyped range t o (pages_of_run r) ≡ pages_of_run r
retyped-run_below range t o r h =
    map-row (changed range t o) r.range.pages (page_in r.range.first r) (page_in r.range.first r) refl (λ k g u. changed_below range t o (page_in k r) (omega arith))

pub retyped-run_above : (range : PageRange) (t : ℕ) (o : Owner) (r : Run) → range.first + range.pages ≤ r.range.first → retyped range t o (pages_of_run r) ≡ pages_of_run r
retyped-run_above range t o r h =
    map-row (changed range t o) r.range.pages (page_in r.range.first r) (page_in r.range.first r) refl (λ k g u. changed_above range t o (page_in k r) (omega arith))

-- the first run and the others
pub retyped-runs : (range : PageRange) (t : ℕ) (o : Owner) (r : Run) (rs : List Run) → retyped range t o (pages_of (r ∷ rs)) ≡ retyped range t o (pages_of_run r) ++ retyped range t o (pages_of rs)
retyped-runs range t o r rs = retyped-append range t o (pages_of_run r) (pages_of rs)

pub retyped-all_above : (range : PageRange) (t : ℕ) (o : Owner) (rs : List Run) → AllByRecursion (λ s. range.first + range.pages ≤ s.range.first) rs → retyped range t o (pages_of rs) ≡ pages_of rs
retyped-all_above range t o [] a = refl
retyped-all_above range t o (r ∷ rs) a = retyped-runs range t o r rs ∙ ap₂ ◌++◌ (retyped-run_above range t o r a.0) (retyped-all_above range t o rs a.1)

pub retyped-all_below : (range : PageRange) (t : ℕ) (o : Owner) (rs : List Run) → AllByRecursion (λ s. s.range.first + s.range.pages ≤ range.first) rs → retyped range t o (pages_of rs) ≡ pages_of rs
retyped-all_below range t o [] a = refl
retyped-all_below range t o (r ∷ rs) a = retyped-runs range t o r rs ∙ ap₂ ◌++◌ (retyped-run_below range t o r a.0) (retyped-all_below range t o rs a.1)

-- A run that the range may cut: the part below the range, the part inside, and the part above, each of them perhaps empty.
pub retyped-cut : (range : PageRange) (t : ℕ) (o : Owner) (r : Run) (a b c : ℕ) → r.range.pages ≡ a + (b + c) →
    (0 < a → r.range.first + a ≤ range.first) → (0 < b → range.first ≤ r.range.first + a) → (0 < b → r.range.first + a + b ≤ range.first + range.pages) → (0 < c → range.first + range.pages ≤ r.range.first + a + b) →
    retyped range t o (pages_of_run r) ≡ pages_of_run (part r.range.first a r) ++ pages_of_run (retyped_run t o (part (r.range.first + a) b r)) ++ pages_of_run (part (r.range.first + a + b) c r)
retyped-cut range t o r a b c e low in_low in_high high =
    let below = map-row (changed range t o) a (page_in r.range.first r) (page_in r.range.first r) refl (λ k g u. changed_below range t o (page_in k r) (omega (arith, low (omega arith)))) in
    let inside = map-row (changed range t o) b (page_in (r.range.first + a) r) (page_in (r.range.first + a) (retyped_run t o r)) refl
    (λ k g u. changed_in range t o (page_in k r) (omega (arith, in_low (omega arith))) (omega (arith, in_high (omega arith)))) in
    let above = map-row (changed range t o) c (page_in (r.range.first + a + b) r) (page_in (r.range.first + a + b) r) refl (λ k g u. changed_above range t o (page_in k r) (omega (arith, high (omega arith)))) in
    ap (retyped range t o) (cut_in_three r a b c e)
    ∙ retyped-append range t o (pages_of_run (part r.range.first a r) ++ pages_of_run (part (r.range.first + a) b r)) (pages_of_run (part (r.range.first + a + b) c r))
    ∙ ap₂ ◌++◌ (retyped-append range t o (pages_of_run (part r.range.first a r)) (pages_of_run (part (r.range.first + a) b r)) ∙ ap₂ ◌++◌ below inside) above

-- the same by where the parts end
pub retyped-cut_at : (range : PageRange) (t : ℕ) (o : Owner) (r : Run) (low high end : ℕ) → r.range.first ≤ low → low ≤ high → high ≤ end → end ≡ r.range.first + r.range.pages →
    (r.range.first < low → low ≤ range.first) → (low < high → range.first ≤ low) → (low < high → high ≤ range.first + range.pages) → (high < end → range.first + range.pages ≤ high) →
    retyped range t o (pages_of_run r) ≡ pages_of_run (part r.range.first (low - r.range.first) r) ++ pages_of_run (retyped_run t o (part low (high - low) r)) ++ pages_of_run (part high (end - high) r)
retyped-cut_at range t o r low high end f g h e below in_low in_high above =
    let a : ℕ = low - r.range.first in
    let b : ℕ = high - low in
    let c : ℕ = end - high in
    let mid : r.range.first + a ≡ low = omega arith in
    let top : r.range.first + a + b ≡ high = omega arith in
    retyped-cut range t o r a b c (omega arith) (λ x. omega (arith, below (omega arith))) (λ x. omega (arith, in_low (omega arith))) (λ x. omega (arith, in_high (omega arith))) (λ x. omega (arith, above (omega arith)))
    ∙ ap₂ (λ (u v : ℕ). pages_of_run (part r.range.first a r) ++ pages_of_run (retyped_run t o (part u b r)) ++ pages_of_run (part v c r)) mid top

-- ---- runs of a proper memory

-- A run of a proper memory: it ends where page numbers end, at most, and a conventional one is the machine's own and lacks RUNTIME.
pub record IsProperRun (r : Run) : Type 0 where
  pub within : r.range.first + r.range.pages ≤ page_count
  pub given : r.mtype ≡ conventional → r.owner ≡ Given
  pub no_runtime : r.mtype ≡ conventional → has_runtime r.attributes ≡ false

pub runs_ascending : (rs : List Run) → AreRuns rs → IsAscending (pages_of rs)
runs_ascending [] a = tt
runs_ascending (r ∷ rs) a = ascending-row (pages_of rs) r.range.pages (page_in r.range.first r) (pages_of-from rs (r.range.first + r.range.pages) a.1) (runs_ascending rs a.2)

proper_run : (r : Run) → 0 < r.range.pages → ((k : ℕ) → r.range.first ≤ k → k < r.range.first + r.range.pages → IsProperPage (page_in k r)) → IsProperRun r
proper_run r some each =
    let first = each r.range.first (omega arith) (omega arith) in
    let last = each (r.range.first + r.range.pages - 1) (omega arith) (omega arith) in
    record { within = omega (arith, last.number); given = first.given; no_runtime = first.no_runtime }

each_run_proper : (rs : List Run) → AreRuns rs → AllByRecursion IsProperPage (pages_of rs) → AllByRecursion IsProperRun rs
each_run_proper [] a p = tt
each_run_proper (r ∷ rs) a p =
    let parts = row-all IsProperPage (pages_of rs) r.range.pages (page_in r.range.first r) p in
    (proper_run r a.0 parts.0, each_run_proper rs a.2 parts.1)

pub proper_runs : (rs : List Run) → AreRuns rs → IsProperMemory (pages_of rs) → AllByRecursion IsProperRun rs
proper_runs rs a proper = each_run_proper rs a proper.each

each_page_proper : (rs : List Run) → AllByRecursion IsProperRun rs → AllByRecursion IsProperPage (pages_of rs)
each_page_proper [] p = tt
each_page_proper (r ∷ rs) p =
    all-row IsProperPage (pages_of rs) r.range.pages (page_in r.range.first r) (λ k l u. record { number = omega (arith, p.0.within); given = p.0.given; no_runtime = p.0.no_runtime }) (each_page_proper rs p.1)

pub proper_pages : (rs : List Run) → AreRuns rs → AllByRecursion IsProperRun rs → IsProperMemory (pages_of rs)
proper_pages rs a p = record { ascending = runs_ascending rs a; each = each_page_proper rs p }

-- what holds of all runs holds of the one at an index
pub run_at : (P : Run → Type 0) (rs : List Run) (i : ℕ) (d : Run) → AllByRecursion P rs → i < length rs → P (get_or rs i d)
run_at P [] i d a h = absurd (omega arith)
run_at P (r ∷ rs) zero d a h = a.0
run_at P (r ∷ rs) (suc i) d a h = run_at P rs i d a.1 (omega arith)

-- there are no more runs than page numbers
pub run_count : (rs : List Run) (j n : ℕ) → AreRuns rs → AllByRecursion (λ s. j ≤ s.range.first) rs → AllByRecursion (λ s. s.range.first + s.range.pages ≤ n) rs → j ≤ n → j + length rs ≤ n
run_count [] j n a b c h = omega arith
run_count (r ∷ rs) j n a b c h = omega (arith, run_count rs (r.range.first + r.range.pages) n a.2 a.1 c.1 c.0, a.0, b.0)

-- ---- runs in order, end to end

abbrev pub EndBy : ℕ → List Run → Type 0
EndBy n rs = AllByRecursion (λ s. s.range.first + s.range.pages ≤ n) rs

pub EndBy-higher : (n k : ℕ) (rs : List Run) → n ≤ k → EndBy n rs → EndBy k rs
EndBy-higher n k rs h a = all_implied (λ s. s.range.first + s.range.pages ≤ n) (λ s. s.range.first + s.range.pages ≤ k) (λ s l. omega arith) rs a

pub begin_lower : (j k : ℕ) (rs : List Run) → j ≤ k → AllByRecursion (λ s. k ≤ s.range.first) rs → AllByRecursion (λ s. j ≤ s.range.first) rs
begin_lower j k rs h a = all_implied (λ s. k ≤ s.range.first) (λ s. j ≤ s.range.first) (λ s l. omega arith) rs a

pub runs-append : (n : ℕ) (rs ss : List Run) → AreRuns rs → EndBy n rs → AreRuns ss → AllByRecursion (λ s. n ≤ s.range.first) ss → AreRuns (rs ++ ss)
runs-append n [] ss a e b f = b
runs-append n (r ∷ rs) ss a e b f = (a.0, all_append (λ s. r.range.first + r.range.pages ≤ s.range.first) rs ss a.1 (begin_lower (r.range.first + r.range.pages) n ss e.0 f), runs-append n rs ss a.2 e.1 b f)

pub runs-left : (rs ss : List Run) → AreRuns (rs ++ ss) → AreRuns rs
runs-left [] ss a = tt
runs-left (r ∷ rs) ss a = (a.0, all_append_left (λ s. r.range.first + r.range.pages ≤ s.range.first) rs ss a.1, runs-left rs ss a.2)

pub runs-right : (rs ss : List Run) → AreRuns (rs ++ ss) → AreRuns ss
runs-right [] ss a = a
runs-right (r ∷ rs) ss a = runs-right rs ss a.2
