-- The map of runs, made from the last run down.
use Rattle.std.proofs.Common.{◌≡◌, ℕ, zero, suc, ◌+◌, ◌<◌, ◌≤◌, true, false, List, [], ◌∷◌, length, get_or, drop, slice_index_or, slice_set, sym, ap, subst, ◌∙◌, arith}
use Rattle.std.specs.List.{AllByRecursion}
use Rattle.std.proofs.lemmas.Bool.{cond-true, cond-false}
use Rattle.std.proofs.lemmas.List.{at_drop_more}
use Rattle.page_ranges.specs.declared.ranges.Descriptor.{Descriptor}
use Rattle.page_ranges.specs.declared.ranges.Run.{Run}
use Rattle.page_ranges.specs.MemoryTypes.{page_count}
use Rattle.page_ranges.specs.MemoryMap.{memory_map, should_be_one}
use Rattle.page_ranges.specs.Runs.{page_in, pages_of, AreRuns}
use Rattle.page_ranges.proofs.RunLists.{some_pages_at, run_at}
use Rattle.page_ranges.proofs.RunMaps.{block_of_run, joined_block, map_of_runs, entries_end_by}
use Rattle.page_ranges.proofs.Rows.{with_row_below}

-- the map of the runs from an index on
map_at : (rs : List Run) (i k : ℕ) (r : Run) → AreRuns rs → i < length rs → k ≡ i + 1 → r ≡ get_or rs i r → memory_map (pages_of (drop i rs)) ≡ with_row_below r.range.pages (page_in r.range.first r) (memory_map (pages_of (drop k rs)))
map_at rs i k r a h e is =
    at_drop_more (λ ss. memory_map (pages_of ss)) rs i r h
    ∙ ap (λ s. memory_map (pages_of (s ∷ drop (i + 1) rs))) (sym is)
    ∙ map_of_runs r (drop (i + 1) rs) (omega (arith, some_pages_at rs i r a h, ap (λ s. s.range.pages) is))
    ∙ ap (λ n. with_row_below r.range.pages (page_in r.range.first r) (memory_map (pages_of (drop n rs)))) (sym e)

-- the run goes on in the first entry
pub map_grown : (rs : List Run) (i k : ℕ) (r : Run) (es : List Descriptor) (b d : Descriptor) → AreRuns rs → i < length rs → k ≡ i + 1 → r ≡ get_or rs i r → es ≡ memory_map (pages_of (drop k rs)) → 0 < length es →
    b ≡ slice_index_or es 0 b → d ≡ slice_index_or es 0 d → should_be_one (block_of_run r) d ≡ true → slice_set es 0 (record (block_of_run r) { pages = r.range.pages + b.pages }) ≡ memory_map (pages_of (drop i rs))
map_grown rs i k r [] b d a h e is f some g q t = absurd (omega arith)
map_grown rs i k r (c ∷ es) b d a h e is f some g q t =
    let first : should_be_one (block_of_run r) c ≡ true = ap (λ x. should_be_one (block_of_run r) x) (sym q) ∙ t in
    let count : r.range.pages + b.pages ≡ c.pages + r.range.pages = omega (arith, ap (λ d. d.pages) g) in
    ap (λ n. record (block_of_run r) { pages = n } ∷ es) count
    ∙ sym (cond-true _ (joined_block r c ∷ es) (block_of_run r ∷ c ∷ es) first)
    ∙ ap (with_row_below r.range.pages (page_in r.range.first r)) f
    ∙ sym (map_at rs i k r a h e is)

-- there is no entry yet, or the run does not go on in the first
pub map_first : (rs : List Run) (i k : ℕ) (r : Run) (es : List Descriptor) → AreRuns rs → i < length rs → k ≡ i + 1 → r ≡ get_or rs i r → es ≡ memory_map (pages_of (drop k rs)) → length es ≡ 0 →
    block_of_run r ∷ es ≡ memory_map (pages_of (drop i rs))
map_first rs i k r [] a h e is f none = ap (with_row_below r.range.pages (page_in r.range.first r)) f ∙ sym (map_at rs i k r a h e is)
map_first rs i k r (c ∷ es) a h e is f none = absurd (omega arith)

pub map_apart : (rs : List Run) (i k : ℕ) (r : Run) (es : List Descriptor) (b : Descriptor) → AreRuns rs → i < length rs → k ≡ i + 1 → r ≡ get_or rs i r → es ≡ memory_map (pages_of (drop k rs)) → 0 < length es →
    b ≡ slice_index_or es 0 b → should_be_one (block_of_run r) b ≡ false → block_of_run r ∷ es ≡ memory_map (pages_of (drop i rs))
map_apart rs i k r [] b a h e is f some g t = absurd (omega arith)
map_apart rs i k r (c ∷ es) b a h e is f some g t =
    let first : should_be_one (block_of_run r) c ≡ false = ap (λ d. should_be_one (block_of_run r) d) (sym g) ∙ t in
    sym (cond-false _ (joined_block r c ∷ es) (block_of_run r ∷ c ∷ es) first)
    ∙ ap (with_row_below r.range.pages (page_in r.range.first r)) f
    ∙ sym (map_at rs i k r a h e is)

-- what the first entry comes to
first_end : (rs : List Run) (k : ℕ) → AreRuns rs → AllByRecursion (λ s. s.range.first + s.range.pages ≤ page_count) rs → AllByRecursion (λ b. b.first + b.pages ≤ page_count) (memory_map (pages_of (drop k rs)))
first_end rs zero a e = entries_end_by rs page_count a e
first_end [] (suc k) a e = tt
first_end (r ∷ rs) (suc k) a e = first_end rs k a.2 e.1

pub pages_at_most : (rs : List Run) (k : ℕ) (es : List Descriptor) (b : Descriptor) → AreRuns rs → AllByRecursion (λ s. s.range.first + s.range.pages ≤ page_count) rs → es ≡ memory_map (pages_of (drop k rs)) → 0 < length es →
    b ≡ slice_index_or es 0 b → b.pages ≤ page_count
pages_at_most rs k [] b a e f some g = absurd (omega arith)
pages_at_most rs k (c ∷ es) b a e f some g =
    let ends : AllByRecursion (λ d. d.first + d.pages ≤ page_count) (c ∷ es) = subst (AllByRecursion (λ d. d.first + d.pages ≤ page_count)) (sym f) (first_end rs k a e) in
    omega (arith, ends.0, ap (λ d. d.pages) g)

pub run_end : (rs : List Run) (i : ℕ) (r : Run) → AllByRecursion (λ s. s.range.first + s.range.pages ≤ page_count) rs → i < length rs → r ≡ get_or rs i r → r.range.first + r.range.pages ≤ page_count
run_end rs i r e h is = omega (arith, run_at (λ s. s.range.first + s.range.pages ≤ page_count) rs i r e h, ap (λ s. s.range.first + s.range.pages) is)
