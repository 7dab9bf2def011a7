-- The runs of a memory after a placement.
use Rattle.std.proofs.Common.{◌≡◌, ℕ, ◌+◌, ◌-◌, ◌<◌, ◌≤◌, List, [], ◌∷◌, ◌++◌, length, get_or, take, append_assoc, sym, ap, ap₂, ◌∙◌, arith}
use Rattle.std.proofs.lemmas.List.{append-nil, take_more}
use Rattle.page_ranges.specs.declared.ranges.Owner.{Owner}
use Rattle.page_ranges.specs.declared.ranges.PageRange.{PageRange}
use Rattle.page_ranges.specs.declared.ranges.Run.{Run}
use Rattle.page_ranges.specs.MemoryTypes.{attributes_as}
use Rattle.page_ranges.specs.Memory.{Page, row, retyped}
use Rattle.page_ranges.specs.Runs.{page_in, pages_of, AreRuns}
use Rattle.page_ranges.proofs.Members.{all_append}
use Rattle.page_ranges.proofs.Retyped.{retyped-append}
use Rattle.page_ranges.proofs.RunLists.{pages_of_run, pages_of-last, part, retyped_run, retyped-cut_at, runs-append, EndBy-higher, ends_before}
use Rattle.plain_search.specs.RunsBy.{AreRunsBy}

-- ---- one part more

pub none_pushed : (rs : List Run) (first end : ℕ) (r : Run) → first ≡ end → pages_of rs ≡ pages_of rs ++ row (end - first) (page_in first r)
unfolding row
none_pushed rs first end r e =
    let none : end - first ≡ 0 = omega arith in
    sym (ap (λ n. pages_of rs ++ row n (page_in first r)) none ∙ append-nil (pages_of rs))

pub by_more : (n k : ℕ) (rs : List Run) → n ≤ k → AreRunsBy n rs → AreRunsBy k rs
by_more n k rs h a = record { order = a.order; ends = EndBy-higher n k rs h a.ends }

pub part_pushed : (rs : List Run) (first end : ℕ) (r : Run) → AreRunsBy first rs → first < end → AreRunsBy end (rs ++ part first (end - first) r ∷ [])
part_pushed rs first end r a h = record {
  order = runs-append first rs (part first (end - first) r ∷ []) a.order a.ends (omega arith, tt, tt) (omega arith, tt);
  ends = all_append (λ s. s.range.first + s.range.pages ≤ end) rs (part first (end - first) r ∷ []) (EndBy-higher first end rs (omega arith) a.ends) (omega arith, tt);
}

-- ---- one run more

joined : (before one two three x y z : List Page) → one ≡ before ++ x → two ≡ one ++ y → three ≡ two ++ z → three ≡ before ++ (x ++ y ++ z)
joined before one two three x y z e f g = g ∙ ap (λ ys. ys ++ z) (f ∙ ap (λ ys. ys ++ y) e ∙ append_assoc before x y) ∙ append_assoc before (x ++ y) z

one_run_more : (range : PageRange) (t : ℕ) (o : Owner) (rs : List Run) (i : ℕ) (r : Run) → i < length rs → r ≡ get_or rs i r → retyped range t o (pages_of (take i rs)) ++ retyped range t o (pages_of_run r) ≡ retyped range t o (pages_of (take (i + 1) rs))
one_run_more range t o rs i r h e =
    let took = ap pages_of (take_more rs i r h) ∙ ap (λ s. pages_of (take i rs ++ s ∷ [])) (sym e) ∙ pages_of-last (take i rs) r in
    sym (ap (retyped range t o) took ∙ retyped-append range t o (pages_of (take i rs)) (pages_of_run r))

-- the three parts of a run, the middle one with other attributes that are equal to those it is to have
pub parts_placed : (range : PageRange) (t attributes : ℕ) (o : Owner) (rs : List Run) (i : ℕ) (r : Run) (low high end : ℕ) → i < length rs → r ≡ get_or rs i r → attributes ≡ attributes_as t r.attributes →
    r.range.first ≤ low → low ≤ high → high ≤ end → end ≡ r.range.first + r.range.pages →
    (r.range.first < low → low ≤ range.first) → (low < high → range.first ≤ low) → (low < high → high ≤ range.first + range.pages) → (high < end → range.first + range.pages ≤ high) →
    (before one two three : List Page) → before ≡ retyped range t o (pages_of (take i rs)) → one ≡ before ++ row (low - r.range.first) (page_in r.range.first r) →
    two ≡ one ++ row (high - low) (record { number = low; mtype = t; attributes = attributes; owner = o }) → three ≡ two ++ row (end - high) (page_in high r) → three ≡ retyped range t o (pages_of (take (i + 1) rs))
parts_placed range t attributes o rs i r low high end h is same f g k e below in_low in_high above before one two three w x y z =
    let middle = y ∙ ap (λ (a : ℕ). one ++ row (high - low) (record { number = low; mtype = t; attributes = a; owner = o })) same in
    joined before one two three (row (low - r.range.first) (page_in r.range.first r)) (row (high - low) (page_in low (retyped_run t o r))) (row (end - high) (page_in high r)) x middle z
    ∙ ap₂ ◌++◌ w (sym (retyped-cut_at range t o r low high end f g k e below in_low in_high above))
    ∙ one_run_more range t o rs i r h is

-- the runs before an index end by the first page of the run there
pub next_up : (rs : List Run) (i j : ℕ) (r s : Run) (out : List Run) (end : ℕ) → AreRuns rs → j ≡ i + 1 → j < length rs → r ≡ get_or rs i r → s ≡ get_or rs j s → end ≡ r.range.first + r.range.pages → AreRunsBy end out → AreRunsBy s.range.first out
next_up rs i j r s out end a e h is js f by =
    by_more end s.range.first out (omega (arith, ends_before rs i j r s a (omega arith) h, ap (λ q. q.range.first + q.range.pages) is, ap (λ q. q.range.first) js)) by
