-- A window of a table's runs whose runs are replaced by the same pages, retyped.
use Rattle.std.specs.List.{AllByRecursion}
use Rattle.std.proofs.Common.{◌≡◌, ℕ, ◌+◌, ◌-◌, ◌<◌, ◌≤◌, List, [], ◌∷◌, ◌++◌, take, drop, Option, Some, None, inl, inr, refl, sym, ap, ap₂, subst, ◌∙◌, append_assoc, arith}
use Rattle.std.proofs.lemmas.Bool.{cases_lt}
use Rattle.std.proofs.lemmas.List.{take-append-drop, drop-drop}
use Rattle.page_ranges.specs.declared.ranges.Owner.{Owner}
use Rattle.page_ranges.specs.declared.ranges.Owner.TheVariants.{Given}
use Rattle.page_ranges.specs.declared.ranges.PageRange.{PageRange}
use Rattle.page_ranges.specs.declared.ranges.Run.{Run}
use Rattle.page_ranges.specs.MemoryTypes.{conventional, page_count}
use Rattle.page_ranges.specs.Memory.{Page, page_at, retyped, IsPresent, IsProperPage, IsProperMemory, AllInRange}
use Rattle.page_ranges.specs.Runs.{pages_of, AreRuns, AreMaximalRuns}
use Rattle.page_ranges.proofs.Lookups.{page_at-all, page_at-number, page_at-append_absent}
use Rattle.page_ranges.proofs.Members.{all_implied, all_append_left, all_append_right}
use Rattle.page_ranges.proofs.Retyped.{changed, changed_below, changed_above, retyped-append, retyped-proper}
use Rattle.page_ranges.proofs.RunLists.{pages_of-append, page_at-below_runs, retyped-all_above, retyped-all_below}
use Rattle.page_ranges.proofs.MaximalRuns.{maximal_are_runs}
use Rattle.descriptor_table.specs.Tables.{EndBy, IsTable}
use Rattle.descriptor_table.specs.Leaves.{entry_count}
use Rattle.descriptor_table.proofs.Meetings.{maximal-left, maximal-right}
use Rattle.descriptor_table.proofs.Ends.{page_at-past_all}
use Rattle.descriptor_table.proofs.Replaced.{IsReplacement, replaced}
use Rattle.descriptor_table.proofs.TableFacts.{proper_ends, table_runs}

-- ---- a range of present pages

present_page : (o : Option Page) → IsPresent o → (x : Page) × (o ≡ Some x)
present_page None h = absurd h
present_page (Some x) h = (x, refl)

-- a range of present pages ends where page numbers end, or below
pub present_within : (m : List Page) (range : PageRange) → IsProperMemory m → 0 < range.pages → AllInRange m range IsPresent → range.first + range.pages ≤ page_count
present_within m range proper some present =
    let k = range.first + range.pages - 1 in
    let x = present_page (page_at m k) (present k (omega arith) (omega arith)) in
    let p = page_at-all IsProperPage m k x.0 proper.each x.1 in
    omega (arith, p.number, page_at-number m k x.0 x.1)

-- ---- the parts of the runs

module _ (rs : List Run) (low high : ℕ) where
  abbrev pub before : List Run
  before = take low rs

  abbrev pub window : List Run
  window = take (high - low) (drop low rs)

  abbrev pub behind : List Run
  behind = drop high rs

  pub three_parts : low ≤ high → rs ≡ before ++ (window ++ behind)
  three_parts h =
      let rest : drop (high - low) (drop low rs) ≡ drop high rs = drop-drop (high - low) low rs ∙ ap (λ k. drop k rs) (let e : low + (high - low) ≡ high = omega arith in e) in
      sym (take-append-drop low rs) ∙ ap (λ ys. take low rs ++ ys) (sym (take-append-drop (high - low) (drop low rs)) ∙ ap (λ ys. window ++ ys) rest)

-- ---- what follows for a table

-- The runs of a table in three parts. What comes before the middle ends below a range, and what comes after it begins above
-- the range.
pub record AreCut (rs : List Run) (range : PageRange) (before_runs old behind_runs : List Run) : Type 0 where
  pub parts : rs ≡ before_runs ++ (old ++ behind_runs)
  pub below : AllByRecursion (λ r. r.range.first + r.range.pages < range.first) before_runs
  pub above : AllByRecursion (λ r. range.first + range.pages < r.range.first) behind_runs

module _ (rs : List Run) (n : ℕ) (range : PageRange) (t : ℕ) (o : Owner) (table : IsTable rs n) (before_runs old behind_runs : List Run) (w : AreCut rs range before_runs old behind_runs) where
  maximal_parts : AreMaximalRuns (before_runs ++ (old ++ behind_runs))
  maximal_parts = subst AreMaximalRuns w.parts table.maximal

  ends_parts : EndBy page_count (before_runs ++ (old ++ behind_runs))
  ends_parts = subst (EndBy page_count) w.parts (proper_ends rs (table_runs rs n table) table.proper)

  pub old_runs : AreRuns old
  old_runs = maximal_are_runs old (maximal-left old behind_runs (maximal-right before_runs (old ++ behind_runs) maximal_parts))

  pub old_maximal : AreMaximalRuns old
  old_maximal = maximal-left old behind_runs (maximal-right before_runs (old ++ behind_runs) maximal_parts)

  pub old_ends : EndBy page_count old
  old_ends = all_append_left (λ r. r.range.first + r.range.pages ≤ page_count) old behind_runs (all_append_right (λ r. r.range.first + r.range.pages ≤ page_count) before_runs (old ++ behind_runs) ends_parts)

  old_pages : pages_of rs ≡ pages_of before_runs ++ (pages_of old ++ pages_of behind_runs)
  old_pages = ap pages_of w.parts ∙ pages_of-append before_runs (old ++ behind_runs) ∙ ap (λ m. pages_of before_runs ++ m) (pages_of-append old behind_runs)

  retyped_before : retyped range t o (pages_of before_runs) ≡ pages_of before_runs
  retyped_before = retyped-all_below range t o before_runs (all_implied (λ r. r.range.first + r.range.pages < range.first) (λ r. r.range.first + r.range.pages ≤ range.first) (λ r h. omega arith) before_runs w.below)

  retyped_behind : retyped range t o (pages_of behind_runs) ≡ pages_of behind_runs
  retyped_behind = retyped-all_above range t o behind_runs (all_implied (λ r. range.first + range.pages < r.range.first) (λ r. range.first + range.pages ≤ r.range.first) (λ r h. omega arith) behind_runs w.above)

  -- a present page of the range is one of the window's
  window_is_some : old ≡ [] → (k : ℕ) → range.first ≤ k → k < range.first + range.pages → page_at (pages_of rs) k ≡ None
  window_is_some e k l u =
      let none_before = page_at-past_all before_runs k (all_implied (λ r. r.range.first + r.range.pages < range.first) (λ r. r.range.first + r.range.pages ≤ k) (λ r h. omega arith) before_runs w.below) in
      let none_behind = page_at-below_runs behind_runs k (all_implied (λ r. range.first + range.pages < r.range.first) (λ r. k < r.range.first) (λ r h. omega arith) behind_runs w.above) in
      ap (λ m. page_at m k) (old_pages ∙ ap (λ ss. pages_of before_runs ++ (pages_of ss ++ pages_of behind_runs)) e)
      ∙ page_at-append_absent (pages_of before_runs) (pages_of behind_runs) k none_before ∙ none_behind

  module _ (some : 0 < range.pages) (present : AllInRange (pages_of rs) range IsPresent) (parts : List Run) (maximal : AreMaximalRuns parts) (pages : pages_of parts ≡ retyped range t o (pages_of old)) where
    abbrev new : List Run
    new = before_runs ++ (parts ++ behind_runs)

    pub new_pages : pages_of new ≡ retyped range t o (pages_of rs)
    new_pages =
        pages_of-append before_runs (parts ++ behind_runs) ∙ ap (λ m. pages_of before_runs ++ m) (pages_of-append parts behind_runs)
        ∙ ap₂ ◌++◌ (sym retyped_before) (ap₂ ◌++◌ pages (sym retyped_behind) ∙ sym (retyped-append range t o (pages_of old) (pages_of behind_runs)))
        ∙ sym (ap (retyped range t o) old_pages ∙ retyped-append range t o (pages_of before_runs) (pages_of old ++ pages_of behind_runs))

    some_old : old ≡ [] → ⊥
    some_old e =
        let x = present_page (page_at (pages_of rs) range.first) (present range.first (omega arith) (omega arith)) in
        let none = window_is_some e range.first (omega arith) (omega arith) in
        let both = sym none ∙ x.1 in
        cc

    replacement : IsReplacement before_runs old parts behind_runs
    replacement = replaced range t o before_runs behind_runs w.below w.above old parts some_old maximal_parts maximal pages

    pub new_count : entry_count new + entry_count old ≡ n + entry_count parts
    new_count = omega (arith, replacement.count, table.entries, ap entry_count w.parts)

    pub new_runs : AreRuns new
    new_runs = maximal_are_runs new replacement.maximal

    pub new_ends : (t ≡ conventional → o ≡ Given) → EndBy page_count new
    new_ends own = proper_ends new new_runs (subst IsProperMemory (sym new_pages) (retyped-proper range t o own (pages_of rs) table.proper))

    -- the map of all up to any run after the window has as many entries more as that of the window
    pub window_grows : (m k : List Run) → behind_runs ≡ m ++ k → entry_count (before_runs ++ (parts ++ m)) + entry_count old ≡ entry_count (before_runs ++ (old ++ m)) + entry_count parts
    window_grows m k e =
        let cut : before_runs ++ (old ++ (m ++ k)) ≡ (before_runs ++ (old ++ m)) ++ k = simp append_assoc in
        let all = subst AreMaximalRuns (ap (λ xs. before_runs ++ (old ++ xs)) e ∙ cut) maximal_parts in
        let above = all_append_left (λ r. range.first + range.pages < r.range.first) m k (subst (AllByRecursion (λ r. range.first + range.pages < r.range.first)) e w.above) in
        (replaced range t o before_runs m w.below above old parts some_old (maximal-left (before_runs ++ (old ++ m)) k all) maximal pages).count

    pub new_table : (t ≡ conventional → o ≡ Given) → (k : ℕ) → k ≡ n + entry_count parts - entry_count old → IsTable new k
    new_table own k e = record {
      maximal = replacement.maximal;
      proper = subst IsProperMemory (sym new_pages) (retyped-proper range t o own (pages_of rs) table.proper);
      entries = omega (arith, new_count);
    }

    pub parts_runs : AreRuns parts
    parts_runs = maximal_are_runs parts maximal

    pub parts_ends : (t ≡ conventional → o ≡ Given) → EndBy page_count parts
    parts_ends own = all_append_left (λ r. r.range.first + r.range.pages ≤ page_count) parts behind_runs (all_append_right (λ r. r.range.first + r.range.pages ≤ page_count) before_runs (parts ++ behind_runs) (new_ends own))

-- ---- an empty range

pub retyped-empty : (range : PageRange) (t : ℕ) (o : Owner) (m : List Page) → range.pages ≡ 0 → m ≡ retyped range t o m
retyped-empty range t o [] e = refl
retyped-empty range t o (x ∷ m) e =
    let same : changed range t o x ≡ x = elim (cases_lt x.number range.first) [
      | inl l ↦ changed_below range t o x l
      | inr l ↦ changed_above range t o x (omega arith)
    ] in
    ap₂ (λ (y : Page) (ys : List Page). y ∷ ys) (sym same) (retyped-empty range t o m e)
