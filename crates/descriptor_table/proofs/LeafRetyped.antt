-- The runs of a leaf near a range are replaced by their pages, retyped.
use Rattle.std.proofs.Common.{◌≡◌, ℕ, ◌+◌, ◌-◌, ◌<◌, ◌≤◌, List, [], ◌∷◌, ◌++◌, length, take, drop, refl, sym, ap, ap₂, subst, ◌∙◌, length-append, length-drop, arith}
use Rattle.std.proofs.lemmas.List.{length-map, length-take-le}
use Rattle.page_ranges.specs.declared.ranges.Owner.{Owner}
use Rattle.page_ranges.specs.declared.ranges.PageRange.{PageRange}
use Rattle.page_ranges.specs.declared.ranges.Run.{Run}
use Rattle.page_ranges.specs.Memory.{row, retyped}
use Rattle.page_ranges.specs.Runs.{page_in, pages_of, AreRuns, AreMaximalRuns}
use Rattle.page_ranges.proofs.MaximalRuns.{maximal_are_runs}
use Rattle.page_ranges.proofs.Members.{all_implied, all_append_left, all_append_right}
use Rattle.page_ranges.proofs.Retyped.{changed, retyped-append}
use Rattle.page_ranges.proofs.Rows.{length-row}
use Rattle.page_ranges.proofs.RunLists.{pages_of-append, retyped-all_above, retyped-all_below}
use Rattle.descriptor_table.specs.Leaves.{entry_count}
use Rattle.descriptor_table.specs.Reserves.{cut_count}
use Rattle.descriptor_table.specs.Tables.{EndBy, IsWindow}
use Rattle.descriptor_table.proofs.CutCounts.{cuts-append}
use Rattle.descriptor_table.proofs.Meetings.{maximal-left, maximal-right}
use Rattle.descriptor_table.proofs.Replaced.{IsReplacement, replaced}
use Rattle.descriptor_table.proofs.Splices.{three_parts}

some_pages : (r : Run) (rs : List Run) → 0 < r.range.pages → 0 < length (pages_of (r ∷ rs))
some_pages r rs some =
    let first = row r.range.pages (page_in r.range.first r) in
    omega (arith, length-append first (pages_of rs), length-row r.range.pages (page_in r.range.first r))

module _ (rs : List Run) (range : PageRange) (t : ℕ) (o : Owner) (low high : ℕ) (w : IsWindow rs range low high) (maximal : AreMaximalRuns rs) where
  abbrev before : List Run
  before = take low rs

  abbrev pub gone : List Run
  gone = take (high - low) (drop low rs)

  abbrev after : List Run
  after = drop high rs

  cut : rs ≡ before ++ (gone ++ after)
  cut = three_parts rs low high w.order

  all : AreMaximalRuns (before ++ (gone ++ after))
  all = subst AreMaximalRuns cut maximal

  pub gone_runs : AreRuns gone
  gone_runs = maximal_are_runs gone (maximal-left gone after (maximal-right before (gone ++ after) all))

  pub gone_ends : (n : ℕ) → EndBy n rs → EndBy n gone
  gone_ends n e =
      let parts = subst (EndBy n) cut e in
      all_append_left (λ r. r.range.first + r.range.pages ≤ n) gone after (all_append_right (λ r. r.range.first + r.range.pages ≤ n) before (gone ++ after) parts)

  pub gone_length : length gone ≡ high - low
  gone_length = length-take-le (high - low) (drop low rs) (omega (arith, length-drop low rs, w.order, w.bound))

  pub gone_cuts : cut_count range gone ≤ cut_count range rs
  gone_cuts = omega (arith, ap (cut_count range) cut, cuts-append range before (gone ++ after), cuts-append range gone after)

  module _ (parts : List Run) (order : AreMaximalRuns parts) (pages : pages_of parts ≡ retyped range t o (pages_of gone)) where
    abbrev pub new : List Run
    new = before ++ (parts ++ after)

    replacement : (old ps : List Run) → AreMaximalRuns (before ++ (old ++ after)) → AreMaximalRuns ps → pages_of ps ≡ retyped range t o (pages_of old) → IsReplacement before old ps after
    replacement [] [] a b e = record { maximal = a; count = refl }
    replacement [] (p ∷ ps) a b e = absurd (omega (arith, some_pages p ps b.0, ap length e))
    replacement (r ∷ old) ps a b e = replaced range t o before after w.below w.above (r ∷ old) ps (λ n. absurd (omega (arith, ap length n))) a b e

    here : IsReplacement before gone parts after
    here = replacement gone parts all order pages

    pub new_order : AreMaximalRuns new
    new_order = here.maximal

    pub new_count : entry_count new + entry_count gone ≡ entry_count rs + entry_count parts
    new_count = omega (arith, here.count, ap entry_count cut)

    pub new_pages : pages_of new ≡ retyped range t o (pages_of rs)
    new_pages =
        let below = retyped-all_below range t o before (all_implied (λ r. r.range.first + r.range.pages < range.first) (λ r. r.range.first + r.range.pages ≤ range.first) (λ r h. omega arith) before w.below) in
        let above = retyped-all_above range t o after (all_implied (λ r. range.first + range.pages < r.range.first) (λ r. range.first + range.pages ≤ r.range.first) (λ r h. omega arith) after w.above) in
        let old = ap pages_of cut ∙ pages_of-append before (gone ++ after) ∙ ap (λ m. pages_of before ++ m) (pages_of-append gone after) in
        pages_of-append before (parts ++ after) ∙ ap (λ m. pages_of before ++ m) (pages_of-append parts after)
        ∙ ap₂ ◌++◌ (sym below) (ap₂ ◌++◌ pages (sym above) ∙ sym (retyped-append range t o (pages_of gone) (pages_of after)))
        ∙ sym (ap (retyped range t o) old ∙ retyped-append range t o (pages_of before) (pages_of gone ++ pages_of after))

    pub new_length : length new + (high - low) ≡ length rs + length parts
    new_length = omega (arith, length-append before (parts ++ after), length-append parts after, length-take-le low rs (omega (arith, w.order, w.bound)), length-drop high rs, w.order, w.bound)

    -- there are no parts only if nothing is replaced
    none_gone : (old ps : List Run) → AreMaximalRuns old → pages_of ps ≡ retyped range t o (pages_of old) → length ps ≡ 0 → length old ≡ 0
    none_gone [] ps a e n = refl
    none_gone (r ∷ old) (p ∷ ps) a e n = absurd (omega arith)
    none_gone (r ∷ old) [] a e n = absurd (omega (arith, some_pages r old a.0, ap length e, length-map (pages_of (r ∷ old)) (changed range t o)))

    some_of : (ps : List Run) → (length ps ≡ 0 → length gone ≡ 0) → 0 < length rs → high < length rs + low + length ps
    some_of [] none h = omega (arith, none refl, gone_length, w.order)
    some_of (p ∷ ps) none h = omega (arith, w.bound)

    pub some_left : 0 < length rs → high < length rs + low + length parts
    some_left h = some_of parts (none_gone gone parts (maximal-left gone after (maximal-right before (gone ++ after) all)) pages) h
