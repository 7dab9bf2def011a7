-- A run that a range cuts in up to three parts, of which the one inside gets a type and an owner.
use Rattle.std.proofs.Common.{◌≡◌, ℕ, ◌+◌, ◌-◌, ◌<◌, ◌≤◌, List, [], ◌∷◌, ◌++◌, length, get_or, take, sym, ap, ap₂, subst, ◌∙◌, append_assoc, append-nil, arith}
use Rattle.std.proofs.lemmas.List.{take_more}
use Rattle.page_ranges.specs.declared.ranges.Owner.{Owner}
use Rattle.page_ranges.specs.declared.ranges.PageRange.{PageRange}
use Rattle.page_ranges.specs.declared.ranges.Run.{Run}
use Rattle.page_ranges.specs.Memory.{Page, row, retyped}
use Rattle.page_ranges.specs.Runs.{page_in, pages_of, AreRuns}
use Rattle.page_ranges.proofs.Retyped.{retyped-append}
use Rattle.page_ranges.proofs.RunLists.{pages_of_run, retyped_run, retyped-all_above, retyped-all_below, retyped-cut, pages_of-append, ends_before, EndBy-higher}
use Rattle.page_ranges.proofs.Members.{all_append_right}
use Rattle.descriptor_table.specs.LeafChanges.{AppendsRetyped, BeginBehind}
use Rattle.descriptor_table.specs.Tables.{AreMaximalUpTo, EndBy}

pub row_none : (ms : List Page) (n : ℕ) (x : Page) → n ≡ 0 → ms ≡ ms ++ row n x
unfolding row
row_none ms n x e = sym (append-nil ms) ∙ ap (λ k. ms ++ row k x) (sym e)

module _ (range : PageRange) (t : ℕ) (o : Owner) where
  -- the three parts, by the pages between which the range lies in the run
  pub three_parts : (r : Run) (low high : ℕ) → r.range.first ≤ low → low ≤ high → high ≤ r.range.first + r.range.pages
      → (r.range.first < low → low ≤ range.first) → (low < high → (range.first ≤ low) × (high ≤ range.first + range.pages)) → (high < r.range.first + r.range.pages → range.first + range.pages ≤ high)
      → retyped range t o (pages_of (r ∷ [])) ≡ row (low - r.range.first) (page_in r.range.first r) ++ row (high - low) (page_in low (retyped_run t o r)) ++ row (r.range.first + r.range.pages - high) (page_in high r)
  three_parts r low high a b c under inside over =
      let p : r.range.first + (low - r.range.first) ≡ low = omega arith in
      let q : r.range.first + (low - r.range.first) + (high - low) ≡ high = omega arith in
      ap (retyped range t o) (append-nil (pages_of_run r))
      ∙ retyped-cut range t o r (low - r.range.first) (high - low) (r.range.first + r.range.pages - high) (omega arith)
      (λ h. omega (arith, under (omega arith))) (λ h. omega (arith, (inside (omega arith)).0)) (λ h. omega (arith, (inside (omega arith)).1)) (λ h. omega (arith, over (omega arith)))
      ∙ ap₂ (λ k l. row (low - r.range.first) (page_in r.range.first r) ++ row (high - low) (page_in k (retyped_run t o r)) ++ row (r.range.first + r.range.pages - high) (page_in l r)) p q

  -- a run that shares no page with the range, put after others
  pub put_below : (r : Run) (old new : List Run) → r.range.first + r.range.pages ≤ range.first → pages_of new ≡ pages_of old ++ pages_of (r ∷ []) → AppendsRetyped range t o (r ∷ []) old new
  put_below r old new h put = put ∙ ap (λ ms. pages_of old ++ ms) (sym (retyped-all_below range t o (r ∷ []) (h, tt)))

  pub put_above : (r : Run) (old new : List Run) → range.first + range.pages ≤ r.range.first → pages_of new ≡ pages_of old ++ pages_of (r ∷ []) → AppendsRetyped range t o (r ∷ []) old new
  put_above r old new h put = put ∙ ap (λ ms. pages_of old ++ ms) (sym (retyped-all_above range t o (r ∷ []) (h, tt)))

  -- the pages of one more run, after those of the runs before it
  pub one_more : (rs : List Run) (i : ℕ) (r : Run) → i < length rs → r ≡ get_or rs i r → (first old new : List Run)
      → AppendsRetyped range t o (take i rs) first old → AppendsRetyped range t o (r ∷ []) old new → AppendsRetyped range t o (take (i + 1) rs) first new
  one_more rs i r h e first old new before put =
      let some = retyped range t o (pages_of (take i rs)) in
      let more : retyped range t o (pages_of (take (i + 1) rs)) ≡ some ++ retyped range t o (pages_of (r ∷ [])) =
      ap (λ ss. retyped range t o (pages_of ss)) (take_more rs i r h) ∙ ap (retyped range t o) (pages_of-append (take i rs) (get_or rs i r ∷ []))
      ∙ retyped-append range t o (pages_of (take i rs)) (pages_of (get_or rs i r ∷ [])) ∙ ap (λ s. some ++ retyped range t o (pages_of (s ∷ []))) (sym e) in
      put ∙ ap (λ ms. ms ++ retyped range t o (pages_of (r ∷ []))) before ∙ append_assoc (pages_of first) some (retyped range t o (pages_of (r ∷ [])))
      ∙ ap (λ ms. pages_of first ++ ms) (sym more)

-- three lists put after a list, one after another
pub put_behind : (p0 p1 p2 p3 a b b' c : List Page) → p1 ≡ p0 ++ a → p2 ≡ p1 ++ b' → b' ≡ b → p3 ≡ p2 ++ c → p3 ≡ p0 ++ (a ++ b ++ c)
put_behind p0 p1 p2 p3 a b b' c e f g h =
    h ∙ ap (λ ys. ys ++ c) (f ∙ ap₂ ◌++◌ e g) ∙ ap (λ ys. ys ++ c) (append_assoc p0 a b) ∙ append_assoc p0 (a ++ b) c

-- what ends with a run ends by the next one
pub up_to_next : (rs ss : List Run) (i : ℕ) (r s : Run) → AreRuns rs → r ≡ get_or rs i r → i + 1 < length rs → s ≡ get_or rs (i + 1) s → AreMaximalUpTo (r.range.first + r.range.pages) ss → AreMaximalUpTo s.range.first ss
up_to_next rs ss i r s runs e h f a =
    (a.0, EndBy-higher (r.range.first + r.range.pages) s.range.first ss (omega (arith, ends_before rs i (i + 1) r s runs (omega arith) h, ap (λ q. q.range.first + q.range.pages) e, ap (λ q. q.range.first) f)) a.1)

-- the pages of one more run, after those of the runs before it
pub run_put_behind : (rs : List Run) (i : ℕ) (r : Run) → i < length rs → r ≡ get_or rs i r → (ms ns : List Page) → ns ≡ ms ++ pages_of (r ∷ []) → ms ≡ pages_of (take i rs) → ns ≡ pages_of (take (i + 1) rs)
run_put_behind rs i r h e ms ns put before =
    put ∙ ap₂ ◌++◌ before (ap (λ s. pages_of (s ∷ [])) e) ∙ sym (ap pages_of (take_more rs i r h) ∙ pages_of-append (take i rs) (get_or rs i r ∷ []))

-- ---- runs after others

-- the last of the runs so far ends by a page by which all of them end
pub last_taken : (rs : List Run) (i end : ℕ) (r : Run) → i < length rs → r ≡ get_or rs i r → EndBy end (take (i + 1) rs) → r.range.first + r.range.pages ≤ end
last_taken rs i end r h e a = omega (arith, (all_append_right (λ q. q.range.first + q.range.pages ≤ end) (take i rs) (get_or rs i r ∷ []) (subst (EndBy end) (take_more rs i r h) a)).0, ap (λ q. q.range.first + q.range.pages) e)

pub behind_none : (rs : List Run) → BeginBehind [] rs
behind_none [] = tt
behind_none (r ∷ rs) = (tt, behind_none rs)
