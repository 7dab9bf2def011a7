-- Runs that have the first run and the last one of others.
use Rattle.std.specs.Prelude.{slice_get}
use Rattle.std.proofs.Common.{◌≡◌, ℕ, zero, suc, ◌+◌, ◌-◌, ◌<◌, Bool, List, [], ◌∷◌, ◌++◌, Some, length, length-append, length-drop, take, drop, refl, sym, ap, ◌∙◌, arith}
use Rattle.page_ranges.specs.declared.ranges.Run.{Run}
use Rattle.page_ranges.specs.Runs.{AreRuns}
use Rattle.page_ranges.proofs.RunLists.{runs-left, runs-right}
use Rattle.page_ranges.proofs.RunMaps.{runs_join}
use Rattle.descriptor_table.specs.LeafBorders.{HasEndsOf}
use Rattle.descriptor_table.specs.Leaves.{entry_count}
use Rattle.descriptor_table.proofs.Meetings.{count-append, last_run, meet, meet-append, one_if}

first_of : (low : ℕ) (rs ps : List Run) → 0 < low → low < length rs → slice_get (take low rs ++ ps) 0 ≡ slice_get rs 0
first_of low [] ps h k = absurd (omega arith)
first_of zero (r ∷ rs) ps h k = absurd (omega arith)
first_of (suc low) (r ∷ rs) ps h k = refl

after_get : (ps rs : List Run) (i k : ℕ) → k ≡ length ps + i → slice_get (ps ++ rs) k ≡ slice_get rs i
after_get [] rs i k e = let same : k ≡ i = omega arith in ap (slice_get rs) same
after_get (p ∷ ps) rs i zero e = absurd (omega arith)
after_get (p ∷ ps) rs i (suc k) e = after_get ps rs i k (omega arith)

dropped_get : (rs : List Run) (n i k : ℕ) → k ≡ n + i → slice_get (drop n rs) i ≡ slice_get rs k
dropped_get [] zero i k e = refl
dropped_get [] (suc n) i k e = refl
dropped_get (r ∷ rs) zero i k e = let same : i ≡ k = omega arith in ap (slice_get (r ∷ rs)) same
dropped_get (r ∷ rs) (suc n) i zero e = absurd (omega arith)
dropped_get (r ∷ rs) (suc n) i (suc k) e = dropped_get rs n i k (omega arith)

-- parts in the place of runs between the first and the last
pub same_ends : (rs parts new : List Run) (low high : ℕ) → 0 < low → high < length rs → new ≡ take low rs ++ (parts ++ drop high rs) → low < length rs → HasEndsOf rs new
same_ends rs parts new low high h k e small =
    let front = take low rs in
    let back = drop high rs in
    let size = length-drop high rs in
    record {
      first = ap (λ ns. slice_get ns 0) e ∙ first_of low rs (parts ++ back) h small;
      last =
          let whole : length new ≡ length front + (length parts + length back) = omega (arith, ap length e, length-append front (parts ++ back), length-append parts back) in
          ap (λ ns. slice_get ns (length new - 1)) e ∙ after_get front (parts ++ back) (length parts + (length back - 1)) (length new - 1) (omega (arith, whole, size, k))
          ∙ after_get parts back (length back - 1) (length parts + (length back - 1)) (omega arith) ∙ dropped_get rs high (length back - 1) (length rs - 1) (omega (arith, size, k));
    }

-- ---- where two lists meet

get_last : (x : Run) (xs : List Run) (k : ℕ) → k + 1 ≡ length (x ∷ xs) → slice_get (x ∷ xs) k ≡ Some (last_run x xs)
get_last x [] zero e = refl
get_last x [] (suc k) e = absurd (omega arith)
get_last x (y ∷ xs) zero e = absurd (omega arith)
get_last x (y ∷ xs) (suc k) e = get_last y xs k (omega arith)

meet_first : (test : Run → Run → Bool) (before rs ss : List Run) → slice_get ss 0 ≡ slice_get rs 0 → meet test before ss ≡ meet test before rs
meet_first test [] rs ss e = refl
meet_first test (b ∷ before) [] [] e = refl
meet_first test (b ∷ before) [] (s ∷ ss) e = absurd cc
meet_first test (b ∷ before) (r ∷ rs) [] e = absurd cc
meet_first test (b ∷ before) (r ∷ rs) (s ∷ ss) e = let same : s ≡ r = cc in ap (test (last_run b before)) same

meet_last : (test : Run → Run → Bool) (rs ss after : List Run) → 0 < length rs → 0 < length ss → slice_get ss (length ss - 1) ≡ slice_get rs (length rs - 1) → meet test ss after ≡ meet test rs after
meet_last test [] ss after h k e = absurd (omega arith)
meet_last test (r ∷ rs) [] after h k e = absurd (omega arith)
meet_last test (r ∷ rs) (s ∷ ss) [] h k e = refl
meet_last test (r ∷ rs) (s ∷ ss) (b ∷ after) h k e =
    let one = get_last s ss (length (s ∷ ss) - 1) (omega arith) in
    let two = get_last r rs (length (r ∷ rs) - 1) (omega arith) in
    let both = sym one ∙ e ∙ two in
    let same : last_run s ss ≡ last_run r rs = cc in
    ap (λ q. test q b) same

-- Runs that give way to others with their ends: the entries before and after them go on as they did.
pub inside_count : (before rs ss after : List Run) → AreRuns (before ++ (rs ++ after)) → AreRuns (before ++ (ss ++ after)) → 0 < length rs → 0 < length ss → HasEndsOf rs ss → entry_count (before ++ (ss ++ after)) + entry_count rs ≡ entry_count (before ++ (rs ++ after)) + entry_count ss
inside_count before [] ss after a b h k ends = absurd (omega arith)
inside_count before (r ∷ rs) [] after a b h k ends = absurd (omega arith)
inside_count before (r ∷ rs) (s ∷ ss) after a b h k ends =
    let back = runs-right before ((r ∷ rs) ++ after) a in
    let new_back = runs-right before ((s ∷ ss) ++ after) b in
    let front = runs-left before ((r ∷ rs) ++ after) a in
    let tail = runs-right (r ∷ rs) after back in
    omega (
      arith,
      count-append before ((r ∷ rs) ++ after) front back,
      count-append before ((s ∷ ss) ++ after) front new_back,
      count-append (r ∷ rs) after (runs-left (r ∷ rs) after back) tail,
      count-append (s ∷ ss) after (runs-left (s ∷ ss) after new_back) tail,
      ap one_if (meet-append runs_join before r rs after),
      ap one_if (meet-append runs_join before s ss after),
      ap one_if (meet_first runs_join before (r ∷ rs) (s ∷ ss) ends.first),
      ap one_if (meet_last runs_join (r ∷ rs) (s ∷ ss) after h k ends.last),
    )
