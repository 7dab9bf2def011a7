-- The middle of maximal runs is replaced by maximal runs of the same pages, retyped. What comes before the middle ends below
-- the range, and what comes after it begins above the range.
use Rattle.std.proofs.Common.{◌≡◌, ℕ, ◌+◌, ◌<◌, ◌≤◌, List, [], ◌∷◌, ◌++◌, length, refl, sym, ap, ◌∙◌, length-append, arith}
use Rattle.std.specs.List.{AllByRecursion}
use Rattle.std.proofs.lemmas.List.{length-map}
use Rattle.page_ranges.specs.declared.ranges.Owner.{Owner}
use Rattle.page_ranges.specs.declared.ranges.PageRange.{PageRange}
use Rattle.page_ranges.specs.declared.ranges.Run.{Run}
use Rattle.page_ranges.specs.Memory.{row, retyped}
use Rattle.page_ranges.specs.Runs.{page_in, pages_of, should_be_one_run, AreRuns, AreMaximalRuns}
use Rattle.page_ranges.proofs.Members.{all_implied, all_append, all_append_right}
use Rattle.page_ranges.proofs.Retyped.{changed}
use Rattle.page_ranges.proofs.Rows.{length-row}
use Rattle.page_ranges.proofs.RunMaps.{runs_join}
use Rattle.page_ranges.proofs.MaximalRuns.{maximal_are_runs}
use Rattle.descriptor_table.specs.Tables.{EndBy}
use Rattle.descriptor_table.specs.Leaves.{entry_count}
use Rattle.descriptor_table.proofs.Meetings.{meet, meet-append, maximal-left, maximal-right, maximal-meet, maximal-append, one_if, count-append, last_run}
use Rattle.descriptor_table.proofs.Ends.{last_end, same_first, same_last, joins_first, one_with_first, last_joins, last_one_with}

last_below : (n : ℕ) (x : Run) (xs : List Run) → AllByRecursion (λ r. r.range.first + r.range.pages < n) (x ∷ xs) → (last_run x xs).range.first + (last_run x xs).range.pages < n
last_below n x [] a = a.0
last_below n x (y ∷ xs) a = last_below n y xs a.1

ends_by_next : (xs : List Run) (y : Run) (ys : List Run) → AreMaximalRuns (xs ++ y ∷ ys) → EndBy y.range.first xs
ends_by_next [] y ys a = tt
ends_by_next (x ∷ xs) y ys a = ((all_append_right (λ s. x.range.first + x.range.pages ≤ s.range.first) xs (y ∷ ys) a.1).0, ends_by_next xs y ys a.3)

begin_behind_last : (x : Run) (xs ys : List Run) → AreMaximalRuns ((x ∷ xs) ++ ys) → AllByRecursion (λ s. (last_run x xs).range.first + (last_run x xs).range.pages ≤ s.range.first) ys
begin_behind_last x [] ys a = a.1
begin_behind_last x (y ∷ xs) ys a = begin_behind_last y xs ys a.3

begin_by_first : (x : Run) (xs : List Run) → AreRuns (x ∷ xs) → AllByRecursion (λ s. x.range.first ≤ s.range.first) (x ∷ xs)
begin_by_first x xs a = (omega arith, all_implied (λ s. x.range.first + x.range.pages ≤ s.range.first) (λ s. x.range.first ≤ s.range.first) (λ s h. omega arith) xs a.1)

-- what a replacement keeps, and how the number of entries changes
pub record IsReplacement (before middle parts behind : List Run) : Type 0 where
  pub maximal : AreMaximalRuns (before ++ (parts ++ behind))
  pub count : entry_count (before ++ (parts ++ behind)) + entry_count middle ≡ entry_count (before ++ (middle ++ behind)) + entry_count parts

module _ (range : PageRange) (t : ℕ) (o : Owner) (before behind : List Run) (below : AllByRecursion (λ r. r.range.first + r.range.pages < range.first) before) (above : AllByRecursion (λ r. range.first + range.pages < r.range.first) behind) where
  module _ (x y : Run) (xs ys : List Run) (a : AreMaximalRuns (before ++ ((x ∷ xs) ++ behind))) (b : AreMaximalRuns (y ∷ ys)) (pages : pages_of (y ∷ ys) ≡ retyped range t o (pages_of (x ∷ xs))) where
    middle_behind : AreMaximalRuns ((x ∷ xs) ++ behind)
    middle_behind = maximal-right before ((x ∷ xs) ++ behind) a

    x_runs : AreRuns (x ∷ xs)
    x_runs = maximal_are_runs (x ∷ xs) (maximal-left (x ∷ xs) behind middle_behind)

    y_runs : AreRuns (y ∷ ys)
    y_runs = maximal_are_runs (y ∷ ys) b

    behind_runs : AreMaximalRuns behind
    behind_runs = maximal-right (x ∷ xs) behind middle_behind

    one_before : (bs : List Run) → AllByRecursion (λ r. r.range.first + r.range.pages < range.first) bs → meet should_be_one_run bs (y ∷ ys) ≡ meet should_be_one_run bs (x ∷ xs)
    one_before [] h = refl
    one_before (r ∷ bs) h = one_with_first range t o x y xs ys x_runs y_runs pages (last_run r bs) (last_below range.first r bs h)

    joins_before : (bs : List Run) → AllByRecursion (λ r. r.range.first + r.range.pages < range.first) bs → meet runs_join bs (y ∷ ys) ≡ meet runs_join bs (x ∷ xs)
    joins_before [] h = refl
    joins_before (r ∷ bs) h = joins_first range t o x y xs ys x_runs y_runs pages (last_run r bs) (last_below range.first r bs h)

    one_behind : (bs : List Run) → AllByRecursion (λ r. range.first + range.pages < r.range.first) bs → meet should_be_one_run (y ∷ ys) bs ≡ meet should_be_one_run (x ∷ xs) bs
    one_behind [] h = refl
    one_behind (r ∷ bs) h = last_one_with range t o x y xs ys x_runs y_runs pages r h.0

    joins_behind : (bs : List Run) → AllByRecursion (λ r. range.first + range.pages < r.range.first) bs → meet runs_join (y ∷ ys) bs ≡ meet runs_join (x ∷ xs) bs
    joins_behind [] h = refl
    joins_behind (r ∷ bs) h = last_joins range t o x y xs ys x_runs y_runs pages r h.0

    first_same : y.range.first ≡ x.range.first
    first_same = same_first range t o x y xs ys x_runs y_runs pages

    last_same : (last_run y ys).range.first + (last_run y ys).range.pages ≡ (last_run x xs).range.first + (last_run x xs).range.pages
    last_same = same_last range t o x y xs ys x_runs y_runs pages

    parts_behind : AreMaximalRuns ((y ∷ ys) ++ behind)
    parts_behind =
        let begin = all_implied (λ s. (last_run x xs).range.first + (last_run x xs).range.pages ≤ s.range.first) (λ s. (last_run y ys).range.first + (last_run y ys).range.pages ≤ s.range.first) (λ s h. omega (arith, last_same)) behind (begin_behind_last x xs behind middle_behind) in
        maximal-append ((last_run y ys).range.first + (last_run y ys).range.pages) (y ∷ ys) behind b (last_end y ys y_runs) behind_runs begin
        (one_behind behind above ∙ maximal-meet (x ∷ xs) behind middle_behind)

    new_maximal : AreMaximalRuns (before ++ ((y ∷ ys) ++ behind))
    new_maximal =
        let behind_begin = all_append_right (λ s. x.range.first ≤ s.range.first) (x ∷ xs) behind (begin_by_first x (xs ++ behind) (maximal_are_runs ((x ∷ xs) ++ behind) middle_behind)) in
        let parts_begin = all_implied (λ s. y.range.first ≤ s.range.first) (λ s. x.range.first ≤ s.range.first) (λ s h. omega (arith, first_same)) (y ∷ ys) (begin_by_first y ys y_runs) in
        maximal-append x.range.first before ((y ∷ ys) ++ behind) (maximal-left before ((x ∷ xs) ++ behind) a) (ends_by_next before x (xs ++ behind) a) parts_behind
        (all_append (λ s. x.range.first ≤ s.range.first) (y ∷ ys) behind parts_begin behind_begin)
        (meet-append should_be_one_run before y ys behind ∙ one_before before below ∙ sym (meet-append should_be_one_run before x xs behind) ∙ maximal-meet before ((x ∷ xs) ++ behind) a)

    new_count : entry_count (before ++ ((y ∷ ys) ++ behind)) + entry_count (x ∷ xs) ≡ entry_count (before ++ ((x ∷ xs) ++ behind)) + entry_count (y ∷ ys)
    new_count =
        let before_runs = maximal_are_runs before (maximal-left before ((x ∷ xs) ++ behind) a) in
        let behind_are = maximal_are_runs behind behind_runs in
        let one = ap one_if (meet-append runs_join before y ys behind ∙ joins_before before below ∙ sym (meet-append runs_join before x xs behind)) in
        let two = ap one_if (joins_behind behind above) in
        omega (
          arith,
          one,
          two,
          count-append before ((x ∷ xs) ++ behind) before_runs (maximal_are_runs ((x ∷ xs) ++ behind) middle_behind),
          count-append (x ∷ xs) behind x_runs behind_are,
          count-append before ((y ∷ ys) ++ behind) before_runs (maximal_are_runs ((y ∷ ys) ++ behind) parts_behind),
          count-append (y ∷ ys) behind y_runs behind_are,
        )

  pub replaced : (middle parts : List Run) → (middle ≡ [] → ⊥) → AreMaximalRuns (before ++ (middle ++ behind)) → AreMaximalRuns parts → pages_of parts ≡ retyped range t o (pages_of middle) → IsReplacement before middle parts behind
  replaced [] parts some a b pages = absurd (some refl)
  replaced (x ∷ xs) [] some a b pages =
      let runs = maximal_are_runs (x ∷ xs) (maximal-left (x ∷ xs) behind (maximal-right before ((x ∷ xs) ++ behind) a)) in
      let row_x = row x.range.pages (page_in x.range.first x) in
      absurd (omega (arith, runs.0, ap length pages ∙ length-map (row_x ++ pages_of xs) (changed range t o), length-append row_x (pages_of xs), length-row x.range.pages (page_in x.range.first x)))
  replaced (x ∷ xs) (y ∷ ys) some a b pages = record { maximal = new_maximal x y xs ys a b pages; count = new_count x y xs ys a b pages }
