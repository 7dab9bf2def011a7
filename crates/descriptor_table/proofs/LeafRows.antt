-- Rows of leaves.
use Rattle.std.proofs.Common.{◌≡◌, ◌≢◌, ℕ, zero, suc, ◌+◌, ◌-◌, ◌<◌, ◌≤◌, Bool, List, [], ◌∷◌, ◌++◌, Vec, length, length-append, length-drop, get_or, take, drop, append-nil, append_assoc, take-append-drop, drop-cons, refl, sym, ap, subst, ◌∙◌, arith}
use Rattle.std.proofs.Math.ListN.{set}
use Rattle.std.proofs.lemmas.List.{get_or_default, get_or-drop, get_or-set_other, get_or-set_same, get_or-take, length-set, length-take-le, set-get_or, take_all, take_at}
use Rattle.page_ranges.specs.declared.ranges.Run.{Run}
use Rattle.page_ranges.specs.MemoryTypes.{page_count}
use Rattle.page_ranges.specs.Runs.{pages_of, AreMaximalRuns, AreRuns}
use Rattle.page_ranges.proofs.Members.{all_append, all_append_left, all_append_right}
use Rattle.page_ranges.proofs.RunLists.{pages_of-append, run_at, runs-left, runs-right}
use Rattle.page_ranges.proofs.RunMaps.{runs_join}
use Rattle.descriptor_table.specs.LeafBorders.{JoinsRuns}
use Rattle.descriptor_table.specs.Leaves.{entry_count, runs_in, AreLeaves, IsLeaf}
use Rattle.descriptor_table.specs.LeafRows.{excess_of, IsRow, JoinsBorder}
use Rattle.descriptor_table.specs.Tables.{EndBy}
use Rattle.descriptor_table.proofs.Begun.{meet_at, meet_behind, runs_with_leaf}
use Rattle.descriptor_table.proofs.LeafLists.{leaf_at, leaf_ends, runs_in-append, runs_in-last}
use Rattle.descriptor_table.proofs.Meetings.{meet, meet-append, one_if, count-append}
use Rattle.descriptor_table.proofs.TableFacts.{few_entries, few_runs}

-- ---- a leaf and the next one

some_in : (ls : List (List Run)) (i : ℕ) (a : List Run) → AreLeaves ls → i < length ls → a ≡ get_or ls i a → 0 < length a
some_in ls i a w h ea = subst (λ l. 0 < length l) (sym ea) (leaf_at ls i a w h).0

-- the last run of a leaf
pub last_end : (ls : List (List Run)) (i : ℕ) (a : List Run) (x : Run) → AreLeaves ls → EndBy page_count (runs_in ls) → i < length ls → a ≡ get_or ls i a → x ≡ get_or a (length a - 1) x → x.range.first + x.range.pages ≤ page_count
last_end ls i a x w e h ea ex =
    let end : EndBy page_count a = subst (EndBy page_count) (sym ea) (leaf_ends page_count ls i a e h) in
    subst (λ r. r.range.first + r.range.pages ≤ page_count) (sym ex) (run_at (λ r. r.range.first + r.range.pages ≤ page_count) a (length a - 1) x end (omega (arith, some_in ls i a w h ea)))

meet_first : (test : Run → Run → Bool) (xs ys zs : List Run) → 0 < length ys → meet test xs (ys ++ zs) ≡ meet test xs ys
meet_first test xs [] zs h = absurd (omega arith)
meet_first test xs (y ∷ ys) zs h = meet-append test xs y ys zs

-- whether an entry goes on from the leaves before an index in those from the index on
pub meet_leaves : (test : Run → Run → Bool) (ls : List (List Run)) (i at : ℕ) (a b : List Run) (x y : Run) → i + 1 ≡ at → at < length ls → AreLeaves ls → a ≡ get_or ls i a → b ≡ get_or ls at b → x ≡ get_or a (length a - 1) x → y ≡ get_or b 0 y → meet test (runs_in (take at ls)) (runs_in (drop at ls)) ≡ test x y
meet_leaves test ls i at a b x y next bound w ea eb ex ey =
    let after : at ≡ suc i = omega arith in
    let some = some_in ls i a w (omega arith) ea in
    let more = some_in ls at b w bound eb in
    let front : runs_in (take at ls) ≡ runs_in (take i ls) ++ a = ap (λ j. runs_in (take j ls)) after ∙ runs_with_leaf [] ls i a (omega arith) ∙ ap (λ l. runs_in (take i ls) ++ l) (sym ea) in
    let back : runs_in (drop at ls) ≡ b ++ runs_in (drop (suc at) ls) = ap runs_in (drop-cons ls at b bound) ∙ ap (λ l. l ++ runs_in (drop (suc at) ls)) (sym eb) in
    rw (front, back) (meet_behind test (runs_in (take i ls)) a (b ++ runs_in (drop (suc at) ls)) some ∙ meet_first test a b (runs_in (drop (suc at) ls)) more ∙ meet_at test a b (length a - 1) x y (omega (arith, some)) more ex ey)

-- the entries of all leaves, by those of the leaves before an index and from it on
pub count_leaves : (ls : List (List Run)) (at : ℕ) → AreRuns (runs_in ls) → entry_count (runs_in ls) + one_if (meet runs_join (runs_in (take at ls)) (runs_in (drop at ls))) ≡ entry_count (runs_in (take at ls)) + entry_count (runs_in (drop at ls))
count_leaves ls at a =
    let parts : runs_in ls ≡ runs_in (take at ls) ++ runs_in (drop at ls) = ap runs_in (sym (take-append-drop at ls)) ∙ runs_in-append (take at ls) (drop at ls) in
    let runs = subst AreRuns parts a in
    ap (λ rs. entry_count rs + one_if (meet runs_join (runs_in (take at ls)) (runs_in (drop at ls)))) parts
    ∙ count-append (runs_in (take at ls)) (runs_in (drop at ls)) (runs-left (runs_in (take at ls)) (runs_in (drop at ls)) runs) (runs-right (runs_in (take at ls)) (runs_in (drop at ls)) runs)

-- ---- a leaf and the next one that change

set_pair : (ls : List (List Run)) (i at : ℕ) (x y : List Run) → i + 1 ≡ at → at < length ls → set (take at ls) i x ++ set (drop at ls) 0 y ≡ set (set ls i x) at y
set_pair [] i at x y e h = absurd (omega arith)
set_pair (l ∷ []) zero at x y e h = absurd (omega arith)
set_pair (l ∷ m ∷ ls) zero zero x y e h = absurd (omega arith)
set_pair (l ∷ m ∷ ls) zero (suc zero) x y e h = refl
set_pair (l ∷ m ∷ ls) zero (suc (suc at)) x y e h = absurd (omega arith)
set_pair (l ∷ ls) (suc i) zero x y e h = absurd (omega arith)
set_pair (l ∷ ls) (suc i) (suc at) x y e h = ap (λ ms. l ∷ ms) (set_pair ls i at x y (omega arith) (omega arith))

taken_pair : (ls : List (List Run)) (i at : ℕ) (x y : List Run) → i + 1 ≡ at → at < length ls → runs_in (take (suc at) (set (set ls i x) at y)) ≡ runs_in (take i ls) ++ (x ++ y)
taken_pair [] i at x y e h = absurd (omega arith)
taken_pair (l ∷ []) zero at x y e h = absurd (omega arith)
taken_pair (l ∷ m ∷ ls) zero zero x y e h = absurd (omega arith)
taken_pair (l ∷ m ∷ ls) zero (suc zero) x y e h = ap (λ rs. x ++ rs) (append-nil y)
taken_pair (l ∷ m ∷ ls) zero (suc (suc at)) x y e h = absurd (omega arith)
taken_pair (l ∷ ls) (suc i) zero x y e h = absurd (omega arith)
taken_pair (l ∷ ls) (suc i) (suc at) x y e h = ap (λ rs. l ++ rs) (taken_pair ls i at x y (omega arith) (omega arith)) ∙ sym (append_assoc l (runs_in (take i ls)) (x ++ y))

-- a leaf and the next one, in the leaves before an index and those from the index on
module _ (ls front back : List (List Run)) (at : ℕ) (d e : List Run) (bound : (0 < at) × (at < length ls)) (is_front : front ≡ take at ls) (is_back : back ≡ drop at ls) where
  abbrev before : List Run
  before = runs_in (take (at - 1) ls)

  abbrev first : List Run
  first = get_or front (at - 1) d

  abbrev next : List Run
  next = get_or back 0 e

  first_is : first ≡ get_or ls (at - 1) d
  first_is = ap (λ ms. get_or ms (at - 1) d) is_front ∙ get_or-take at ls (at - 1) d (omega arith)

  next_is : next ≡ get_or ls at e
  next_is = ap (λ ms. get_or ms 0 e) is_back ∙ get_or-drop at ls 0 e ∙ (let k : at + 0 ≡ at = omega arith in ap (λ i. get_or ls i e) k)

  after : at + 1 ≡ suc at
  after = omega arith

  runs_before : runs_in (take at ls) ≡ before ++ first
  runs_before =
      let k : at ≡ suc (at - 1) = omega (arith, bound.0) in
      ap (λ n. runs_in (take n ls)) k ∙ runs_with_leaf [] ls (at - 1) d (omega (arith, bound.1)) ∙ ap (λ l. before ++ l) (sym first_is)

  runs_old : runs_in (take (at + 1) ls) ≡ before ++ (first ++ next)
  runs_old =
      let same : set (set ls (at - 1) first) at next ≡ ls = ap (λ l. set (set ls (at - 1) l) at next) first_is ∙ ap (λ ms. set ms at next) (set-get_or ls (at - 1) d) ∙ ap (λ l. set ls at l) next_is ∙ set-get_or ls at e in
      ap (λ n. runs_in (take n ls)) after ∙ ap (λ ms. runs_in (take (suc at) ms)) (sym same) ∙ taken_pair ls (at - 1) at first next (omega (arith, bound.0)) bound.1

  runs_all : runs_in ls ≡ (before ++ (first ++ next)) ++ runs_in (drop (at + 1) ls)
  runs_all = ap runs_in (sym (take-append-drop (at + 1) ls)) ∙ runs_in-append (take (at + 1) ls) (drop (at + 1) ls) ∙ ap (λ rs. rs ++ runs_in (drop (at + 1) ls)) runs_old

  runs_there : AreRuns (runs_in ls) → AreRuns (before ++ (first ++ next))
  runs_there r = runs-left (before ++ (first ++ next)) (runs_in (drop (at + 1) ls)) (subst AreRuns runs_all r)

  pub pair_runs : AreRuns (runs_in ls) → AreRuns (first ++ next)
  pair_runs r = runs-right before (first ++ next) (runs_there r)

  pub pair_ends : EndBy page_count (runs_in ls) → EndBy page_count (first ++ next)
  pair_ends a =
      let P : Run → Type 0 = λ r. r.range.first + r.range.pages ≤ page_count in
      all_append_right P before (first ++ next) (all_append_left P (before ++ (first ++ next)) (runs_in (drop (at + 1) ls)) (subst (EndBy page_count) runs_all a))

  -- others instead of the two
  module _ (x y : List Run) where
    abbrev new : List (List Run)
    new = set front (at - 1) x ++ set back 0 y

    new_is : new ≡ set (set ls (at - 1) x) at y
    new_is = ap (λ ms. set ms (at - 1) x ++ set back 0 y) is_front ∙ ap (λ ms. set (take at ls) (at - 1) x ++ set ms 0 y) is_back ∙ set_pair ls (at - 1) at x y (omega (arith, bound.0)) bound.1

    new_first : get_or new (at - 1) [] ≡ x
    new_first =
        let other : at - 1 ≢ at = omega (arith, bound.0) in
        ap (λ ms. get_or ms (at - 1) []) new_is ∙ get_or-set_other (set ls (at - 1) x) at (at - 1) y [] other ∙ get_or-set_same ls (at - 1) x [] (omega (arith, bound.1))

    new_next : get_or new at [] ≡ y
    new_next = ap (λ ms. get_or ms at []) new_is ∙ get_or-set_same (set ls (at - 1) x) at y [] (omega (arith, bound.1, length-set ls (at - 1) x))

    only_pair : new ≡ set (set ls (at - 1) (get_or new (at - 1) [])) at (get_or new at [])
    only_pair = new_is ∙ ap (λ l. set (set ls (at - 1) l) at y) (sym new_first) ∙ ap (λ l. set (set ls (at - 1) (get_or new (at - 1) [])) at l) (sym new_next)

    runs_new : runs_in (take (at + 1) new) ≡ before ++ (x ++ y)
    runs_new = ap (λ ms. runs_in (take (at + 1) ms)) new_is ∙ ap (λ n. runs_in (take n (set (set ls (at - 1) x) at y))) after ∙ taken_pair ls (at - 1) at x y (omega (arith, bound.0)) bound.1

    new_pages : pages_of (x ++ y) ≡ pages_of (first ++ next) → pages_of (runs_in (take (at + 1) new)) ≡ pages_of (runs_in (take (at + 1) ls))
    new_pages p =
        ap pages_of runs_new ∙ pages_of-append before (x ++ y) ∙ ap (λ m. pages_of before ++ m) p ∙ sym (pages_of-append before (first ++ next)) ∙ sym (ap pages_of runs_old)

    new_order : AreMaximalRuns (runs_in (take at ls)) → JoinsRuns first next (x ++ y) → (rest : List Run) → AreMaximalRuns (get_or ls at [] ++ rest) → AreRuns (runs_in (take (at + 1) ls) ++ rest) → AreMaximalRuns (runs_in (take (at + 1) new) ++ rest)
    new_order m j rest n r =
        let leaf : get_or ls at [] ≡ next = sym (next_is ∙ get_or_default ls at e [] bound.1) in
        let there = ap (λ rs. rs ++ rest) runs_old ∙ append_assoc before (first ++ next) rest in
        subst AreMaximalRuns (sym (ap (λ rs. rs ++ rest) runs_new ∙ append_assoc before (x ++ y) rest))
        (j before rest (subst AreMaximalRuns runs_before m) (subst (λ rs. AreMaximalRuns (rs ++ rest)) leaf n) (subst AreRuns there r))

    new_ends : ((n : ℕ) → EndBy n (first ++ next) → EndBy n (x ++ y)) → (n : ℕ) → EndBy n (runs_in (take (at + 1) ls)) → EndBy n (runs_in (take (at + 1) new))
    new_ends f n a =
        let P : Run → Type 0 = λ r. r.range.first + r.range.pages ≤ n in
        let was = subst (EndBy n) runs_old a in
        subst (EndBy n) (sym runs_new) (all_append P before (x ++ y) (all_append_left P before (first ++ next) was) (f n (all_append_right P before (first ++ next) was)))

    -- the border between the two is joined, as a vector of n leaves has it after a write through its slice
    pub joined_border : (n : ℕ) → length ls ≡ n → AreMaximalRuns (runs_in (take at ls)) → pages_of (x ++ y) ≡ pages_of (first ++ next) → JoinsRuns first next (x ++ y)
        → ((k : ℕ) → EndBy k (first ++ next) → EndBy k (x ++ y)) → length x ≡ length first → length y ≤ length next → JoinsBorder at ls (take n (new ++ drop (length new) ls))
    joined_border n size below pages order ends count fewer =
        let length_is = ap length new_is ∙ length-set (set ls (at - 1) x) at y ∙ length-set ls (at - 1) x ∙ size in
        subst (JoinsBorder at ls) (sym (take_at new (drop (length new) ls) n length_is)) record {
          two = only_pair;
          pages = new_pages pages;
          order = new_order below order;
          ends = new_ends ends;
          count = omega (arith, count, ap length new_first, ap length (first_is ∙ get_or_default ls (at - 1) d [] (omega (arith, bound.1))));
          fewer = omega (arith, fewer, ap length new_next, ap length (next_is ∙ get_or_default ls at e [] bound.1));
        }

-- ---- how many runs leaves have beyond the first 16 of each

few_beyond : (ls : List (List Run)) → excess_of ls ≤ length (runs_in ls)
few_beyond [] = omega arith
few_beyond (l ∷ ls) = omega (arith, few_beyond ls, length-append l (runs_in ls))

-- neither the entries of a row nor its excess are more than there are pages
pub few_in_row : {A : Type 0} {leaves spare : Vec (List Run) A} {count beyond : ℕ} {parts : Vec Run A} → IsRow leaves spare count beyond parts → (count ≤ page_count) × (beyond ≤ page_count)
few_in_row {leaves = leaves} row =
    let rs = runs_in leaves.items in
    (omega (arith, row.entries, few_entries rs row.runs row.ends), omega (arith, row.excess, few_beyond leaves.items, few_runs rs row.runs row.ends))

pub excess-append : (ls ms : List (List Run)) → excess_of (ls ++ ms) ≡ excess_of ls + excess_of ms
excess-append [] ms = omega arith
excess-append (l ∷ ls) ms = omega (arith, excess-append ls ms)

-- ---- leaves that are filled

pub all_filled : (filled rest runs : List Run) → length rest ≡ 0 → filled ++ rest ≡ runs → filled ≡ runs
all_filled filled [] runs n e = sym (append-nil filled) ∙ e
all_filled filled (r ∷ rest) runs n e = absurd (omega arith)

-- one more leaf has the first of the runs that are left
module _ (ls new : List (List Run)) (leaf rest : List Run) (count : ℕ) (put : new ≡ ls ++ leaf ∷ []) (is : leaf ≡ take count rest) where
  pub filled_runs : (runs : List Run) (n : ℕ) → length rest ≤ n + count → runs_in ls ++ rest ≡ runs → runs_in new ++ take n (drop count rest) ≡ runs
  filled_runs runs n h e =
      let left : take n (drop count rest) ≡ drop count rest = take_all n (drop count rest) (omega (arith, h, length-drop count rest)) in
      ap (λ rs. runs_in new ++ rs) left ∙ ap (λ ms. runs_in ms ++ drop count rest) put ∙ ap (λ rs. rs ++ drop count rest) (runs_in-last ls leaf ∙ ap (λ l. runs_in ls ++ l) is)
      ∙ append_assoc (runs_in ls) (take count rest) (drop count rest) ∙ ap (λ rs. runs_in ls ++ rs) (take-append-drop count rest) ∙ e

  filled_size : count ≤ length rest → length leaf ≡ count
  filled_size h = ap length is ∙ length-take-le count rest h

  pub filled_leaves : 0 < count → count ≤ 16 → count ≤ length rest → AreLeaves ls → AreLeaves new
  filled_leaves some few h w =
      let size = filled_size h in
      subst AreLeaves (sym put) (all_append IsLeaf ls (leaf ∷ []) w ((omega arith, omega arith), tt))

  pub filled_excess : count ≤ 16 → count ≤ length rest → excess_of ls ≡ 0 → excess_of new ≡ 0
  filled_excess few h e = omega (arith, ap excess_of put, excess-append ls (leaf ∷ []), filled_size h, e)
