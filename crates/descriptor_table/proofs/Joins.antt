-- Runs put after others, joined to the last where the two should be one.
use Rattle.std.proofs.Common.{◌≡◌, ℕ, zero, suc, ◌+◌, ◌<◌, ◌≤◌, true, false, List, [], ◌∷◌, ◌++◌, length, get_or, refl, sym, ap, ap₂, subst, ◌∙◌, append_assoc, append-nil, arith}
use Rattle.std.proofs.Math.ListN.{set}
use Rattle.std.proofs.lemmas.List.{get_or_default}
use Rattle.std.specs.List.{AllByRecursion}
use Rattle.page_ranges.specs.declared.ranges.Run.{Run}
use Rattle.page_ranges.specs.Memory.{row}
use Rattle.page_ranges.specs.Runs.{page_in, pages_of, should_be_one_run, IsApartRun, AreMaximalRuns}
use Rattle.page_ranges.proofs.Rows.{row-cut}
use Rattle.page_ranges.proofs.MaximalRuns.{AreOne, one_run_parts}
use Rattle.page_ranges.proofs.RunLists.{run_at, EndBy-higher}
use Rattle.descriptor_table.specs.Tables.{AreMaximalUpTo}

-- a run with more pages at its end
abbrev pub longer : Run → ℕ → Run
longer r n = record { range = record { first = r.range.first; pages = r.range.pages + n }; mtype = r.mtype; attributes = r.attributes; owner = r.owner }

-- ---- the last run grows

one_page : (r s : Run) → AreOne r s → page_in (r.range.first + r.range.pages) r ≡ page_in s.range.first s
one_page r s same = λ i. record { number = same.next i; mtype = same.mtype i; attributes = same.attributes i; owner = same.owner i }

longer-pages : (r s : Run) → AreOne r s → row (r.range.pages + s.range.pages) (page_in r.range.first r) ≡ row r.range.pages (page_in r.range.first r) ++ row s.range.pages (page_in s.range.first s)
longer-pages r s same =
    row-cut r.range.pages s.range.pages (page_in r.range.first r) ∙ ap (λ y. row r.range.pages (page_in r.range.first r) ++ row s.range.pages y) (one_page r s same)

all_set : (P : Run → Type 0) (rs : List Run) (i : ℕ) (r : Run) → AllByRecursion P rs → P r → AllByRecursion P (set rs i r)
all_set P [] i r a h = tt
all_set P (q ∷ qs) zero r a h = (h, a.1)
all_set P (q ∷ qs) (suc i) r a h = (a.0, all_set P qs i r a.1 h)

module _ (x : Run) where
  grown : (rs : List Run) (i : ℕ) (d : Run) → i + 1 ≡ length rs → should_be_one_run (get_or rs i d) x ≡ true → pages_of (set rs i (longer (get_or rs i d) x.range.pages)) ≡ pages_of rs ++ pages_of (x ∷ [])
  grown [] i d n one = absurd (omega arith)
  grown (q ∷ []) zero d n one = simp append-nil (longer-pages q x (one_run_parts q x one))
  grown (q ∷ q' ∷ qs) zero d n one = absurd (omega arith)
  grown (q ∷ qs) (suc i) d n one = ap (λ ys. row q.range.pages (page_in q.range.first q) ++ ys) (grown qs i d (omega arith) one) ∙ sym (append_assoc (row q.range.pages (page_in q.range.first q)) (pages_of qs) (pages_of (x ∷ [])))

  pub grown-pages : (rs : List Run) (i : ℕ) (r : Run) → i + 1 ≡ length rs → r ≡ get_or rs i r → should_be_one_run r x ≡ true → pages_of (set rs i (longer r x.range.pages)) ≡ pages_of rs ++ pages_of (x ∷ [])
  grown-pages rs i r n e one = ap (λ s. pages_of (set rs i (longer s x.range.pages))) e ∙ grown rs i r n (sym (ap (λ s. should_be_one_run s x) e) ∙ one)

  -- the last run with its number of pages alone changed
  pub last_grows : (rs : List Run) (i : ℕ) (r c d : Run) → i < length rs → r ≡ get_or rs i r
      → set rs i (record { range = record { first = (get_or rs i c).range.first; pages = (get_or rs i d).range.pages + x.range.pages }; mtype = (get_or rs i c).mtype; attributes = (get_or rs i c).attributes; owner = (get_or rs i c).owner })
      ≡ set rs i (longer r x.range.pages)
  last_grows rs i r c d h e =
      ap₂ (λ (s t : Run). set rs i (record { range = record { first = s.range.first; pages = t.range.pages + x.range.pages }; mtype = s.mtype; attributes = s.attributes; owner = s.owner })) (get_or_default rs i c r h ∙ sym e) (get_or_default rs i d r h ∙ sym e)

  apart_set : (q : Run) (rs : List Run) (i : ℕ) (d : Run) → IsApartRun q rs → IsApartRun q (set rs i (longer (get_or rs i d) x.range.pages))
  apart_set q [] i d a = tt
  apart_set q (s ∷ ss) zero d a = a
  apart_set q (s ∷ ss) (suc i) d a = a

  maximal_set : (rs : List Run) (i : ℕ) (d : Run) → i + 1 ≡ length rs → AreMaximalRuns rs → AreMaximalRuns (set rs i (longer (get_or rs i d) x.range.pages))
  maximal_set [] i d n a = tt
  maximal_set (q ∷ []) zero d n a = (omega (arith, a.0), tt, tt, tt)
  maximal_set (q ∷ q' ∷ qs) zero d n a = absurd (omega arith)
  maximal_set (q ∷ qs) (suc i) d n a =
      (a.0, all_set (λ s. q.range.first + q.range.pages ≤ s.range.first) qs i (longer (get_or qs i d) x.range.pages) a.1 (run_at (λ s. q.range.first + q.range.pages ≤ s.range.first) qs i d a.1 (omega arith)), apart_set q qs i d a.2, maximal_set qs i d (omega arith) a.3)

  pub grown-order : (rs : List Run) (i : ℕ) (r : Run) → i + 1 ≡ length rs → r ≡ get_or rs i r → should_be_one_run r x ≡ true → AreMaximalUpTo x.range.first rs → AreMaximalUpTo (x.range.first + x.range.pages) (set rs i (longer r x.range.pages))
  grown-order rs i r n e one a =
      let P : Run → Type 0 = λ s. AreMaximalRuns (set rs i (longer s x.range.pages)) in
      let same = one_run_parts r x one in
      (subst P (sym e) (maximal_set rs i r n a.0), all_set (λ s. s.range.first + s.range.pages ≤ x.range.first + x.range.pages) rs i (longer r x.range.pages) (EndBy-higher x.range.first (x.range.first + x.range.pages) rs (omega arith) a.1) (omega (arith, same.next)))

  -- ---- one more run

  -- the run does not go on in the last one
  pub IsApartFromLast : List Run → Type 0
  IsApartFromLast rs = (i : ℕ) (d : Run) → i + 1 ≡ length rs → should_be_one_run (get_or rs i d) x ≡ false

  all_last : (P : Run → Type 0) (rs : List Run) → AllByRecursion P rs → P x → AllByRecursion P (rs ++ x ∷ [])
  all_last P [] a h = (h, tt)
  all_last P (q ∷ qs) a h = (a.0, all_last P qs a.1 h)

  apart_last : (q : Run) (rs : List Run) → IsApartFromLast (q ∷ rs) → IsApartRun q rs → IsApartRun q (rs ++ x ∷ [])
  unfolding IsApartFromLast
  apart_last q [] f a = f 0 q refl
  apart_last q (s ∷ ss) f a = a

  maximal_last : (rs : List Run) → AreMaximalUpTo x.range.first rs → 0 < x.range.pages → IsApartFromLast rs → AreMaximalRuns (rs ++ x ∷ [])
  unfolding IsApartFromLast
  maximal_last [] a some f = (some, tt, tt, tt)
  maximal_last (q ∷ qs) a some f =
      (a.0.0, all_last (λ s. q.range.first + q.range.pages ≤ s.range.first) qs a.0.1 a.1.0, apart_last q qs f a.0.2, maximal_last qs (a.0.3, a.1.1) some (λ i d n. f (suc i) d (omega arith)))

  pub pushed-order : (rs ss : List Run) → ss ≡ rs ++ x ∷ [] → AreMaximalUpTo x.range.first rs → 0 < x.range.pages → IsApartFromLast rs → AreMaximalUpTo (x.range.first + x.range.pages) ss
  pushed-order rs ss e a some f =
      subst (AreMaximalUpTo (x.range.first + x.range.pages)) (sym e)
      (maximal_last rs a some f, all_last (λ s. s.range.first + s.range.pages ≤ x.range.first + x.range.pages) rs (EndBy-higher x.range.first (x.range.first + x.range.pages) rs (omega arith) a.1) (omega arith))

  pub apart_none : (rs : List Run) → length rs ≡ 0 → IsApartFromLast rs
  unfolding IsApartFromLast
  apart_none rs e i d n = absurd (omega arith)

  pub apart_one : (rs : List Run) (i : ℕ) (r : Run) → i + 1 ≡ length rs → r ≡ get_or rs i r → should_be_one_run r x ≡ false → IsApartFromLast rs
  unfolding IsApartFromLast
  apart_one rs i r n e f j d m =
      let h : i < length rs = omega arith in
      let k : j ≡ i = omega arith in
      ap (λ l. should_be_one_run (get_or rs l d) x) k ∙ ap (λ s. should_be_one_run s x) (get_or_default rs i d r h ∙ sym e) ∙ f
