-- The maximal runs of a memory.
use Rattle.std.proofs.Common.{◌≡◌, ℕ, zero, suc, ◌+◌, ◌-◌, ◌<◌, ◌≤◌, true, cond, ◌&&◌, eqb, List, [], ◌∷◌, ◌++◌, inl, inr, true≢false, refl, sym, ap, ◌∙◌, arith}
use Rattle.std.specs.List.{AllByRecursion}
use Rattle.std.proofs.lemmas.Bool.{eq-eqb, eqb-true, and_parts, cases_Bool, cond-true, cond-false}
use Rattle.page_ranges.specs.declared.ranges.Owner.{Owner}
use Rattle.page_ranges.specs.declared.ranges.Owner.TheVariants.{Given, Pages, Pool}
use Rattle.page_ranges.specs.declared.ranges.Run.{Run}
use Rattle.page_ranges.specs.Memory.{Page, row, IsAscending}
use Rattle.page_ranges.specs.Runs.{page_in, pages_of, AreRuns, is_same_owner, should_be_one_run, run_of, with_page_below_runs, runs_of, IsApartRun, AreMaximalRuns}
use Rattle.page_ranges.proofs.Lookups.{AllFrom}
use Rattle.page_ranges.proofs.Members.{all_implied}

-- ---- owners

pub same_owner : (o p : Owner) → is_same_owner o p ≡ true → o ≡ p
same_owner Given Given e = refl
same_owner Given Pages e = absurd (true≢false (sym e))
same_owner Given Pool e = absurd (true≢false (sym e))
same_owner Pages Given e = absurd (true≢false (sym e))
same_owner Pages Pages e = refl
same_owner Pages Pool e = absurd (true≢false (sym e))
same_owner Pool Given e = absurd (true≢false (sym e))
same_owner Pool Pages e = absurd (true≢false (sym e))
same_owner Pool Pool e = refl

pub owner_itself : (o : Owner) → is_same_owner o o ≡ true
owner_itself Given = refl
owner_itself Pages = refl
owner_itself Pool = refl

-- ---- two runs that should be one

pub record AreOne (r s : Run) : Type 0 where
  pub next : r.range.first + r.range.pages ≡ s.range.first
  pub mtype : r.mtype ≡ s.mtype
  pub attributes : r.attributes ≡ s.attributes
  pub owner : r.owner ≡ s.owner

pub one_run_parts : (r s : Run) → should_be_one_run r s ≡ true → AreOne r s
one_run_parts r s e =
    let a = and_parts (eqb (r.range.first + r.range.pages) s.range.first && eqb r.mtype s.mtype && eqb r.attributes s.attributes) (is_same_owner r.owner s.owner) e in
    let b = and_parts (eqb (r.range.first + r.range.pages) s.range.first && eqb r.mtype s.mtype) (eqb r.attributes s.attributes) a.0 in
    let c = and_parts (eqb (r.range.first + r.range.pages) s.range.first) (eqb r.mtype s.mtype) b.0 in
    record { next = eqb-true (r.range.first + r.range.pages) s.range.first c.0; mtype = eqb-true r.mtype s.mtype c.1; attributes = eqb-true r.attributes s.attributes b.1; owner = same_owner r.owner s.owner a.1 }

-- ---- from a memory to its runs

firsts_from : (m : List Page) (k : ℕ) → AllFrom k m → AllByRecursion (λ r. k ≤ r.range.first) (runs_of m)
firsts_from [] k a = tt
firsts_from (x ∷ m) k a = go (runs_of m) (firsts_from m k a.1)
  where
    go : (rs : List Run) → AllByRecursion (λ r. k ≤ r.range.first) rs → AllByRecursion (λ r. k ≤ r.range.first) (with_page_below_runs x rs)
    go [] b = (a.0, tt)
    go (r ∷ rs) b = elim (cases_Bool (should_be_one_run (run_of x) r)) [ inl t ↦ rw t (a.0, b.1) | inr f ↦ rw f (a.0, b) ]

-- a page as a run of a number of pages
abbrev run_from : ℕ → Page → Run
run_from n x = record (run_of x) { range = record { first = x.number; pages = n } }

page_keeps_maximal : (x : Page) (rs : List Run) → AllByRecursion (λ r. x.number < r.range.first) rs → AreMaximalRuns rs → AreMaximalRuns (with_page_below_runs x rs)
page_keeps_maximal x [] up a = (omega arith, tt, tt, tt)
page_keeps_maximal x (r ∷ rs) up a = elim (cases_Bool (should_be_one_run (run_of x) r)) [
  | inl t ↦
      let one = one_run_parts (run_of x) r t in
      let end : x.number + (r.range.pages + 1) ≡ r.range.first + r.range.pages = omega (arith, one.next) in
      rw t (
        omega arith,
        all_implied (λ s. r.range.first + r.range.pages ≤ s.range.first) (λ s. x.number + (r.range.pages + 1) ≤ s.range.first) (λ s l. omega (arith, end)) rs a.1,
        still_apart end one.mtype one.attributes one.owner rs a.2,
        a.3,
      )
  | inr f ↦ rw f (omega arith, all_implied (λ s. x.number < s.range.first) (λ s. x.number + 1 ≤ s.range.first) (λ s l. omega arith) (r ∷ rs) up, f, a)
]
  where
    still_apart : x.number + (r.range.pages + 1) ≡ r.range.first + r.range.pages → x.mtype ≡ r.mtype → x.attributes ≡ r.attributes → x.owner ≡ r.owner → (ss : List Run) → IsApartRun r ss → IsApartRun (run_from (r.range.pages + 1) x) ss
    still_apart e f g h [] p = tt
    still_apart e f g h (s ∷ ss) p = rw (e, f, g, h) p

pub runs_of-maximal : (m : List Page) → IsAscending m → AreMaximalRuns (runs_of m)
runs_of-maximal [] a = tt
runs_of-maximal (x ∷ m) a = page_keeps_maximal x (runs_of m) (firsts_from m (suc x.number) a.0) (runs_of-maximal m a.1)

one_page_row : (x : Page) (m : List Page) → row 1 x ++ m ≡ x ∷ m
unfolding row
one_page_row x m = refl

longer_row : (n : ℕ) (x : Page) (m : List Page) → row (n + 1) x ++ m ≡ x ∷ (row n (record x { number = x.number + 1 }) ++ m)
unfolding row
longer_row n x m = let e : n + 1 ≡ suc n = omega arith in ap (λ k. row k x ++ m) e

page_joins_pages : (x : Page) (rs : List Run) → pages_of (with_page_below_runs x rs) ≡ x ∷ pages_of rs
page_joins_pages x [] = one_page_row x []
page_joins_pages x (r ∷ rs) = elim (cases_Bool (should_be_one_run (run_of x) r)) [
  | inl t ↦
      let one = one_run_parts (run_of x) r t in
      let same : record x { number = x.number + 1 } ≡ page_in r.range.first r = λ i. record { number = one.next i; mtype = one.mtype i; attributes = one.attributes i; owner = one.owner i } in
      ap pages_of (cond-true _ (run_from (r.range.pages + 1) x ∷ rs) (run_of x ∷ r ∷ rs) t) ∙ longer_row r.range.pages x (pages_of rs) ∙ ap (λ y. x ∷ (row r.range.pages y ++ pages_of rs)) same
  | inr f ↦ ap pages_of (cond-false _ (run_from (r.range.pages + 1) x ∷ rs) (run_of x ∷ r ∷ rs) f) ∙ one_page_row x (pages_of (r ∷ rs))
]

pub pages_of-runs_of : (m : List Page) → pages_of (runs_of m) ≡ m
pages_of-runs_of [] = refl
pages_of-runs_of (x ∷ m) = page_joins_pages x (runs_of m) ∙ ap (λ ys. x ∷ ys) (pages_of-runs_of m)

-- ---- from maximal runs to their pages and back

-- the runs of a row and of the pages above it, which make these runs
abbrev with_row_below_runs : ℕ → Page → List Run → List Run
with_row_below_runs n x [] = run_from n x ∷ []
with_row_below_runs n x (r ∷ rs) = cond (should_be_one_run (run_from n x) r) (run_from (r.range.pages + n) x ∷ rs) (run_from n x ∷ r ∷ rs)

joins_itself : (x : Page) (k : ℕ) (rs : List Run) → with_page_below_runs x (run_from k (record x { number = x.number + 1 }) ∷ rs) ≡ run_from (k + 1) x ∷ rs
joins_itself x k rs = rw (eq-eqb (x.number + 1) (x.number + 1) refl, eq-eqb x.mtype x.mtype refl, eq-eqb x.attributes x.attributes refl, owner_itself x.owner)

row_grows_run : (x : Page) (n : ℕ) (rs : List Run) → with_page_below_runs x (with_row_below_runs (suc n) (record x { number = x.number + 1 }) rs) ≡ with_row_below_runs (suc (suc n)) x rs
row_grows_run x n [] = joins_itself x (suc n) [] ∙ ap (λ k. run_from k x ∷ []) (let e : suc n + 1 ≡ suc (suc n) = omega arith in e)
row_grows_run x n (r ∷ rs) =
    let ends : x.number + 1 + suc n ≡ x.number + suc (suc n) = omega arith in
    let same : should_be_one_run (run_from (suc n) (record x { number = x.number + 1 })) r ≡ should_be_one_run (run_from (suc (suc n)) x) r =
    ap (λ k. eqb k r.range.first && eqb x.mtype r.mtype && eqb x.attributes r.attributes && is_same_owner x.owner r.owner) ends in
    elim (cases_Bool (should_be_one_run (run_from (suc (suc n)) x) r)) [
      | inl t ↦
          let count : r.range.pages + suc n + 1 ≡ r.range.pages + suc (suc n) = omega arith in
          ap (with_page_below_runs x) (cond-true _ _ _ (same ∙ t)) ∙ joins_itself x (r.range.pages + suc n) rs ∙ ap (λ k. run_from k x ∷ rs) count ∙ sym (cond-true _ _ _ t)
      | inr f ↦
          let count : suc n + 1 ≡ suc (suc n) = omega arith in
          ap (with_page_below_runs x) (cond-false _ _ _ (same ∙ f)) ∙ joins_itself x (suc n) (r ∷ rs) ∙ ap (λ k. run_from k x ∷ r ∷ rs) count ∙ sym (cond-false _ _ _ f)
    ]

page_is_row : (x : Page) (rs : List Run) → with_page_below_runs x rs ≡ with_row_below_runs 1 x rs
page_is_row x [] = refl
page_is_row x (r ∷ rs) = refl

runs_of-row_suc : (m : List Page) (n : ℕ) (x : Page) → runs_of (row (suc n) x ++ m) ≡ with_row_below_runs (suc n) x (runs_of m)
unfolding row
runs_of-row_suc m zero x = page_is_row x (runs_of m)
runs_of-row_suc m (suc n) x = ap (with_page_below_runs x) (runs_of-row_suc m n (record x { number = x.number + 1 })) ∙ row_grows_run x n (runs_of m)

runs_of-row : (m : List Page) (n : ℕ) (x : Page) → 0 < n → runs_of (row n x ++ m) ≡ with_row_below_runs n x (runs_of m)
runs_of-row m n x h =
    let e : n ≡ suc (n - 1) = omega arith in
    ap (λ k. runs_of (row k x ++ m)) e ∙ runs_of-row_suc m (n - 1) x ∙ ap (λ k. with_row_below_runs k x (runs_of m)) (sym e)

run_alone : (r : Run) (rs : List Run) → IsApartRun r rs → with_row_below_runs r.range.pages (page_in r.range.first r) rs ≡ r ∷ rs
run_alone r [] h = refl
run_alone r (s ∷ rs) h = cond-false _ _ _ h

pub runs_of-pages_of : (rs : List Run) → AreMaximalRuns rs → runs_of (pages_of rs) ≡ rs
runs_of-pages_of [] a = refl
runs_of-pages_of (r ∷ rs) a = runs_of-row (pages_of rs) r.range.pages (page_in r.range.first r) a.0 ∙ ap (with_row_below_runs r.range.pages (page_in r.range.first r)) (runs_of-pages_of rs a.3) ∙ run_alone r rs a.2

-- two lists of maximal runs that represent one memory are one
pub same_runs : (rs ss : List Run) → AreMaximalRuns rs → AreMaximalRuns ss → pages_of rs ≡ pages_of ss → rs ≡ ss
same_runs rs ss a b e = sym (runs_of-pages_of rs a) ∙ ap runs_of e ∙ runs_of-pages_of ss b

pub maximal_are_runs : (rs : List Run) → AreMaximalRuns rs → AreRuns rs
maximal_are_runs [] a = tt
maximal_are_runs (r ∷ rs) a = (a.0, a.1, maximal_are_runs rs a.3)
