-- The run that holds a page, by its place among the runs.
use Rattle.std.proofs.Common.{◌≡◌, ℕ, ◌+◌, ◌<◌, ◌≤◌, List, [], ◌∷◌, length, get_or, drop, Option, Some, None, inl, inr, refl, sym, ap, subst, ◌∙◌, arith, Contains}
use Rattle.std.proofs.lemmas.Bool.{cases_lt}
use Rattle.std.proofs.lemmas.List.{get_or_default}
use Rattle.page_ranges.specs.declared.ranges.Owner.TheVariants.{Given}
use Rattle.page_ranges.specs.declared.ranges.PageRange.{PageRange}
use Rattle.page_ranges.specs.declared.ranges.Run.{Run}
use Rattle.page_ranges.specs.Memory.{Page, page_at}
use Rattle.page_ranges.specs.Runs.{page_in, pages_of, AreRuns, IsInRun}
use Rattle.page_ranges.proofs.Members.{member_none, member_cases, member_all}
use Rattle.page_ranges.proofs.RunLists.{page_at-held, page_at-not_held, page_at-held_at, page_at-past, page_at-below_runs, ends_before}
use Rattle.descriptor_table.proofs.Order.{all_dropped}

-- the run at an index holds the page
pub held_by : (rs : List Run) (i : ℕ) (r : Run) (k : ℕ) → AreRuns rs → i < length rs → r ≡ get_or rs i r → r.range.first ≤ k → k < r.range.first + r.range.pages → page_at (pages_of rs) k ≡ Some (page_in k r)
held_by rs i r k runs h e low high =
    page_at-held_at rs i r k runs h (record { low = omega (arith, ap (λ s. s.range.first) e); high = omega (arith, ap (λ s. s.range.first + s.range.pages) e) }) ∙ ap (λ s. Some (page_in k s)) (sym e)

-- the runs before an index end at the page or below it, and the others begin above it
pub held_by_none : (rs : List Run) (i : ℕ) (k : ℕ) → i ≤ length rs → ((j : ℕ) (d : Run) → j < i → (get_or rs j d).range.first + (get_or rs j d).range.pages ≤ k) → ((j : ℕ) (d : Run) → i ≤ j → j < length rs → k < (get_or rs j d).range.first) → page_at (pages_of rs) k ≡ None
held_by_none [] i k h ends begins = refl
held_by_none (r ∷ rs) i k h ends begins =
    page_at-past (r ∷ rs) i r k h (λ j l. ends j r l) ∙ page_at-below_runs (drop i (r ∷ rs)) k (all_dropped (λ s. k < s.range.first) (r ∷ rs) i begins)

-- the last run that begins by the page ends at it or below it
pub ends_by : (rs : List Run) (i : ℕ) (r : Run) (k : ℕ) → AreRuns rs → i < length rs → r ≡ get_or rs i r → r.range.first + r.range.pages ≤ k → (j : ℕ) (d : Run) → j < i + 1 → (get_or rs j d).range.first + (get_or rs j d).range.pages ≤ k
ends_by rs i r k runs h e end j d l =
    let same = get_or_default rs i d r h in
    elim (cases_lt j i) [
      | inl m ↦ omega (arith, ends_before rs j i d r runs m h, ap (λ s. s.range.first + s.range.pages) e)
      | inr m ↦ let n : j ≡ i = omega arith in rw n (omega (arith, ap (λ s. s.range.first + s.range.pages) same, ap (λ s. s.range.first + s.range.pages) e))
    ]

-- a run among the runs holds its pages
pub held_by_member : (rs : List Run) (r : Run) (k : ℕ) → AreRuns rs → Contains rs r → IsInRun r k → page_at (pages_of rs) k ≡ Some (page_in k r)
held_by_member [] r k runs c h = absurd (member_none r c)
held_by_member (q ∷ rs) r k runs c h = elim (member_cases q rs r c) [
  | inl e ↦ page_at-held q rs k (record { low = omega (arith, h.low, ap (λ s. s.range.first) e); high = omega (arith, h.high, ap (λ s. s.range.first + s.range.pages) e) }) ∙ ap (λ s. Some (page_in k s)) e
  | inr m ↦ page_at-not_held q rs k (λ _. omega (arith, h.low, member_all (λ s. q.range.first + q.range.pages ≤ s.range.first) rs r runs.1 m)) ∙ held_by_member rs r k runs.2 m h
]

-- what holds of the pages below a run, and of the run's, holds of all below its end
pub below_end : (P : Option Page → Type 0) (rs : List Run) (first next : ℕ) (r : Run) → AreRuns rs → Contains rs r → IsInRun r next → ((k : ℕ) → first ≤ k → k < next → P (page_at (pages_of rs) k)) → ((k : ℕ) → P (Some (page_in k r)))
    → (k : ℕ) → first ≤ k → k < r.range.first + r.range.pages → P (page_at (pages_of rs) k)
below_end P rs first next r runs c h below here k l u = elim (cases_lt k next) [
  | inl m ↦ below k l m
  | inr m ↦ let e = held_by_member rs r k runs c (record { low = omega (arith, h.low); high = omega arith }) in subst P (sym e) (here k)
]

abbrev no_run : Run
no_run = record { range = record { first = 0; pages = 0 }; mtype = 0; attributes = 0; owner = Given }

-- the runs that end below a range are no more than those that do not begin above it
pub window_order : (rs : List Run) (range : PageRange) (low high : ℕ) → low ≤ length rs
    → ((k : ℕ) (d : Run) → 0 ≤ k → k < low → (get_or rs k d).range.first + (get_or rs k d).range.pages < range.first)
    → ((k : ℕ) (d : Run) → high ≤ k → k < length rs → range.first + range.pages < (get_or rs k d).range.first) → low ≤ high
window_order rs range low high h below above = elim (cases_lt high low) [
  | inl l ↦ absurd (omega (arith, below high no_run (omega arith) l, above high no_run (omega arith) (omega arith)))
  | inr m ↦ m
]
