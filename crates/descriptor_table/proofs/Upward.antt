-- The free runs of leaves from the lowest up.
use Rattle.std.proofs.Common.{◌≡◌, ◌≢◌, ℕ, zero, suc, ◌+◌, ◌-◌, ◌<◌, ◌≤◌, List, [], ◌∷◌, ◌++◌, length, get_or, drop, refl, sym, ap, ◌∙◌, arith}
use Rattle.std.specs.Int.{bit_at}
use Rattle.std.proofs.lemmas.Bool.{eq-eqb, ne_eqb}
use Rattle.std.proofs.lemmas.List.{drop_more, drop_all}
use Rattle.std.proofs.lemmas.Nat.Bits.{bit_at-zero}
use Rattle.std.proofs.lemmas.Option.{get_or_from_slice_get}
use Rattle.page_ranges.specs.declared.ranges.Run.{Run}
use Rattle.page_ranges.specs.MemoryTypes.{conventional}
use Rattle.descriptor_table.specs.Leaves.{leaf_at, runs_in}
use Rattle.descriptor_table.specs.LeafSummaries.{MarksFree, NoneMarked}
use Rattle.descriptor_table.specs.Tables.{entry_of}
use Rattle.descriptor_table.specs.Wanting.{HaveSameEntries, entries_from, entries_of}
use Rattle.descriptor_table.proofs.Downward.{some_run}
use Rattle.descriptor_table.proofs.FreeMarks.{none_free}
use Rattle.descriptor_table.proofs.NoUse.{entries-append}

-- ---- the first free run of some

-- the runs from an index on are the one there and those after it
dropped : (rs : List Run) (i : ℕ) (r : Run) → i < length rs → r ≡ get_or rs i r → entries_of (drop i rs) ≡ entries_of (r ∷ drop (i + 1) rs)
dropped rs i r h at = ap entries_of (drop_more rs i r h ∙ ap (λ x. x ∷ drop (i + 1) rs) (sym at))

dropped_free : (rs : List Run) (i : ℕ) (r : Run) → i < length rs → r ≡ get_or rs i r → r.mtype ≡ conventional → entries_of (drop i rs) ≡ entry_of r ∷ entries_of (drop (i + 1) rs)
dropped_free rs i r h at free = dropped rs i r h at ∙ rw (eq-eqb r.mtype conventional free) refl

dropped_other : (rs : List Run) (i : ℕ) (r : Run) → i < length rs → r ≡ get_or rs i r → r.mtype ≢ conventional → entries_of (drop i rs) ≡ entries_of (drop (i + 1) rs)
dropped_other rs i r h at other = dropped rs i r h at ∙ rw (ne_eqb r.mtype conventional other) refl

-- no run without a mark is an entry
pub unmarked_passed : (marks : ℕ) (rs : List Run) → MarksFree marks rs → (d i end : ℕ) → i + d ≡ end → end ≤ length rs → NoneMarked marks i end → entries_of (drop i rs) ≡ entries_of (drop end rs)
unmarked_passed marks rs m zero i end e h none = let same : i ≡ end = omega (arith, e) in ap (λ k. entries_of (drop k rs)) same
unmarked_passed marks rs m (suc d) i end e h none =
    let k : i < length rs = omega (arith, e, h) in
    let s = some_run rs i k in
    dropped_other rs i s.0 k (sym (get_or_from_slice_get rs i s.0 s.0 s.1)) (λ free. none_free marks rs i s.0 m s.1 free (none i (omega arith) (omega (arith, e))))
    ∙ unmarked_passed marks rs m d (i + 1) end (omega (arith, e)) h (λ j low high. none j (omega (arith, low)) high)

-- where no mark is left, no entry is
pub none_left : (marks : ℕ) (rs : List Run) → MarksFree marks rs → (i : ℕ) → i ≤ length rs → NoneMarked marks i (length rs) → entries_of (drop i rs) ≡ []
none_left marks rs m i h none = unmarked_passed marks rs m (length rs - i) i (length rs) (omega (arith, h)) (omega arith) none ∙ ap entries_of (drop_all (length rs) rs (omega arith))

-- the first run from an index on whose mark is set, if it is free, and if it is not
module _ (marks : ℕ) (rs : List Run) (m : MarksFree marks rs) (from i : ℕ) (r : Run) (low : from ≤ i) (h : i < length rs) (at : r ≡ get_or rs i r) (none : NoneMarked marks from i) where
  up_to : entries_of (drop from rs) ≡ entries_of (drop i rs)
  up_to = unmarked_passed marks rs m (i - from) from i (omega (arith, low)) (omega (arith, h)) none

  pub first_free : r.mtype ≡ conventional → entries_of (drop from rs) ≡ entry_of r ∷ entries_of (drop (i + 1) rs)
  first_free free = up_to ∙ dropped_free rs i r h at free

  pub first_other : r.mtype ≢ conventional → entries_of (drop from rs) ≡ entries_of (drop (i + 1) rs)
  first_other other = up_to ∙ dropped_other rs i r h at other

-- ---- one leaf after the other

-- the entries of a leaf come before those of the leaves after it
pub leaf_first : (ls : List (List Run)) (j : ℕ) → j < length ls → entries_from ls j ≡ entries_of (leaf_at ls j) ++ entries_from ls (j + 1)
leaf_first ls j h = ap (λ l. entries_of (runs_in l)) (drop_more ls j [] h) ∙ entries-append (leaf_at ls j) (runs_in (drop (j + 1) ls))

-- a leaf without a mark has none
pub leaf_passed : (ls : List (List Run)) (j marks : ℕ) → j < length ls → MarksFree marks (leaf_at ls j) → marks ≡ 0 → HaveSameEntries ls j (j + 1)
leaf_passed ls j marks h m none = leaf_first ls j h ∙ ap (λ ds. ds ++ entries_from ls (j + 1)) (none_left marks (leaf_at ls j) m 0 (omega arith) (λ k low high. ap (λ x. bit_at x k) none ∙ bit_at-zero k))
