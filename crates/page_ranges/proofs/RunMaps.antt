-- The map of the memory that runs represent.
use Rattle.std.proofs.Common.{◌≡◌, ℕ, zero, suc, ◌+◌, ◌<◌, ◌≤◌, Bool, true, false, cond, ◌&&◌, eqb, List, [], ◌∷◌, length, get_or, drop, inl, inr, refl, ap, ◌∙◌, arith}
use Rattle.std.specs.List.{AllByRecursion}
use Rattle.std.proofs.lemmas.Bool.{cases_Bool, cond-true, cond-false}
use Rattle.page_ranges.specs.declared.ranges.Descriptor.{Descriptor}
use Rattle.page_ranges.specs.declared.ranges.Run.{Run}
use Rattle.page_ranges.specs.MemoryMap.{memory_map}
use Rattle.page_ranges.specs.Runs.{page_in, pages_of, AreRuns}
use Rattle.page_ranges.proofs.Rows.{block_from, row_goes_on_in, row_goes_on_first, with_row_below, memory_map-row}

-- the second run begins where the first ends, with its type and attributes, whoever owns the two
abbrev pub runs_join : Run → Run → Bool
runs_join r s = eqb (r.range.first + r.range.pages) s.range.first && eqb r.mtype s.mtype && eqb r.attributes s.attributes

-- a run as a block of its own
abbrev pub block_of_run : Run → Descriptor
block_of_run r = record { mtype = r.mtype; first = r.range.first; pages = r.range.pages; attributes = r.attributes }

-- the run and the block just above it as one block
abbrev pub joined_block : Run → Descriptor → Descriptor
joined_block r b = record { mtype = r.mtype; first = r.range.first; pages = b.pages + r.range.pages; attributes = r.attributes }

-- the map of a run and of the runs after it
pub map_of_runs : (r : Run) (rs : List Run) → 0 < r.range.pages → memory_map (pages_of (r ∷ rs)) ≡ with_row_below r.range.pages (page_in r.range.first r) (memory_map (pages_of rs))
map_of_runs r rs h = memory_map-row (pages_of rs) r.range.pages (page_in r.range.first r) h

pub map_of_last : (r : Run) → 0 < r.range.pages → memory_map (pages_of (r ∷ [])) ≡ block_of_run r ∷ []
map_of_last r h = map_of_runs r [] h

-- the first block begins as the first run does
abbrev first_is : Run → List Descriptor → Type 0
first_is r [] = ⊥
first_is r (b ∷ bs) = (b.first ≡ r.range.first) × (b.mtype ≡ r.mtype) × (b.attributes ≡ r.attributes)

first_is-with_row : (r : Run) (bs : List Descriptor) → first_is r (with_row_below r.range.pages (page_in r.range.first r) bs)
first_is-with_row r [] = (refl, refl, refl)
first_is-with_row r (b ∷ bs) =
    let x = page_in r.range.first r in
    elim (row_goes_on_in r.range.pages x b) as (λ c. first_is r (cond c (block_from (b.pages + r.range.pages) x ∷ bs) (block_from r.range.pages x ∷ b ∷ bs))) [ true ↦ (refl, refl, refl) | false ↦ (refl, refl, refl) ]

pub first_block : (r : Run) (rs : List Run) → 0 < r.range.pages → first_is r (memory_map (pages_of (r ∷ rs)))
first_block r rs h = rw (map_of_runs r rs h) (first_is-with_row r (memory_map (pages_of rs)))

same_test : (r s : Run) (b : Descriptor) (bs : List Descriptor) → first_is s (b ∷ bs) → row_goes_on_in r.range.pages (page_in r.range.first r) b ≡ runs_join r s
same_test r s b bs f = rw (f.0, f.1, f.2)

joins : (r s : Run) (bs : List Descriptor) → first_is s bs → runs_join r s ≡ true → (b : Descriptor) × (ds : List Descriptor) × (bs ≡ b ∷ ds) × (with_row_below r.range.pages (page_in r.range.first r) bs ≡ joined_block r b ∷ ds)
joins r s [] f t = absurd f
joins r s (b ∷ bs) f t = (b, bs, refl, cond-true _ _ _ (same_test r s b bs f ∙ t))

-- the run joins the next
pub map_joined : (r s : Run) (rs : List Run) → 0 < r.range.pages → 0 < s.range.pages → runs_join r s ≡ true →
    (b : Descriptor) × (ds : List Descriptor) × (memory_map (pages_of (s ∷ rs)) ≡ b ∷ ds) × (memory_map (pages_of (r ∷ s ∷ rs)) ≡ joined_block r b ∷ ds)
map_joined r s rs g h t =
    let j = joins r s (memory_map (pages_of (s ∷ rs))) (first_block s rs h) t in
    (j.0, j.1, j.2, map_of_runs r (s ∷ rs) g ∙ j.3)

apart : (r s : Run) (bs : List Descriptor) → first_is s bs → runs_join r s ≡ false → with_row_below r.range.pages (page_in r.range.first r) bs ≡ block_of_run r ∷ bs
apart r s [] f t = refl
apart r s (b ∷ bs) f t = cond-false _ _ _ (same_test r s b bs f ∙ t)

-- the run does not
pub map_apart : (r s : Run) (rs : List Run) → 0 < r.range.pages → 0 < s.range.pages → runs_join r s ≡ false → memory_map (pages_of (r ∷ s ∷ rs)) ≡ block_of_run r ∷ memory_map (pages_of (s ∷ rs))
map_apart r s rs g h t = map_of_runs r (s ∷ rs) g ∙ apart r s (memory_map (pages_of (s ∷ rs))) (first_block s rs h) t

-- ---- how many entries

pub length_of_last : (r : Run) → 0 < r.range.pages → length (memory_map (pages_of (r ∷ []))) ≡ 1
length_of_last r h = ap length (map_of_last r h)

-- each run makes an entry, but where it joins the next
pub length_of_runs : (r s : Run) (rs : List Run) → 0 < r.range.pages → 0 < s.range.pages → length (memory_map (pages_of (r ∷ s ∷ rs))) ≡ cond (runs_join r s) 0 1 + length (memory_map (pages_of (s ∷ rs)))
length_of_runs r s rs g h = elim (cases_Bool (runs_join r s)) [
  | inl t ↦ let j = map_joined r s rs g h t in rw t (omega (arith, ap length j.2, ap length j.3))
  | inr f ↦ rw f (omega (arith, ap length (map_apart r s rs g h f)))
]

-- the runs at neighbouring indices
pub length_at : (rs : List Run) (i : ℕ) (d e : Run) → AreRuns rs → i + 1 < length rs → length (memory_map (pages_of (drop i rs))) ≡ cond (runs_join (get_or rs i d) (get_or rs (i + 1) e)) 0 1 + length (memory_map (pages_of (drop (i + 1) rs)))
length_at [] i d e a h = absurd (omega arith)
length_at (r ∷ []) i d e a h = absurd (omega arith)
length_at (r ∷ s ∷ rs) zero d e a h = length_of_runs r s rs a.0 a.2.0
length_at (r ∷ s ∷ rs) (suc i) d e a h =
    let k : suc i + 1 ≡ suc (i + 1) = omega arith in
    rw k (length_at (s ∷ rs) i d e a.2 (omega arith))

pub length_at_last : (rs : List Run) (i : ℕ) → AreRuns rs → i + 1 ≡ length rs → length (memory_map (pages_of (drop i rs))) ≡ 1
length_at_last [] i a h = absurd (omega arith)
length_at_last (r ∷ []) zero a h = length_of_last r a.0
length_at_last (r ∷ s ∷ rs) zero a h = absurd (omega arith)
length_at_last (r ∷ rs) (suc i) a h = length_at_last rs i a.2 (omega arith)

one_at_most : (c : Bool) → cond c 0 1 ≤ 1
one_at_most true = omega arith
one_at_most false = omega arith

-- no more entries than runs
pub entries_at_most : (rs : List Run) → AreRuns rs → length (memory_map (pages_of rs)) ≤ length rs
entries_at_most [] a = omega arith
entries_at_most (r ∷ []) a = omega (arith, length_of_last r a.0)
entries_at_most (r ∷ s ∷ rs) a = omega (arith, length_of_runs r s rs a.0 a.2.0, one_at_most (runs_join r s), entries_at_most (s ∷ rs) a.2)

-- where all runs end by a number, all entries do
row_ends_by : (r : Run) (bs : List Descriptor) (n : ℕ) → r.range.first + r.range.pages ≤ n → AllByRecursion (λ b. b.first + b.pages ≤ n) bs → AllByRecursion (λ b. b.first + b.pages ≤ n) (with_row_below r.range.pages (page_in r.range.first r) bs)
row_ends_by r [] n h a = (h, tt)
row_ends_by r (b ∷ bs) n h a = elim (cases_Bool (row_goes_on_in r.range.pages (page_in r.range.first r) b)) [
  | inl t ↦
      let first = row_goes_on_first r.range.pages (page_in r.range.first r) b t in
      rw t (omega (arith, first, a.0), a.1)
  | inr f ↦ rw f (h, a)
]

pub entries_end_by : (rs : List Run) (n : ℕ) → AreRuns rs → AllByRecursion (λ s. s.range.first + s.range.pages ≤ n) rs → AllByRecursion (λ b. b.first + b.pages ≤ n) (memory_map (pages_of rs))
entries_end_by [] n a e = tt
entries_end_by (r ∷ rs) n a e = rw (map_of_runs r rs a.0) (row_ends_by r (memory_map (pages_of rs)) n e.0 (entries_end_by rs n a.2 e.1))
