-- The first entry of the map of runs, by the runs that make it.
use Rattle.std.proofs.Common.{◌≡◌, ℕ, ◌+◌, ◌-◌, ◌<◌, true, false, List, [], ◌∷◌, inl, inr, sym, ap, ◌∙◌, arith}
use Rattle.std.proofs.lemmas.Bool.{cases_Bool, and_parts, eqb-true}
use Rattle.page_ranges.specs.declared.ranges.Descriptor.{Descriptor}
use Rattle.page_ranges.specs.declared.ranges.Run.{Run}
use Rattle.page_ranges.specs.MemoryMap.{memory_map, should_be_one}
use Rattle.page_ranges.specs.Runs.{pages_of, AreRuns}
use Rattle.page_ranges.proofs.RunMaps.{runs_join, map_of_last, map_joined, map_apart}
use Rattle.descriptor_table.specs.Tables.{entry_of}

-- a number of pages of a run's type and attributes, from its first page on
abbrev block_from : Run → ℕ → Descriptor
block_from r n = record { mtype = r.mtype; first = r.range.first; pages = n; attributes = r.attributes }

-- entries of which the first begins as the run does, and ends where it ended
abbrev pub stretched : Run → List Descriptor → List Descriptor
stretched r [] = []
stretched r (b ∷ bs) = block_from r (b.first + b.pages - r.range.first) ∷ bs

-- the entry from one run to another
abbrev pub entry_to : Run → Run → Descriptor
entry_to r s = block_from r (s.range.first + s.range.pages - r.range.first)

-- the first entry begins as the first run does
first_entry : (r : Run) (rs : List Run) → AreRuns (r ∷ rs) → (n : ℕ) × (bs : List Descriptor) × (memory_map (pages_of (r ∷ rs)) ≡ block_from r n ∷ bs)
first_entry r [] a = (r.range.pages, [], map_of_last r a.0)
first_entry r (s ∷ rs) a = elim (cases_Bool (runs_join r s)) [
  | inl t ↦ let j = map_joined r s rs a.0 a.2.0 t in (j.0.pages + r.range.pages, j.1, j.3)
  | inr f ↦ (r.range.pages, memory_map (pages_of (s ∷ rs)), map_apart r s rs a.0 a.2.0 f)
]

stretched-joined : (q r s : Run) (rs : List Run) → AreRuns (r ∷ s ∷ rs) → runs_join r s ≡ true → stretched q (memory_map (pages_of (r ∷ s ∷ rs))) ≡ stretched q (memory_map (pages_of (s ∷ rs)))
stretched-joined q r s rs a t =
    let j = map_joined r s rs a.0 a.2.0 t in
    let f = first_entry s rs a.2 in
    let next = eqb-true (r.range.first + r.range.pages) s.range.first (and_parts _ _ (and_parts _ _ t).0).0 in
    let b : j.0 ≡ block_from s f.0 = cc (j.2, f.2) in
    let n : r.range.first + (j.0.pages + r.range.pages) - q.range.first ≡ j.0.first + j.0.pages - q.range.first = omega (arith, next, ap (λ d. d.first) b) in
    ap (stretched q) j.3 ∙ ap (λ k. block_from q k ∷ j.1) n ∙ sym (ap (stretched q) j.2)

-- ---- the runs of an entry, one after the other

-- the run that an entry begins with
pub stretched_first : (r : Run) (rs : List Run) → AreRuns (r ∷ rs) → memory_map (pages_of (r ∷ rs)) ≡ stretched r (memory_map (pages_of (r ∷ rs)))
stretched_first r rs a =
    let f = first_entry r rs a in
    let n : f.0 ≡ r.range.first + f.0 - r.range.first = omega arith in
    f.2 ∙ ap (λ k. block_from r k ∷ f.1) n ∙ sym (ap (stretched r) f.2)

-- the next run goes on in the entry
pub goes_on_in : (q r s : Run) (rs : List Run) → AreRuns (r ∷ s ∷ rs) → should_be_one (entry_of r) (entry_of s) ≡ true → stretched q (memory_map (pages_of (r ∷ s ∷ rs))) ≡ stretched q (memory_map (pages_of (s ∷ rs)))
goes_on_in q r s rs a t = stretched-joined q r s rs a t

-- or it does not
pub ends_before_next : (q r s : Run) (rs : List Run) → AreRuns (r ∷ s ∷ rs) → should_be_one (entry_of r) (entry_of s) ≡ false → stretched q (memory_map (pages_of (r ∷ s ∷ rs))) ≡ entry_to q r ∷ memory_map (pages_of (s ∷ rs))
ends_before_next q r s rs a f = ap (stretched q) (map_apart r s rs a.0 a.2.0 f)

-- or there is none
pub ends_at_last : (q r : Run) → 0 < r.range.pages → stretched q (memory_map (pages_of (r ∷ []))) ≡ entry_to q r ∷ memory_map (pages_of [])
ends_at_last q r h = ap (stretched q) (map_of_last r h)
