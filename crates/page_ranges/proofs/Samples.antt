-- The definitions on small memories, by computing.
use Rattle.std.proofs.Common.{◌≡◌, ℕ, [], ◌∷◌, refl}
use Rattle.page_ranges.specs.declared.ranges.Descriptor.{Descriptor}
use Rattle.page_ranges.specs.declared.ranges.Owner.{Owner}
use Rattle.page_ranges.specs.declared.ranges.Owner.TheVariants.{Given, Pages, Pool}
use Rattle.page_ranges.specs.declared.ranges.Run.{Run}
use Rattle.page_ranges.specs.MemoryTypes.{conventional}
use Rattle.page_ranges.specs.Memory.{row, retyped}
use Rattle.page_ranges.specs.MemoryMap.{memory_map}
use Rattle.page_ranges.specs.Runs.{pages_of, runs_of}

abbrev run : ℕ → ℕ → ℕ → ℕ → Owner → Run
run first pages t a o = record { range = record { first = first; pages = pages }; mtype = t; attributes = a; owner = o }

abbrev entry : ℕ → ℕ → ℕ → ℕ → Descriptor
entry first pages t a = record { mtype = t; first = first; pages = pages; attributes = a }

-- two sets of attributes side by side are two entries
two_attributes : memory_map (pages_of (run 0 8 7 0xf Given ∷ run 8 8 7 0x7 Given ∷ [])) ≡ entry 0 8 7 0xf ∷ entry 8 8 7 0x7 ∷ []
unfolding row
two_attributes = refl

-- two types side by side are two entries
two_types : memory_map (pages_of (run 0 8 7 0xf Given ∷ run 8 8 4 0xf Given ∷ [])) ≡ entry 0 8 7 0xf ∷ entry 8 8 4 0xf ∷ []
unfolding row
two_types = refl

-- three owners are one entry
owners : memory_map (pages_of (run 2 3 4 0xf Given ∷ run 5 3 4 0xf Pages ∷ run 8 2 4 0xf Pool ∷ [])) ≡ entry 2 8 4 0xf ∷ []
unfolding row
owners = refl

-- a hole is between two entries
hole : memory_map (pages_of (run 0 4 7 0xf Given ∷ run 5 3 7 0xf Given ∷ [])) ≡ entry 0 4 7 0xf ∷ entry 5 3 7 0xf ∷ []
unfolding row
hole = refl

-- owners that differ are two runs
runs_by_owner : runs_of (pages_of (run 2 3 4 0xf Given ∷ run 5 2 4 0xf Pages ∷ run 7 3 4 0xf Pages ∷ [])) ≡ run 2 3 4 0xf Given ∷ run 5 5 4 0xf Pages ∷ []
unfolding row
runs_by_owner = refl

-- RUNTIME is on for runtime services code and data
runtime_data : retyped (record { first = 2; pages = 2 }) 6 Pages (pages_of (run 0 6 7 0xf Given ∷ [])) ≡ pages_of (run 0 2 7 0xf Given ∷ run 2 2 6 0x800000000000000f Pages ∷ run 4 2 7 0xf Given ∷ [])
unfolding row
runtime_data = refl

runtime_code : memory_map (retyped (record { first = 4; pages = 2 }) 5 Pages (pages_of (run 0 6 7 0xf Given ∷ []))) ≡ entry 0 4 7 0xf ∷ entry 4 2 5 0x800000000000000f ∷ []
unfolding row
runtime_code = refl

-- freeing takes it off, and the map is as before
freed : memory_map (retyped (record { first = 2; pages = 2 }) conventional Given (retyped (record { first = 2; pages = 2 }) 6 Pages (pages_of (run 0 6 7 0xf Given ∷ [])))) ≡ entry 0 6 7 0xf ∷ []
unfolding row
freed = refl
