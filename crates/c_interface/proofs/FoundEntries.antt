-- An entry that is found at an index of the memory map begins at an address of 64 bits.
use Rattle.std.proofs.Common.{◌≡◌, ℕ, zero, suc, ◌<◌, List, [], ◌∷◌, ◌++◌, Some, sym, ap}
use Rattle.std.specs.List.{slice_get}
use Rattle.page_ranges.specs.declared.ranges.Descriptor.{Descriptor}
use Rattle.page_ranges.specs.Memory.{Page, IsProperMemory}
use Rattle.page_ranges.specs.MemoryMap.{memory_map}
use Rattle.page_ranges.specs.MemoryTypes.{page_count}
use Rattle.page_ranges.proofs.Blocks.{entry_within}

-- a list in three parts: an element, and what comes before and behind it
record Parted (ds : List Descriptor) (d : Descriptor) : Type 0 where
  front : List Descriptor
  rest : List Descriptor
  whole : front ++ d ∷ rest ≡ ds

parted : (ds : List Descriptor) (i : ℕ) (d : Descriptor) → slice_get ds i ≡ Some d → Parted ds d
parted [] i d e = absurd (cc)
parted (x ∷ ds) zero d e = let same : x ≡ d = cc in record { front = []; rest = ds; whole = ap (λ (y : Descriptor). y ∷ ds) (sym same) }
parted (x ∷ ds) (suc i) d e = let p = parted ds i d e in record { front = x ∷ p.front; rest = p.rest; whole = ap (λ (ys : List Descriptor). x ∷ ys) p.whole }

pub found_within : (m : List Page) → IsProperMemory m → (i : ℕ) (d : Descriptor) → slice_get (memory_map m) i ≡ Some d → d.first < page_count
found_within m proper i d e = let p = parted (memory_map m) i d e in entry_within m proper p.front d p.rest p.whole
