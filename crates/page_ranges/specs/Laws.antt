-- The laws of memories, maps and runs. Each is the contract of a public function.
use Rattle.std.specs.Prelude.{◌≡◌, ◌⊎◌, ◌↔◌, ℕ, false, List, Contains}
use Rattle.page_ranges.specs.declared.ranges.Descriptor.{Descriptor}
use Rattle.page_ranges.specs.declared.ranges.PageRange.{PageRange}
use Rattle.page_ranges.specs.declared.ranges.Owner.{Owner}
use Rattle.page_ranges.specs.declared.ranges.Owner.TheVariants.{Given}
use Rattle.page_ranges.specs.declared.ranges.Run.{Run}
use Rattle.page_ranges.specs.MemoryTypes.{conventional, is_bad_type}
use Rattle.page_ranges.specs.Memory.{Page, IsAscending, IsProperMemory, HasMachineTypes, retyped}
use Rattle.page_ranges.specs.MemoryMap.{memory_map, IsMaximalBlock, AreInOrder, IsMap, memory_of}
use Rattle.page_ranges.specs.Runs.{pages_of, AreMaximalRuns, runs_of}

-- The map is the list of the maximal blocks, in order.
abbrev pub MaximalBlocksLaw : Type 0
MaximalBlocksLaw =
    (m : List Page) → IsAscending m
    → ((b : Descriptor) → Contains (memory_map m) b ↔ IsMaximalBlock m b)
    × AreInOrder (memory_map m)

-- A list that is a map is the map of the memory that it represents, and that memory is proper.
abbrev pub MapMemoryLaw : Type 0
MapMemoryLaw =
    (ds : List Descriptor) → IsMap ds → IsProperMemory (memory_of ds)
    × (memory_map (memory_of ds) ≡ ds)

-- The map of a proper memory of machine types is a list that is a map.
abbrev pub MemoryMapLaw : Type 0
MemoryMapLaw = (m : List Page) → IsProperMemory m → HasMachineTypes m → IsMap (memory_map m)

-- The runs of a memory are maximal runs that represent it, and no other maximal runs do.
abbrev pub MaximalRunsLaw : Type 0
MaximalRunsLaw =
    ((m : List Page) → IsAscending m → AreMaximalRuns (runs_of m) × (pages_of (runs_of m) ≡ m))
    × ((rs : List Run) → AreMaximalRuns rs → runs_of (pages_of rs) ≡ rs)

-- A memory stays proper when the pages of a range get a type and an owner, if conventional pages
-- get the owner Given.
abbrev pub RetypedLaw : Type 0
RetypedLaw =
    (m : List Page) (range : PageRange) (t : ℕ) (o : Owner) → (t ≡ conventional → o ≡ Given)
    → IsProperMemory m → IsProperMemory (retyped range t o m)

-- A memory still has machine types when the pages of a range get a type that requests may name, or
-- the conventional one.
abbrev pub RetypedTypesLaw : Type 0
RetypedTypesLaw =
    (m : List Page) (range : PageRange) (t : ℕ) (o : Owner) → (is_bad_type t ≡ false)
    ⊎ (t ≡ conventional) → HasMachineTypes m → HasMachineTypes (retyped range t o m)
