-- A core in a region.
use base.Stored.{Coded}
use denote.Builtin.{RefOf}
use denote.RattleType.{RattleType}
use denote.Signature.{plain, type_at}
use Rattle.std.specs.Prelude.{[]}
use Rattle.core.specs.contracts.alloc.RefAllocator.TheImpl as of_reference
use Rattle.c_interface.specs.contracts.efi_core.EfiCore as core
use Rattle.region_heap.specs.contracts.heap.RegionHeap.{the_row as Heap}
use Rattle.region_heap.specs.contracts.heap.RegionHeapAllocator.TheImpl as of_heap

-- how a reference to a heap lies in memory that stays for good
abbrev pub HeapRow : RattleType
HeapRow = type_at {n = 0} (RefOf [] tt (plain (λ _. Heap)) (λ _. tt)) tt

-- a reference to the heap that a core's memory is of
abbrev pub CoreHeap : Type 0
CoreHeap = HeapRow.Denot

-- how a core lies in memory
abbrev pub CoreRow : RattleType
CoreRow =
    core.the_row HeapRow
    (of_reference.ghosts Heap of_heap.ghosts of_reference.no_dict of_reference.no_dict)

-- the value of a core
abbrev pub Core : Type 0
Core = CoreRow.Denot

-- how the logic stores the value of a core
abbrev pub core_code : Coded Core
core_code = CoreRow.coded
