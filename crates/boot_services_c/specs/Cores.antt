-- A core on the heap.
use base.Stored.{Coded}
use denote.RattleType.{RattleType}
use Rattle.std.specs.contracts.alloc.Global.{the_row as Heap}
use Rattle.std.specs.contracts.impls.GlobalAllocator.TheImpl.{ghosts}
use Rattle.c_interface.specs.contracts.efi_core.EfiCore as core

-- the heap that a core's memory is of
abbrev pub CoreHeap : Type 0
CoreHeap = Heap.Denot

-- how a core lies in memory
abbrev pub CoreRow : RattleType
CoreRow = core.the_row Heap ghosts

-- the value of a core
abbrev pub Core : Type 0
Core = CoreRow.Denot

-- how the logic stores the value of a core
abbrev pub core_code : Coded Core
core_code = CoreRow.coded
