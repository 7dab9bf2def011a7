-- Conventional entries of a memory map.
use Rattle.std.specs.Prelude.{List}
use Rattle.page_ranges.specs.declared.ranges.Descriptor.{Descriptor}
use Rattle.page_ranges.specs.Memory.{Page}

-- a memory, and those conventional entries of its map that are still to come
pub record FreeList : Type 0 where
  pub memory : List Page
  pub entries : List Descriptor
