-- What a cursor over the pages of a memory answers.
use Rattle.std.specs.Prelude.{◌≡◌, ℕ, List, Option, Some, None}
use Rattle.page_ranges.specs.declared.ranges.Descriptor.{Descriptor}
use Rattle.page_ranges.specs.Memory.{Page, page_at}
use Rattle.page_ranges.specs.MemoryMap.{IsIn, IsLike}

-- the block's pages are all present, with its type and attributes; it may be a part of an entry
abbrev pub IsBlock : List Page → Descriptor → Type 0
IsBlock m b = (k : ℕ) → IsIn b k → IsLike b (page_at m k)

-- the answer to which block holds a page: one with the page in it, or none where the page is absent
abbrev pub IsBlockAt : List Page → ℕ → Option Descriptor → Type 0
IsBlockAt m k None = page_at m k ≡ None
IsBlockAt m k (Some b) = IsIn b k × IsBlock m b
