-- The regions of extents.
use Rattle.std.specs.Prelude.{◌≡◌, ℕ, [], length, Option, None, Some}
use Rattle.std.specs.Option.{option_map}
use Rattle.page_ranges.specs.declared.ranges.PageRange.{PageRange}
use Rattle.raw_pool.specs.Blocks.{Pool, new_block, with_block}
use Rattle.pool_services.specs.Extents.{Extent, cells_in, with_blocks}

-- where cells lie: at a page of the machine, or in memory that is none of its pages
abbrev pub LiesAt : ℕ → Option ℕ → Type 0
LiesAt first None = Unit {0}
LiesAt first (Some page) = page ≡ first

-- where a new region lies: at its first page, if there is memory that the machine's pages are
abbrev pub lying : {M : Type 0} → ℕ → Option M → Option ℕ
lying first memory = option_map (λ m. first) memory

-- the cells are those of a number of pages, the blocks are as many as are counted, and where the
-- bytes lie at pages of the machine, these are the pages
abbrev pub IsCountedRegion : PageRange → ℕ → Pool → Type 0
IsCountedRegion range live p =
    (p.cells ≡ cells_in range.pages) × (live ≡ length p.blocks) × LiesAt range.first p.lies

-- a region without blocks for a number of pages from one on
abbrev pub IsRegionFor : ℕ → ℕ → Pool → Type 0
IsRegionFor first pages p =
    (p ≡ record { cells = cells_in pages; blocks = []; lies = p.lies }) × LiesAt first p.lies

-- a region of one page without blocks that lies at no page of the machine
abbrev pub IsSpareRegion : Pool → Type 0
IsSpareRegion p = p ≡ record { cells = cells_in 1; blocks = []; lies = None }

-- the extent with a new block of a size at a cell
abbrev pub with_block_at : ℕ → ℕ → Extent → Extent
with_block_at cell size e = with_blocks (with_block (new_block cell size) e.blocks) e
