-- The pool: its extents, the blocks in them, and where these lie.
use Rattle.std.specs.Prelude.{◌≡◌, ℕ, ◌+◌, ◌-◌, ◌*◌, ◌^◌, ◌/◌, ◌≤◌, ◌<◌, ◌&&◌, ◌==◌, nat_le, Bool, cond, is_some, List, [], ◌∷◌, ◌++◌, length, drop, Option, Some, None}
use Rattle.std.specs.List.{AllByRecursion}
use Rattle.page_ranges.specs.declared.ranges.PageRange.{PageRange}
use Rattle.page_ranges.specs.MemoryTypes.{page_size, page_count}
use Rattle.page_services.specs.PageRules.{whole_pages}
use Rattle.raw_pool.specs.Bytes.{put}
use Rattle.raw_pool.specs.Blocks.{Block, cells_for, end_of, lowest_fit, new_block, with_block, without_block}

-- an extent: pages in a row of one type, and the blocks that lie in its cells
pub record Extent : Type 0 where
  pub first : ℕ
  pub pages : ℕ
  pub mtype : ℕ
  pub blocks : List Block

-- where a block lies: the first page of its extent, and its first cell there
pub record Place : Type 0 where
  pub first : ℕ
  pub cell : ℕ

-- the pages of an extent
abbrev pub range_of : Extent → PageRange
range_of e = record { first = e.first; pages = e.pages }

-- an extent has 128 cells for each page
abbrev pub cells_in : ℕ → ℕ
cells_in pages = 128 * pages

-- the fewest pages that hold a block of a size
abbrev pub pages_for : ℕ → ℕ
pages_for size = (cells_for size + 127) / 128

-- a block may be this large
abbrev pub max_size : ℕ
max_size = 0x100000000

-- the address of the block at a cell of an extent, given by its first page: 8 bytes of the cell
-- come before the block
abbrev pub address_of : ℕ → ℕ → ℕ
address_of first cell = page_size * first + 32 * cell + 8

-- ---- first fit

-- a place in an extent, at a cell if there is one
abbrev pub at_cell : ℕ → Option ℕ → Option Place
at_cell first None = None
at_cell first (Some cell) = Some (record { first = first; cell = cell })

-- one place, or else another
abbrev pub or_else : Option Place → Option Place → Option Place
or_else None other = other
or_else (Some p) other = Some p

-- where an extent takes a block: at its lowest run of free cells that has room
abbrev pub fit_in : ℕ → Extent → Option Place
fit_in size e = at_cell e.first (lowest_fit (cells_in e.pages) (cells_for size) 0 e.blocks)

-- where a new block of a type goes: of the extents of the type the first that has room takes it
abbrev pub first_fit : ℕ → ℕ → List Extent → Option Place
first_fit t size [] = None
first_fit t size (e ∷ es) =
    cond (e.mtype == t) (or_else (fit_in size e) (first_fit t size es)) (first_fit t size es)

-- ---- blocks by their addresses

-- the cell of the block of an extent that has an address
abbrev pub cell_of : ℕ → ℕ → List Block → Option ℕ
cell_of first address [] = None
cell_of first address (b ∷ bs) =
    cond (address_of first b.first == address) (Some b.first) (cell_of first address bs)

-- the place of the live block that has an address
abbrev pub place_of : ℕ → List Extent → Option Place
place_of address [] = None
place_of address (e ∷ es) =
    or_else (at_cell e.first (cell_of e.first address e.blocks)) (place_of address es)

-- whether the empty range at an address belongs to a block: it lies anywhere from the block's
-- address to its end
abbrev pub is_within : ℕ → ℕ → Block → Bool
is_within first address b =
    nat_le (address_of first b.first) address && nat_le address (address_of first b.first + b.size)

-- the bytes from an address to the end of the block, of these, that it belongs to
abbrev pub tail_in : ℕ → ℕ → List Block → Option (List ℕ)
tail_in first address [] = None
tail_in first address (b ∷ bs) =
    cond (is_within first address b) (Some (drop (address - address_of first b.first) b.bytes))
    (tail_in first address bs)

-- the bytes from an address to the end of the live block that it belongs to
abbrev pub tail_at : ℕ → List Extent → Option (List ℕ)
tail_at address [] = None
tail_at address (e ∷ es) =
    cond (is_some (tail_in e.first address e.blocks)) (tail_in e.first address e.blocks)
    (tail_at address es)

-- ---- what changes

abbrev pub with_blocks : List Block → Extent → Extent
with_blocks bs e = record { first = e.first; pages = e.pages; mtype = e.mtype; blocks = bs }

-- the extents once the first that passes a test is replaced
abbrev pub replaced : (Extent → Bool) → (Extent → List Extent) → List Extent → List Extent
replaced test by [] = []
replaced test by (e ∷ es) = cond (test e) (by e ++ es) (e ∷ replaced test by es)

-- whether an extent begins at the page
abbrev pub begins_at : ℕ → Extent → Bool
begins_at first e = e.first == first

-- the extents with a new block at a place in one of them
abbrev pub with_new_block : Place → ℕ → List Extent → List Extent
with_new_block p size es =
    replaced (begins_at p.first)
    (λ e. with_blocks (with_block (new_block p.cell size) e.blocks) e ∷ []) es

-- the pages of a new extent of a type for a block of a size, on a machine with a granule: they fill
-- granules of the type
abbrev pub extent_pages : ℕ → ℕ → ℕ → ℕ
extent_pages granule t size = whole_pages granule t (pages_for size)

-- an extent of a number of pages of a type, which has a new block at its first cell and no other
abbrev pub extent_with_block : ℕ → ℕ → ℕ → ℕ → Extent
extent_with_block first pages t size =
    record { first = first; pages = pages; mtype = t; blocks = new_block 0 size ∷ [] }

-- a new extent of a type for a block of a size, on a machine with a granule
abbrev pub new_extent : ℕ → ℕ → ℕ → ℕ → Extent
new_extent granule first t size = extent_with_block first (extent_pages granule t size) t size

-- the extents with one more among them
abbrev pub with_extent : Extent → List Extent → List Extent
with_extent e [] = e ∷ []
with_extent e (x ∷ xs) = cond (nat_le x.first e.first) (x ∷ with_extent e xs) (e ∷ x ∷ xs)

-- an extent with the blocks that are left in it: with none it ends
abbrev pub left_of : Extent → List Block → List Extent
left_of e [] = []
left_of e (b ∷ bs) = with_blocks (b ∷ bs) e ∷ []

-- the extents without the block at a place
abbrev pub without : Place → List Extent → List Extent
without p es = replaced (begins_at p.first) (λ e. left_of e (without_block p.cell e.blocks)) es

-- the pages of an extent that ends, as no block is left in it
abbrev pub range_if_ended : Extent → List Block → Option PageRange
range_if_ended e [] = Some (range_of e)
range_if_ended e (b ∷ bs) = None

-- the pages of the extent that ends with the block at a place
abbrev pub ended : Place → List Extent → Option PageRange
ended p [] = None
ended p (e ∷ es) =
    cond (begins_at p.first e) (range_if_ended e (without_block p.cell e.blocks)) (ended p es)

-- whether an address belongs to a block of an extent
abbrev pub has_tail : ℕ → Extent → Bool
has_tail address e = is_some (tail_in e.first address e.blocks)

-- the blocks of an extent once bytes are written from an address on, in the block that it belongs
-- to
abbrev pub written_in : ℕ → ℕ → List ℕ → List Block → List Block
written_in first address bytes [] = []
written_in first address bytes (b ∷ bs) =
    cond (is_within first address b)
    (record {
      first = b.first;
      size = b.size;
      bytes = put b.bytes
          (address - address_of first b.first) bytes;
    } ∷ bs) (b ∷ written_in first address bytes bs)

-- the extents once bytes are written from an address on, in the block that it belongs to
abbrev pub written : ℕ → List ℕ → List Extent → List Extent
written address bytes es =
    replaced (has_tail address)
    (λ e. with_blocks (written_in e.first address bytes e.blocks) e ∷ []) es

-- ---- extents that are apart

-- blocks in order from a cell on, with all their bytes, none over another, and none past the last
-- cell
abbrev pub AreBlocks : ℕ → ℕ → List Block → Type 0
AreBlocks cells from [] = from ≤ cells
AreBlocks cells from (b ∷ bs) =
    (from ≤ b.first) × (length b.bytes ≡ b.size) × AreBlocks cells (end_of b) bs

-- An extent has a page at least, and lies below the last page. It has a block, and its blocks lie
-- in its cells.
pub record IsExtent (e : Extent) : Type 0 where
  pub some : 0 < e.pages
  pub few : e.pages ≤ 2 ^ 21
  pub within : e.first + e.pages ≤ page_count
  pub used : 0 < length e.blocks
  pub blocks : AreBlocks (cells_in e.pages) 0 e.blocks

-- extents in order, none over another
abbrev pub AreExtents : List Extent → Type 0
AreExtents [] = Unit {0}
AreExtents (e ∷ es) =
    IsExtent e × AllByRecursion (λ x. e.first + e.pages ≤ x.first) es × AreExtents es
