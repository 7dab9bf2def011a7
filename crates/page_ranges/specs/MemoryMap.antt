-- The memory map: an entry for each stretch of neighbouring pages that agree in type and
-- attributes, whoever owns them, by ascending page.
use Rattle.std.specs.Prelude.{◌≡◌, ℕ, ◌+◌, ◌<◌, ◌≤◌, Bool, true, false, ◌&&◌, ◌==◌, List, [], ◌∷◌, flat_map, Option, Some, None, if◌then◌else◌}
use Rattle.std.specs.List.{AllByRecursion}
use Rattle.page_ranges.specs.declared.ranges.Descriptor.{Descriptor}
use Rattle.page_ranges.specs.declared.ranges.Owner.TheVariants.{Given}
use Rattle.page_ranges.specs.MemoryTypes.{page_count, conventional, has_runtime, is_machine_type}
use Rattle.page_ranges.specs.Memory.{Page, page_at, page_below, row}

-- a page as a block of its own
abbrev pub block_of : Page → Descriptor
block_of x = record { mtype = x.mtype; first = x.number; pages = 1; attributes = x.attributes }

-- the page lies just below the block, and has its type and attributes
abbrev pub goes_on_in : Page → Descriptor → Bool
goes_on_in x b = (x.number + 1 == b.first) && (x.mtype == b.mtype) && (x.attributes == b.attributes)

-- the blocks of a page and of the pages above it, which make these blocks: the page goes on in the
-- first, or is alone
abbrev pub with_page_below : Page → List Descriptor → List Descriptor
with_page_below x [] = block_of x ∷ []
with_page_below x (b ∷ bs) =
    if goes_on_in x b then record (block_of x) { pages = b.pages + 1 } ∷ bs else block_of x ∷ b ∷ bs

abbrev pub memory_map : List Page → List Descriptor
memory_map [] = []
memory_map (x ∷ xs) = with_page_below x (memory_map xs)

-- ---- what a maximal block is, in words of its own

-- the page is present, with the block's type and attributes
abbrev pub IsLike : Descriptor → Option Page → Type 0
IsLike b None = ⊥
IsLike b (Some x) = (x.mtype ≡ b.mtype) × (x.attributes ≡ b.attributes)

-- the page number is one of the block's
pub record IsIn (b : Descriptor) (k : ℕ) : Type 0 where
  pub low : b.first ≤ k
  pub high : k < b.first + b.pages

-- All its pages are present with its type and attributes; the page below it and the page above it
-- are not.
pub record IsMaximalBlock (m : List Page) (b : Descriptor) : Type 0 where
  pub some : 0 < b.pages
  pub all : (k : ℕ) → IsIn b k → IsLike b (page_at m k)
  pub none_below : ¬ IsLike b (page_below m b.first)
  pub none_above : ¬ IsLike b (page_at m (b.first + b.pages))

-- each block ends before those after it
abbrev pub AreInOrder : List Descriptor → Type 0
AreInOrder [] = Unit {0}
AreInOrder (b ∷ bs) = AllByRecursion (λ c. b.first + b.pages ≤ c.first) bs × AreInOrder bs

-- ---- a list of entries by itself

-- the second entry begins where the first ends, and has its type and attributes
abbrev pub should_be_one : Descriptor → Descriptor → Bool
should_be_one d e =
    (d.first + d.pages == e.first) && (d.mtype == e.mtype) && (d.attributes == e.attributes)

-- an entry that a map can have
pub record IsEntry (d : Descriptor) : Type 0 where
  pub some : 0 < d.pages
  pub within : d.first + d.pages ≤ page_count
  pub mtype : is_machine_type d.mtype ≡ true
  pub no_runtime : d.mtype ≡ conventional → has_runtime d.attributes ≡ false

-- the next entry, if there is one, is another block
abbrev pub IsApart : Descriptor → List Descriptor → Type 0
IsApart d [] = Unit {0}
IsApart d (e ∷ es) = should_be_one d e ≡ false

-- a list that is a map: entries in order, no two neighbours of which should be one
abbrev pub IsMap : List Descriptor → Type 0
IsMap [] = Unit {0}
IsMap (d ∷ ds) =
    IsEntry d × AllByRecursion (λ e. d.first + d.pages ≤ e.first) ds × IsApart d ds × IsMap ds

-- the memory that entries represent, all of it the machine's own
abbrev pub memory_of : List Descriptor → List Page
memory_of ds =
    flat_map
    (λ d. row d.pages
    (record { number = d.first; mtype = d.mtype; attributes = d.attributes; owner = Given })) ds
