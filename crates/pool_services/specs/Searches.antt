-- What is found in an extent and among extents.
use Rattle.std.specs.Prelude.{◌≡◌, ℕ, suc, ◌+◌, ◌==◌, ◌&&◌, take, ◌<◌, ◌≤◌, nat_le, slice_index_or, Bool, true, false, cond, is_some, List, [], ◌∷◌, length, drop, map, set, Option, Some, None, ◌≢◌, IsTrue, ◌↔◌}
use Rattle.std.specs.List.{AllByRecursion}
use Rattle.raw_pool.specs.Blocks.{Block, block_at, cells_for, longest_run, lowest_fit, without_block}
use Rattle.pool_services.specs.declared.extents.Freed.{Freed}
use Rattle.pool_services.specs.declared.extents.Freed.TheVariants.{Back, Last, NoBlock}
use Rattle.pool_services.specs.declared.rooms.Room.{Room}
use Rattle.pool_services.specs.PoolRules.{IsInBlock, extent_type}
use Rattle.pool_services.specs.Extents.{place_of, written, AreExtents, Extent, Place, ended, without, address_of, cell_of, cells_in, first_fit, fit_in, with_new_block, tail_in, with_blocks, written_in}
use Rattle.pool_services.specs.Regions.{with_block_at}
use Rattle.pool_services.specs.Rooms.{room_of}

-- an address lies between the lowest that a block of the extent can have and the end of the last
abbrev pub HoldsAddress : Extent → ℕ → Type 0
HoldsAddress e address =
    (address_of e.first 0 ≤ address) × (address < address_of e.first (cells_in e.pages))

-- no block begins at a cell above one, up to another
abbrev pub NoneBetween : ℕ → ℕ → List Block → Type 0
NoneBetween above cell bs = (k : ℕ) → above < k → k ≤ cell → block_at k bs ≡ None

-- the last cell up to one at which a block begins
abbrev pub IsLastUpTo : ℕ → List Block → Option ℕ → Type 0
IsLastUpTo cell bs None = (k : ℕ) → k ≤ cell → block_at k bs ≡ None
IsLastUpTo cell bs (Some last) =
    (last ≤ cell) × (is_some (block_at last bs) ≡ true) × NoneBetween last cell bs

-- the bytes of a block from a place on, if there is the block and the place is not behind its end
abbrev pub tail_from : ℕ → Option Block → Option (List ℕ)
tail_from at None = None
tail_from at (Some b) = cond (nat_le at b.size) (Some (drop at b.bytes)) None

-- the block that an address belongs to if it does to any, and the place of the address in it
abbrev pub IsLocated : Extent → ℕ → Option (ℕ × ℕ) → Type 0
IsLocated e address None = tail_in e.first address e.blocks ≡ None
IsLocated e address (Some (cell, at)) =
    (is_some (block_at cell e.blocks) ≡ true) × (address ≡ address_of e.first cell + at)
    × (tail_in e.first address e.blocks ≡ tail_from at (block_at cell e.blocks))

-- there are bytes, at least a number of them
abbrev pub HasRoom : ℕ → Option (List ℕ) → Type 0
HasRoom count None = ⊥
HasRoom count (Some bytes) = count ≤ length bytes

-- the extent once bytes are written, if they are
abbrev pub written_if : Bool → ℕ → List ℕ → Extent → Extent
written_if done address bytes e =
    cond done (with_blocks (written_in e.first address bytes e.blocks) e) e

-- the extent at an index
abbrev pub IsAt : List Extent → ℕ → Extent → Type 0
IsAt es i e = (i < length es) × (e ≡ slice_index_or es i e)

-- the extent that holds an address, by its index; else no extent holds it
abbrev pub IsHolder : List Extent → ℕ → Option ℕ → Type 0
IsHolder es address None = AllByRecursion (λ e. ¬ HoldsAddress e address) es
IsHolder es address (Some i) = (e : Extent) × IsAt es i e × HoldsAddress e address

-- an extent has a page
abbrev pub HasPage : Extent → ℕ → Type 0
HasPage e page = (e.first ≤ page) × (page < e.first + e.pages)

-- the extent that a page is of, by its index; else it is of none
abbrev pub IsPageHolder : List Extent → ℕ → Option ℕ → Type 0
IsPageHolder es page None = AllByRecursion (λ e. ¬ HasPage e page) es
IsPageHolder es page (Some i) = (e : Extent) × IsAt es i e × HasPage e page

-- how many items at the front pass a test
abbrev pub place : {X : Type 0} → (X → Bool) → List X → ℕ
place p [] = 0
place p (x ∷ xs) = cond (p x) (suc (place p xs)) 0

-- how many items pass a test
abbrev pub passing : {X : Type 0} → (X → Bool) → List X → ℕ
passing p [] = 0
passing p (x ∷ xs) = cond (p x) (suc (passing p xs)) (passing p xs)

-- how many rooms begin at or below a page
abbrev pub begun : ℕ → List Room → ℕ
begun page rs = passing (λ (r : Room). nat_le r.first page) rs

-- how many extents in order begin at or below a page, by their rooms
abbrev pub IsCountUpTo : ℕ → List Room → ℕ → Type 0
IsCountUpTo page rs n =
    (es : List Extent) → AreExtents es → rs ≡ map room_of es
    → n ≡ place (λ e. nat_le e.first page) es

-- whether an extent is of a type and has a number of free cells in a row
abbrev pub has_run : ℕ → ℕ → Extent → Bool
has_run t cells e = (e.mtype == t) && nat_le cells (longest_run (cells_in e.pages) 0 e.blocks)

-- the first extent of a type that has a number of free cells in a row, by its index
abbrev pub IsFirstWithRoom : ℕ → ℕ → List Extent → Option ℕ → Type 0
IsFirstWithRoom t cells es None = AllByRecursion (λ e. has_run t cells e ≡ false) es
IsFirstWithRoom t cells es (Some i) =
    (e : Extent) × IsAt es i e × (has_run t cells e ≡ true)
    × AllByRecursion (λ e. has_run t cells e ≡ false) (take i es)

-- a block was taken in the extent at an index, if it has room: its address, and the extents after
-- it
abbrev pub IsTakenAt : ℕ → ℕ → List Extent → Option ℕ → List Extent → Type 0
IsTakenAt i size es None new = (new ≡ es) × ((e : Extent) → IsAt es i e → fit_in size e ≡ None)
IsTakenAt i size es (Some address) new =
    (e : Extent) × (cell : ℕ) × IsAt es i e
    × (Some cell ≡ lowest_fit (cells_in e.pages) (cells_for size) 0 e.blocks)
    × (address ≡ address_of e.first cell) × (new ≡ set es i (with_block_at cell size e))

-- a block was taken in a live extent, if one of its type has room: its address, and the extents
-- after it
abbrev pub IsTakenLive : ℕ → ℕ → List Extent → Option ℕ → List Extent → Type 0
IsTakenLive t size es None new = (new ≡ es) × (first_fit t size es ≡ None)
IsTakenLive t size es (Some address) new =
    (p : Place) × (first_fit t size es ≡ Some p) × (address ≡ address_of p.first p.cell)
    × (new ≡ with_new_block p size es)

-- the extents once the block at a cell of the one at an index was given back, which was not the
-- only one there
abbrev pub IsGivenIn : ℕ → ℕ → List Extent → List Extent → Type 0
IsGivenIn i cell es new =
    (e : Extent) × IsAt es i e × (new ≡ without (record { first = e.first; cell = cell }) es)
    × (ended (record { first = e.first; cell = cell }) es ≡ None)
    × ((k : ℕ) → extent_type k new ≡ extent_type k es)

-- what comes of giving back the block that has an address in an extent, and the extent then
abbrev pub IsFreed : ℕ → Extent → Freed → Extent → Type 0
IsFreed address e NoBlock new = (cell_of e.first address e.blocks ≡ None) × (new ≡ e)
IsFreed address e Back new =
    (cell : ℕ) × (cell_of e.first address e.blocks ≡ Some cell) × (length e.blocks ≢ 1)
    × (new ≡ with_blocks (without_block cell e.blocks) e)
IsFreed address e (Last cell) new =
    (cell_of e.first address e.blocks ≡ Some cell) × (length e.blocks ≡ 1) × (new ≡ e)

-- the same in the extent at an index, and the extents then
abbrev pub IsFreedAt : ℕ → ℕ → List Extent → Freed → List Extent → Type 0
IsFreedAt i address es freed new =
    (e : Extent) × (left : Extent) × IsAt es i e × IsFreed address e freed left
    × (new ≡ set es i left)

-- the extent at an index has one block
abbrev pub HasOneBlock : ℕ → List Extent → Type 0
HasOneBlock i es = (e : Extent) × IsAt es i e × (length e.blocks ≡ 1)

-- the block that has an address: the index of its extent and its cell, among extents in order
abbrev pub IsFound : ℕ → List Extent → Option (ℕ × ℕ) → Type 0
IsFound address es None = place_of address es ≡ None
IsFound address es (Some (i, cell)) =
    (e : Extent) × IsAt es i e × (is_some (block_at cell e.blocks) ≡ true)
    × (place_of address es ≡ Some (record { first = e.first; cell = cell })) × AreExtents es

-- bytes were written into the block that they lie in, if they lie in one
abbrev pub IsWrittenIn : ℕ → List ℕ → List Extent → Bool → List Extent → Type 0
IsWrittenIn address bytes es true new =
    IsInBlock address (length bytes) es × (new ≡ written address bytes es)
IsWrittenIn address bytes es false new = (¬ IsInBlock address (length bytes) es) × (new ≡ es)

-- bytes were written in the extent at an index, if they lie in one of its blocks
abbrev pub IsWrittenAt : ℕ → ℕ → List ℕ → List Extent → Bool → List Extent → Type 0
IsWrittenAt i address bytes es done new =
    (e : Extent) × IsAt es i e
    × (IsTrue done ↔ HasRoom (length bytes) (tail_in e.first address e.blocks))
    × (new ≡ set es i (written_if done address bytes e))
