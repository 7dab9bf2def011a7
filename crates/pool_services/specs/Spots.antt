-- Where an extent is among groups.
use Rattle.std.specs.Prelude.{◌≡◌, ℕ, ◌+◌, ◌<◌, List, [], length, slice_index_or, take, Option, None, Some}
use Rattle.pool_services.specs.Extents.{Extent}
use Rattle.pool_services.specs.Groups.{joined, rows_of}
use Rattle.pool_services.specs.Searches.{HasOneBlock, IsFirstWithRoom, IsFound, IsGivenIn, IsHolder}
use Rattle.pool_services.specs.declared.extent_group.ExtentGroup.{ExtentGroup}
use Rattle.pool_services.specs.declared.extent_groups.Spot.{Spot}
use Rattle.pool_services.specs.declared.extents.Freed.{Freed}
use Rattle.pool_services.specs.declared.extents.Freed.TheVariants.{Back, Last, NoBlock}

-- the extents in some groups
abbrev pub extents_of : {A : Type 0} → List (ExtentGroup A) → List Extent
extents_of gs = joined (rows_of gs)

-- there is an extent at a spot
abbrev pub IsSpot : List (List Extent) → Spot → Type 0
IsSpot rows s = (s.group < length rows) × (s.at < length (slice_index_or rows s.group []))

-- the index of the extent at a spot among all extents
abbrev pub index_of : List (List Extent) → Spot → ℕ
index_of rows s = length (joined (take s.group rows)) + s.at

-- the extent that holds an address, by its spot; else no extent holds it
abbrev pub IsHolderIn : ℕ → List (List Extent) → Option Spot → Type 0
IsHolderIn address rows None = IsHolder (joined rows) address None
IsHolderIn address rows (Some s) =
    IsSpot rows s × IsHolder (joined rows) address (Some (index_of rows s))

-- the first extent of a type that has a number of free cells in a row, by its spot
abbrev pub IsFirstIn : ℕ → ℕ → List (List Extent) → Option Spot → Type 0
IsFirstIn t cells rows None = IsFirstWithRoom t cells (joined rows) None
IsFirstIn t cells rows (Some s) =
    IsSpot rows s × IsFirstWithRoom t cells (joined rows) (Some (index_of rows s))

-- What comes of giving back the block that has an address in the extent at a spot, and the extents
-- of the groups then.
abbrev pub IsFreedFrom : Spot → ℕ → List (List Extent) → Freed → List (List Extent) → Type 0
IsFreedFrom s address rows NoBlock new = IsFound address (joined rows) None × (new ≡ rows)
IsFreedFrom s address rows Back new =
    (cell : ℕ) × IsFound address (joined rows) (Some (index_of rows s, cell))
    × IsGivenIn (index_of rows s) cell (joined rows) (joined new)
IsFreedFrom s address rows (Last cell) new =
    IsFound address (joined rows) (Some (index_of rows s, cell))
    × HasOneBlock (index_of rows s) (joined rows) × (new ≡ rows)
