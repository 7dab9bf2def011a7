-- Extents in groups.
use Rattle.std.specs.Prelude.{◌≡◌, ℕ, suc, ◌+◌, ◌<◌, ◌≤◌, ◌++◌, List, [], ◌∷◌, drop, length, map, slice_index_or, take, vec_capacity, vec_len}
use Rattle.std.specs.List.{AllByRecursion, flat_map}
use Rattle.pool_services.specs.Extents.{AreExtents, Extent}
use Rattle.pool_services.specs.declared.extent_group.ExtentGroup.{ExtentGroup}

-- the extents of each group
abbrev pub rows_of : {A : Type 0} → List (ExtentGroup A) → List (List Extent)
rows_of gs = map (λ g. g.extents.items) gs

-- the extents of all groups, in their order
abbrev pub joined : List (List Extent) → List Extent
joined rows = flat_map (λ es. es) rows

-- each group but the first has an extent
abbrev pub AreUsed : List (List Extent) → Type 0
AreUsed rows = AllByRecursion (λ es. 0 < length es) (drop 1 rows)

-- the extents of all groups are apart, and each group but the first has one
abbrev pub AreApart : {A : Type 0} → List (ExtentGroup A) → Type 0
AreApart gs = AreExtents (joined (rows_of gs)) × AreUsed (rows_of gs)

-- the page at which the first of some extents begins, 0 where there is none
abbrev pub first_page : List Extent → ℕ
first_page [] = 0
first_page (e ∷ es) = e.first

-- A group in which an extent that begins at a page or has it belongs, if there is a group: the
-- extents of all groups before it end at or below the page, those of all groups behind it begin
-- above it.
pub record IsGroupOf (page : ℕ) (rows : List (List Extent)) (at : ℕ) : Type 0 where
  pub within : 0 < length rows → at < length rows
  pub below : AllByRecursion (λ e. e.first + e.pages ≤ page) (joined (take at rows))
  pub above : AllByRecursion (λ e. page < e.first) (joined (drop (suc at) rows))

-- the extents without the one at an index
abbrev pub without_extent : ℕ → List Extent → List Extent
without_extent i es = take i es ++ drop (i + 1) es

-- ---- memory for one more

-- a group has memory for one extent more
abbrev pub HasPlace : {A : Type 0} → ExtentGroup A → Type 0
HasPlace g =
    (vec_len g.extents < vec_capacity g.extents)
    × (vec_len g.rooms.rooms < vec_capacity g.rooms.rooms)

-- there is a group at an index, and it has memory for one extent more
abbrev pub HasPlaceAt : {A : Type 0} → List (ExtentGroup A) → ℕ → Type 0
HasPlaceAt {A} gs at =
    (at < length gs) × ((g : ExtentGroup A) → g ≡ slice_index_or gs at g → HasPlace g)
