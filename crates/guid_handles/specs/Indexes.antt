-- The keys of interfaces by handle in rows, and their stamps by GUID in groups.
use Rattle.std.specs.Prelude.{◌≡◌, ◌≢◌, ℕ, ◌<◌, ◌≤◌, ◌==◌, ◌&&◌, nat_eq, nat_lt, Bool, true, false, cond, List, [], ◌∷◌, map, length, Option, None, Some, slice_index_or}
use Rattle.std.specs.List.{find, filter_map, list_any, AllByRecursion, slice_get}
use Rattle.std.specs.Option.{option_and_then, option_map}
use Rattle.std.specs.declared.cmp.Ordering.TheVariants.{Less}
use Rattle.std.specs.Ordering.{nat_cmp, is_lt}
use Rattle.std.specs.Cmp.Lexicographic.{slice_cmp}
use Rattle.guid_handles.specs.declared.records.Interface.{Interface}
use Rattle.guid_handles.specs.declared.records.LiveHandle.{LiveHandle}
use Rattle.guid_handles.specs.HandleTables.{same_guid, has_number, is_at}
use Rattle.guid_handles.specs.Sorting.{Ascending, place}

-- ---- by handle

-- a live handle, and the keys of the interfaces on it in order of installation
pub record Row : Type 0 where
  pub live : LiveHandle
  pub keys : List ℕ

abbrev pub lives : List Row → List LiveHandle
lives rows = map (λ r. r.live) rows

abbrev pub row_numbers : List Row → List ℕ
row_numbers rows = map (λ r. r.live.number) rows

abbrev pub is_row_of : ℕ → Row → Bool
is_row_of n r = has_number n r.live

abbrev pub keys_of : Option Row → List ℕ
keys_of None = []
keys_of (Some r) = r.keys

-- the keys in the row of a handle, none if there is no such row
abbrev pub keys_on : List Row → ℕ → List ℕ
keys_on rows n = keys_of (find (is_row_of n) rows)

-- the row at a place of a slab
abbrev pub row_at : List (Option Row) → ℕ → Option Row
row_at slots p = slice_index_or slots p None

-- the rows at places
abbrev pub rows_at : List (Option Row) → List ℕ → List Row
rows_at slots ps = filter_map (row_at slots) ps

-- the row at a place is of a handle
abbrev pub IsPlaceOfRow : List (Option Row) → ℕ → ℕ → Type 0
IsPlaceOfRow slots n p = option_map (λ r. r.live.number) (row_at slots p) ≡ Some n

abbrev pub with_keys : (List ℕ → List ℕ) → Row → Row
with_keys f r = record r { keys = f r.keys }

-- the keys in the row at a place change, and no other row
pub record ChangesRow (p : ℕ) (f : List ℕ → List ℕ) (old new : List (Option Row)) : Type 0 where
  pub here : row_at new p ≡ option_map (with_keys f) (row_at old p)
  pub others : (q : ℕ) → q ≢ p → row_at new q ≡ row_at old q

-- the keys of one handle change, and nothing else of the rows
pub record ChangesKeys (n : ℕ) (f : List ℕ → List ℕ) (old new : List Row) : Type 0 where
  pub lives : lives new ≡ lives old
  pub keys : (m : ℕ) → keys_on new m ≡ cond (n == m) (f (keys_on old m)) (keys_on old m)

-- ---- by GUID

-- a GUID, the handles that carry it, and beside each the stamp of its interface
pub record Group : Type 0 where
  pub guid : List ℕ
  pub holders : List ℕ
  pub stamps : List ℕ

-- handles that ascend, and as many stamps
pub record AreBeside (holders stamps : List ℕ) : Type 0 where
  pub ascending : Ascending (λ a b. a < b) holders
  pub even : length holders ≡ length stamps

-- the number beside a handle
abbrev pub number_beside : List ℕ → List ℕ → ℕ → Option ℕ
number_beside [] ss n = None
number_beside (h ∷ hs) [] n = None
number_beside (h ∷ hs) (s ∷ ss) n = cond (h == n) (Some s) (number_beside hs ss n)

abbrev pub stamp_in : Group → ℕ → Option ℕ
stamp_in g n = number_beside g.holders g.stamps n

-- a group is of a GUID
abbrev pub is_group_of : List ℕ → Group → Bool
is_group_of guid g = same_guid g.guid guid

-- a group's GUID comes before a GUID, by bytes
abbrev pub is_before : List ℕ → Group → Bool
is_before guid g = is_lt (slice_cmp nat_cmp g.guid guid)

-- groups by ascending GUID
abbrev pub AscendByGuid : List Group → Type 0
AscendByGuid groups = Ascending (λ a b. slice_cmp nat_cmp a b ≡ Less) (map (λ g. g.guid) groups)

-- a group has no holders
abbrev pub is_bare : Group → Bool
is_bare g = length g.holders == 0

-- groups by ascending GUID, none of them bare
pub record AreGroups (groups : List Group) : Type 0 where
  pub ascending : AscendByGuid groups
  pub held : AllByRecursion (λ g. is_bare g ≡ false) groups

-- the place of the group of a GUID
abbrev pub IsPlaceOf : List ℕ → List Group → ℕ → Type 0
IsPlaceOf guid groups at = (at < length groups)
    × (find (is_group_of guid) groups ≡ slice_get groups at) × (at ≡ place (is_before guid) groups)

-- the stamp of the interface of a GUID on a handle
abbrev pub stamp_at : List Group → List ℕ → ℕ → Option ℕ
stamp_at groups guid n = option_and_then (λ g. stamp_in g n) (find (is_group_of guid) groups)

-- the stamp beside one handle becomes another or goes, and no other does
abbrev pub SetsStampIn : ℕ → Option ℕ → Group → Group → Type 0
SetsStampIn handle stamp old new =
    (n : ℕ) → stamp_in new n ≡ cond (handle == n) stamp (stamp_in old n)

-- the stamp of one GUID on one handle becomes another or goes, and no other does
abbrev pub SetsStamp : List ℕ → ℕ → Option ℕ → List Group → List Group → Type 0
SetsStamp guid handle stamp old new = (k : List ℕ) (n : ℕ)
    → stamp_at new k n ≡ cond ((handle == n) && same_guid guid k) stamp (stamp_at old k n)

-- the stamp of an interface is added
abbrev pub AddsStamp : Interface → List Group → List Group → Type 0
AddsStamp i old new = SetsStamp i.guid i.handle (Some i.stamp) old new

-- each stamp is the same
abbrev pub HaveSameStamps : List Group → List Group → Type 0
HaveSameStamps old new = (k : List ℕ) (n : ℕ) → stamp_at new k n ≡ stamp_at old k n

-- ---- the next stamp

-- the earlier one of a handle with a stamp, and another if there is one
abbrev pub sooner : ℕ → ℕ → Option (ℕ × ℕ) → Option (ℕ × ℕ)
sooner h s None = Some (h, s)
sooner h s (Some p) = cond (nat_lt p.1 s) (Some p) (Some (h, s))

-- the handle with the least stamp above a mark, and this stamp
abbrev pub least_after : ℕ → List ℕ → List ℕ → Option (ℕ × ℕ)
least_after mark [] ss = None
least_after mark (h ∷ hs) [] = None
least_after mark (h ∷ hs) (s ∷ ss) =
    cond (nat_lt mark s) (sooner h s (least_after mark hs ss)) (least_after mark hs ss)

-- Of the stamps of some handles, the least one above a mark, with its handle; none if none is above.
abbrev pub IsNext : ℕ → (ℕ → Option ℕ) → Option (ℕ × ℕ) → Type 0
IsNext mark there None = (n s : ℕ) → there n ≡ Some s → nat_lt mark s ≡ false
IsNext mark there (Some p) = (there p.0 ≡ Some p.1) × (nat_lt mark p.1 ≡ true)
    × ((n s : ℕ) → there n ≡ Some s → nat_lt mark s ≡ true → p.1 ≤ s)

-- ---- pairs and interfaces

-- each interface is on a handle of these numbers
abbrev pub AreOn : List ℕ → List Interface → Type 0
AreOn numbers interfaces =
    AllByRecursion (λ i. list_any (λ n. nat_eq n i.handle) numbers ≡ true) interfaces

-- none of the GUIDs of some pairs is on a handle
abbrev pub AreAbsent : ℕ → List (List ℕ × ℕ) → List Interface → Type 0
AreAbsent n pairs interfaces = AllByRecursion (λ p. find (is_at n p.0) interfaces ≡ None) pairs
