-- What a search for room looks for in the conventional entries of a memory map.
use Rattle.std.specs.Prelude.{◌≡◌, ◌⊎◌, ℕ, ◌+◌, ◌<◌, ◌≤◌, ◌==◌, max, List, [], ◌∷◌, ◌++◌, drop, filter, map, Option, Some, None, if◌then◌else◌}
use Rattle.std.specs.List.{AllByRecursion}
use Rattle.page_ranges.specs.declared.ranges.Descriptor.{Descriptor}
use Rattle.page_ranges.specs.declared.ranges.Run.{Run}
use Rattle.page_ranges.specs.MemoryTypes.{conventional}
use Rattle.page_ranges.specs.Memory.{Page, page_at, page_below, IsConventional}
use Rattle.page_ranges.specs.Cursors.{IsBlockAt}
use Rattle.page_ranges.specs.Runs.{pages_of}
use Rattle.descriptor_table.specs.declared.wanted.Wanted.{Wanted}
use Rattle.descriptor_table.specs.FreeLists.{FreeList}
use Rattle.descriptor_table.specs.Leaves.{leaf_at, runs_in}
use Rattle.descriptor_table.specs.Tables.{entry_of, IsBlockBelow}

-- 1 where a page is of a type
abbrev pub is_of : ℕ → Option Page → ℕ
is_of t None = 0
is_of t (Some x) = if x.mtype == t then 1 else 0

-- what a placement of a number of pages in an entry gains at most: 1 if it fills the entry, and 1
-- for each neighbour of its type that it meets
abbrev pub most_gain : ℕ → ℕ → ℕ → ℕ → ℕ
most_gain n pages below above = if n == pages then 1 + below + above else max below above

-- In a conventional entry that begins below the limit no placement gains enough. If the entry above
-- is conventional too, a placement may go on there, and only more than the most is too much to ask.
pub record GainsLittle (m : List Page) (w : Wanted) (e : Descriptor) : Type 0 where
  pub within : w.pages ≤ e.pages
      → most_gain w.pages e.pages (is_of w.mtype (page_below m e.first))
      (is_of w.mtype (page_at m (e.first + e.pages))) < w.gain
  pub beyond : IsConventional (page_at m (e.first + e.pages)) → 3 < w.gain

-- a conventional entry is of no use
abbrev pub IsOfNoUse : List Page → Wanted → Descriptor → Type 0
IsOfNoUse m w e = (w.limit ≤ e.first) ⊎ GainsLittle m w e

-- a memory, those conventional entries of its map that are in leaves still to come, and how many
-- leaves these are
pub record EntriesLeft : Type 0 where
  pub memory : List Page
  pub entries : List Descriptor
  pub leaves : ℕ

-- a memory, and a conventional entry of its map
pub record EntryOfMap : Type 0 where
  pub memory : List Page
  pub entry : Descriptor

-- a block that has the page just below an entry, or none where that page is absent
abbrev pub IsBlockBefore : EntryOfMap → Option Descriptor → Type 0
IsBlockBefore f o = IsBlockBelow f.memory f.entry.first o

-- a block that has the page just after an entry, or none where that page is absent
abbrev pub IsBlockBehind : EntryOfMap → Option Descriptor → Type 0
IsBlockBehind f o = IsBlockAt f.memory (f.entry.first + f.entry.pages) o

-- the page just after an entry is conventional
abbrev pub IsFreeBehind : EntryOfMap → Type 0
IsFreeBehind f = IsConventional (page_at f.memory (f.entry.first + f.entry.pages))

-- The answer is the entries of a leaf, which come right after those that are left then, except for some
-- of no use after them; or all that are left are of no use.
abbrev pub YieldsLeafEntries : Wanted → EntriesLeft → Option FreeList → EntriesLeft → Type 0
YieldsLeafEntries w old None new = AllByRecursion (IsOfNoUse old.memory w) old.entries
YieldsLeafEntries w old (Some l) new = (l.memory ≡ old.memory) × (new.leaves < old.leaves)
    × ((passed : List Descriptor) × (old.entries ≡ new.entries ++ (l.entries ++ passed))
    × AllByRecursion (IsOfNoUse old.memory w) passed)

-- the answer is the last entry that is left, and the others stay; or none is left
abbrev pub YieldsLast : FreeList → Option EntryOfMap → FreeList → Type 0
YieldsLast old None new = old.entries ≡ []
YieldsLast old (Some f) new =
    (f.memory ≡ old.memory) × (old.entries ≡ new.entries ++ f.entry ∷ [])

-- the answer is the first entry that is left, and the others stay; or none is left
abbrev pub YieldsFirst : FreeList → Option EntryOfMap → FreeList → Type 0
YieldsFirst old None new = old.entries ≡ []
YieldsFirst old (Some f) new = (f.memory ≡ old.memory) × (old.entries ≡ f.entry ∷ new.entries)

-- the answer is the entries of a leaf, which come right before those that are left then; or none is
-- left
abbrev pub YieldsFirstLeaf : EntriesLeft → Option FreeList → EntriesLeft → Type 0
YieldsFirstLeaf old None new = old.entries ≡ []
YieldsFirstLeaf old (Some l) new = (l.memory ≡ old.memory) × (new.leaves < old.leaves)
    × (old.entries ≡ l.entries ++ new.entries)

-- ---- free runs in leaves

-- the conventional entries that some runs are
abbrev pub entries_of : List Run → List Descriptor
entries_of rs = map entry_of (filter (λ r. r.mtype == conventional) rs)

-- the conventional entries that the runs of the leaves from an index on are
abbrev pub entries_from : List (List Run) → ℕ → List Descriptor
entries_from ls leaf = entries_of (runs_in (drop leaf ls))

-- the leaves from one index on have the same entries as those from another on
abbrev pub HaveSameEntries : List (List Run) → ℕ → ℕ → Type 0
HaveSameEntries ls low high = entries_from ls low ≡ entries_from ls high

-- no conventional run of the leaves between two indices is an entry of use
abbrev pub AreOfNoUse : Wanted → List (List Run) → ℕ → ℕ → Type 0
AreOfNoUse w ls low high =
    (j : ℕ) → low ≤ j → j < high
    → AllByRecursion (IsOfNoUse (pages_of (runs_in ls)) w) (entries_of (leaf_at ls j))

-- the answer is a leaf before an index, and those between are of no use; or all before it are
abbrev pub YieldsLeaf : Wanted → List (List Run) → ℕ → Option ℕ → Type 0
YieldsLeaf w ls high None = AreOfNoUse w ls 0 high
YieldsLeaf w ls high (Some j) = (j < high) × AreOfNoUse w ls (j + 1) high
