-- The memory: the list of its present pages, by ascending number. A page that the list lacks is
-- absent.
use Rattle.std.specs.Prelude.{◌≡◌, ℕ, zero, suc, ◌+◌, ◌<◌, ◌≤◌, Bool, true, false, ◌&&◌, ◌==◌, nat_le, nat_lt, List, [], ◌∷◌, map, Option, Some, None, if◌then◌else◌}
use Rattle.std.specs.List.{AllByRecursion}
use Rattle.page_ranges.specs.declared.ranges.Owner.{Owner}
use Rattle.page_ranges.specs.declared.ranges.Owner.TheVariants.{Given}
use Rattle.page_ranges.specs.declared.ranges.PageRange.{PageRange}
use Rattle.page_ranges.specs.MemoryTypes.{page_count, conventional, has_runtime, attributes_as, is_machine_type}

-- a present page: its number, its type, its attributes and its owner
pub record Page : Type 0 where
  pub number : ℕ
  pub mtype : ℕ
  pub attributes : ℕ
  pub owner : Owner

-- the page with a number, `None` where it is absent
abbrev pub page_at : List Page → ℕ → Option Page
page_at [] k = None
page_at (x ∷ xs) k = if x.number == k then Some x else page_at xs k

-- the page just below a number; there is none below 0
abbrev pub page_below : List Page → ℕ → Option Page
page_below m zero = None
page_below m (suc k) = page_at m k

-- the pages are in ascending order, each number once
abbrev pub IsAscending : List Page → Type 0
IsAscending [] = Unit {0}
IsAscending (x ∷ xs) = AllByRecursion (λ y. x.number < y.number) xs × IsAscending xs

-- The page number is in range. A conventional page has the owner Given, and lacks RUNTIME.
pub record IsProperPage (x : Page) : Type 0 where
  pub number : x.number < page_count
  pub given : x.mtype ≡ conventional → x.owner ≡ Given
  pub no_runtime : x.mtype ≡ conventional → has_runtime x.attributes ≡ false

-- each number at most once, and each page proper
pub record IsProperMemory (m : List Page) : Type 0 where
  pub ascending : IsAscending m
  pub each : AllByRecursion IsProperPage m

-- all pages have types that a machine may have
abbrev pub HasMachineTypes : List Page → Type 0
HasMachineTypes m = AllByRecursion (λ x. is_machine_type x.mtype ≡ true) m

-- ---- what is said of one page

abbrev pub IsPresent : Option Page → Type 0
IsPresent None = ⊥
IsPresent (Some x) = Unit {0}

abbrev pub IsConventional : Option Page → Type 0
IsConventional None = ⊥
IsConventional (Some x) = x.mtype ≡ conventional

abbrev pub IsOwnedBy : Owner → Option Page → Type 0
IsOwnedBy o None = ⊥
IsOwnedBy o (Some x) = x.owner ≡ o

-- ---- ranges

abbrev pub is_in_range : PageRange → ℕ → Bool
is_in_range range k = nat_le range.first k && nat_lt k (range.first + range.pages)

-- each page of the range is such
abbrev pub AllInRange : List Page → PageRange → (Option Page → Type 0) → Type 0
AllInRange m range Is = (k : ℕ) → range.first ≤ k → k < range.first + range.pages → Is (page_at m k)

-- a page once it has a type and an owner
abbrev pub retyped_page : ℕ → Owner → Page → Page
retyped_page t o x =
    record { number = x.number; mtype = t; attributes = attributes_as t x.attributes; owner = o }

-- The memory once the pages of a range have a type and an owner, all other pages as before. A
-- placement is one use of it; freeing, which gives the conventional type and the owner Given, is
-- the other.
abbrev pub retyped : PageRange → ℕ → Owner → List Page → List Page
retyped range t o m = map (λ x. if is_in_range range x.number then retyped_page t o x else x) m

-- ---- pages in a row

-- a number of pages in a row, the first of which is this one
unfoldable pub row : ℕ → Page → List Page
row zero x = []
row (suc n) x = x ∷ row n (record x { number = x.number + 1 })
