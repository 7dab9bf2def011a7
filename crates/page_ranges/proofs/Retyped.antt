-- A memory once a range has a type and an owner.
use Rattle.std.proofs.Common.{◌≡◌, ℕ, ◌+◌, ◌<◌, ◌≤◌, true, false, cond, ◌⊎◌, List, [], ◌∷◌, ◌++◌, inl, inr, true≢false, refl, sym, ap, ◌∙◌, arith}
use Rattle.std.specs.List.{AllByRecursion}
use Rattle.std.specs.Option.{option_map}
use Rattle.std.proofs.lemmas.Bool.{cond_both, cond-true, cond-false, and_from, and_left, and_right, le-leb, lt-leb, lt-ltb, le-ltb, cases_lt, or_left, or_right}
use Rattle.std.proofs.lemmas.List.{map-append}
use Rattle.page_ranges.specs.declared.ranges.Owner.{Owner}
use Rattle.page_ranges.specs.declared.ranges.Owner.TheVariants.{Given}
use Rattle.page_ranges.specs.declared.ranges.PageRange.{PageRange}
use Rattle.page_ranges.specs.MemoryTypes.{conventional, is_bad_type, is_machine_type}
use Rattle.page_ranges.specs.Memory.{Page, page_at, page_below, IsAscending, IsProperPage, IsProperMemory, HasMachineTypes, is_in_range, retyped_page, retyped}
use Rattle.page_ranges.proofs.Attributes.{conventional_lacks_runtime}
use Rattle.page_ranges.proofs.Lookups.{page_at-map, page_below-map, IsAscending-map}

pub in_range : (range : PageRange) (k : ℕ) → range.first ≤ k → k < range.first + range.pages → is_in_range range k ≡ true
in_range range k h l = and_from _ _ (le-leb range.first k h) (lt-ltb k (range.first + range.pages) l)

pub below_range : (range : PageRange) (k : ℕ) → k < range.first → is_in_range range k ≡ false
below_range range k h = and_left _ _ (lt-leb range.first k h)

pub above_range : (range : PageRange) (k : ℕ) → range.first + range.pages ≤ k → is_in_range range k ≡ false
above_range range k h = and_right _ _ (le-ltb k (range.first + range.pages) h)

-- the change that `retyped` makes of each page
abbrev pub changed : PageRange → ℕ → Owner → Page → Page
changed range t o x = cond (is_in_range range x.number) (retyped_page t o x) x

pub changed-number : (range : PageRange) (t : ℕ) (o : Owner) (x : Page) → (changed range t o x).number ≡ x.number
changed-number range t o x = elim (is_in_range range x.number) as (λ b. (cond b (retyped_page t o x) x).number ≡ x.number) [ true ↦ refl | false ↦ refl ]

pub changed_in : (range : PageRange) (t : ℕ) (o : Owner) (x : Page) → range.first ≤ x.number → x.number < range.first + range.pages → changed range t o x ≡ retyped_page t o x
changed_in range t o x h l = cond-true _ _ _ (in_range range x.number h l)

pub changed_below : (range : PageRange) (t : ℕ) (o : Owner) (x : Page) → x.number < range.first → changed range t o x ≡ x
changed_below range t o x h = cond-false _ _ _ (below_range range x.number h)

pub changed_above : (range : PageRange) (t : ℕ) (o : Owner) (x : Page) → range.first + range.pages ≤ x.number → changed range t o x ≡ x
changed_above range t o x h = cond-false _ _ _ (above_range range x.number h)

-- ---- lookups

pub page_at-retyped : (range : PageRange) (t : ℕ) (o : Owner) (m : List Page) (k : ℕ) → page_at (retyped range t o m) k ≡ option_map (changed range t o) (page_at m k)
page_at-retyped range t o m k = page_at-map (changed range t o) (changed-number range t o) m k

pub page_below-retyped : (range : PageRange) (t : ℕ) (o : Owner) (m : List Page) (k : ℕ) → page_below (retyped range t o m) k ≡ option_map (changed range t o) (page_below m k)
page_below-retyped range t o m k = page_below-map (changed range t o) (changed-number range t o) m k

pub retyped-append : (range : PageRange) (t : ℕ) (o : Owner) (m n : List Page) → retyped range t o (m ++ n) ≡ retyped range t o m ++ retyped range t o n
retyped-append range t o m n = map-append (changed range t o) m n

pub retyped-ascending : (range : PageRange) (t : ℕ) (o : Owner) (m : List Page) → IsAscending m → IsAscending (retyped range t o m)
retyped-ascending range t o m a = IsAscending-map (changed range t o) (changed-number range t o) m a

-- ---- a memory stays proper

module _ (range : PageRange) (t : ℕ) (o : Owner) (given : t ≡ conventional → o ≡ Given) where
  changed-proper : (x : Page) → IsProperPage x → IsProperPage (changed range t o x)
  changed-proper x is = cond_both (is_in_range range x.number) (retyped_page t o x) x IsProperPage (λ b. record { number = is.number; given = given; no_runtime = conventional_lacks_runtime t x.attributes }) (λ b. is)

  each_proper : (m : List Page) → AllByRecursion IsProperPage m → AllByRecursion IsProperPage (retyped range t o m)
  each_proper [] a = tt
  each_proper (x ∷ m) a = (changed-proper x a.0, each_proper m a.1)

  pub retyped-proper : (m : List Page) → IsProperMemory m → IsProperMemory (retyped range t o m)
  retyped-proper m is = record { ascending = retyped-ascending range t o m is.ascending; each = each_proper m is.each }

-- ---- a memory keeps to types of machines

-- a number that is no type of machines is a bad type
pub good_type : (t : ℕ) → is_bad_type t ≡ false → is_machine_type t ≡ true
good_type t good = elim (cases_lt 15 t) [
  | inr low ↦ or_left _ _ (le-leb t 15 low)
  | inl above ↦ elim (cases_lt t 0x70000000) [
    | inr high ↦ or_right _ _ (le-leb 0x70000000 t high)
    | inl below ↦ absurd (true≢false (sym (or_right _ _ (and_from _ _ (le-leb 16 t (omega arith)) (le-leb t 0x6fffffff (omega arith)))) ∙ good))
  ]
]

module _ (range : PageRange) (t : ℕ) (o : Owner) (typed : is_machine_type t ≡ true) where
  pub retyped-typed : (m : List Page) → HasMachineTypes m → HasMachineTypes (retyped range t o m)
  retyped-typed [] a = tt
  retyped-typed (x ∷ m) a = (cond_both (is_in_range range x.number) (retyped_page t o x) x (λ y. is_machine_type y.mtype ≡ true) (λ b. typed) (λ b. a.0), retyped-typed m a.1)

pub machine_type : (t : ℕ) → (is_bad_type t ≡ false) ⊎ (t ≡ conventional) → is_machine_type t ≡ true
machine_type t (inl good) = good_type t good
machine_type t (inr free) = ap is_machine_type free
