-- Pages and entries whose numbers fit the fields of a record.
use Rattle.std.proofs.Common.{◌≡◌, ℕ, ◌-◌, ◌^◌, ◌<◌, ◌||◌, eqb, bit_and, bit_or, cond, true, false, List, [], ◌∷◌, Option, Some, None, Contains, refl, arith}
use Rattle.std.proofs.lemmas.Bool.{cond_both}
use Rattle.std.proofs.lemmas.Nat.{or_lt}
use Rattle.std.specs.List.{AllByRecursion}
use Rattle.page_ranges.specs.declared.ranges.Descriptor.{Descriptor}
use Rattle.page_ranges.specs.declared.ranges.Owner.{Owner}
use Rattle.page_ranges.specs.declared.ranges.PageRange.{PageRange}
use Rattle.page_ranges.specs.declared.ranges.Run.{Run}
use Rattle.page_ranges.specs.MemoryTypes.{runtime, attributes_as}
use Rattle.page_ranges.specs.Memory.{Page, page_at, IsProperMemory, is_in_range, retyped, retyped_page}
use Rattle.page_ranges.specs.MemoryMap.{memory_map, IsLike, IsIn}
use Rattle.page_ranges.specs.Runs.{page_in, pages_of}
use Rattle.page_ranges.proofs.Blocks.{entry_is_block, entry_end}
use Rattle.page_ranges.proofs.Lookups.{page_at-all}
use Rattle.page_ranges.proofs.Members.{member_first, member_later}
use Rattle.page_ranges.proofs.Rows.{all-row}
use Rattle.map_keys.specs.Records.{IsRecordEntry}
use Rattle.boot_machines.specs.MachineRuns.{HasRecordNumbers}

pub record FitsFields (x : Page) : Type 0 where
  pub mtype : x.mtype < 2 ^ 32
  pub attributes : x.attributes < 2 ^ 64

abbrev pub HaveFields : List Page → Type 0
HaveFields m = AllByRecursion FitsFields m

attributes_fit : (t a : ℕ) → a < 2 ^ 64 → attributes_as t a < 2 ^ 64
attributes_fit t a h = elim (eqb t 5 || eqb t 6) as (λ c. cond c (bit_or a runtime) (a - bit_and a runtime) < 2 ^ 64) [
  | true ↦ or_lt 64 a runtime h (omega arith)
  | false ↦ omega (arith, h)
]

module _ (range : PageRange) (t : ℕ) (o : Owner) (fits : t < 2 ^ 32) where
  pub retyped-fields : (m : List Page) → HaveFields m → HaveFields (retyped range t o m)
  retyped-fields [] a = tt
  retyped-fields (x ∷ m) a =
      (cond_both (is_in_range range x.number) (retyped_page t o x) x FitsFields (λ b. record { mtype = fits; attributes = attributes_fit t x.attributes a.0.attributes }) (λ b. a.0), retyped-fields m a.1)

pub first_fields : (rs : List Run) → AllByRecursion HasRecordNumbers rs → HaveFields (pages_of rs)
first_fields [] a = tt
first_fields (r ∷ rs) a = all-row FitsFields (pages_of rs) r.range.pages (page_in r.range.first r) (λ k low high. record { mtype = a.0.mtype; attributes = a.0.attributes }) (first_fields rs a.1)

like_page : (b : Descriptor) (o : Option Page) → IsLike b o → (x : Page) × (o ≡ Some x) × (x.mtype ≡ b.mtype) × (x.attributes ≡ b.attributes)
like_page b None h = absurd h
like_page b (Some x) h = (x, refl, h.0, h.1)

each_member : {X : Type 0} (P : X → Type 0) (xs : List X) → ((x : X) → Contains xs x → P x) → AllByRecursion P xs
each_member P [] f = tt
each_member P (x ∷ xs) f = (f x (member_first x xs), each_member P xs (λ y h. f y (member_later x xs y h)))

-- each entry of the map is one that a record can spell
pub record_entries : (m : List Page) → IsProperMemory m → HaveFields m → AllByRecursion IsRecordEntry (memory_map m)
record_entries m proper fit = each_member IsRecordEntry (memory_map m) (λ b here.
    let is = entry_is_block m proper.ascending b here in
    let first : IsIn b b.first = record { low = omega arith; high = omega (arith, is.some) } in
    let (x, at, mtype, attributes) = like_page b (page_at m b.first) (is.all b.first first) in
    let page = page_at-all FitsFields m b.first x fit at in
    record {
      mtype = omega (arith, page.mtype, mtype);
      some = is.some;
      within = entry_end m proper b here;
      attributes = omega (arith, page.attributes, attributes);
    })
