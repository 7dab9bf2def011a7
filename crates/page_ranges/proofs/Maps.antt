-- Lists that are maps, and the maps of proper memories.
use Rattle.std.proofs.Common.{◌≡◌, ℕ, suc, ◌+◌, ◌<◌, ◌≤◌, true, List, [], ◌∷◌, inl, inr, refl, ap, ◌∙◌, arith}
use Rattle.std.specs.List.{AllByRecursion}
use Rattle.std.proofs.lemmas.Bool.{cases_Bool, cond-false}
use Rattle.page_ranges.specs.declared.ranges.Descriptor.{Descriptor}
use Rattle.page_ranges.specs.declared.ranges.Owner.TheVariants.{Given}
use Rattle.page_ranges.specs.MemoryTypes.{is_machine_type}
use Rattle.page_ranges.specs.Memory.{Page, IsAscending, IsProperPage, IsProperMemory, HasMachineTypes}
use Rattle.page_ranges.specs.MemoryMap.{block_of, goes_on_in, with_page_below, memory_map, IsEntry, IsApart, IsMap, memory_of}
use Rattle.page_ranges.proofs.Lookups.{AllFrom}
use Rattle.page_ranges.proofs.Members.{all_implied}
use Rattle.page_ranges.proofs.Blocks.{goes_on_parts}
use Rattle.page_ranges.proofs.Rows.{all-row, ascending-row, with_row_below, memory_map-row}

-- ---- the memory of a map

abbrev pub first_page : Descriptor → Page
first_page d = record { number = d.first; mtype = d.mtype; attributes = d.attributes; owner = Given }

memory_of-from : (ds : List Descriptor) (j : ℕ) → AllByRecursion (λ e. j ≤ e.first) ds → AllFrom j (memory_of ds)
memory_of-from [] j a = tt
memory_of-from (d ∷ ds) j a = all-row (λ y. j ≤ y.number) (memory_of ds) d.pages (first_page d) (λ k l u. omega (arith, a.0)) (memory_of-from ds j a.1)

memory_of-ascending : (ds : List Descriptor) → IsMap ds → IsAscending (memory_of ds)
memory_of-ascending [] a = tt
memory_of-ascending (d ∷ ds) a = ascending-row (memory_of ds) d.pages (first_page d) (memory_of-from ds (d.first + d.pages) a.1) (memory_of-ascending ds a.3)

memory_of-each : (ds : List Descriptor) → IsMap ds → AllByRecursion IsProperPage (memory_of ds)
memory_of-each [] a = tt
memory_of-each (d ∷ ds) a =
    all-row IsProperPage (memory_of ds) d.pages (first_page d) (λ k l u. record { number = omega (arith, a.0.within, u); given = λ e. refl; no_runtime = a.0.no_runtime }) (memory_of-each ds a.3)

pub memory_of-proper : (ds : List Descriptor) → IsMap ds → IsProperMemory (memory_of ds)
memory_of-proper ds a = record { ascending = memory_of-ascending ds a; each = memory_of-each ds a }

apart_alone : (d : Descriptor) (es : List Descriptor) → IsApart d es → with_row_below d.pages (first_page d) es ≡ d ∷ es
apart_alone d [] h = refl
apart_alone d (e ∷ es) h = cond-false _ _ _ h

pub map_of_memory_of : (ds : List Descriptor) → IsMap ds → memory_map (memory_of ds) ≡ ds
map_of_memory_of [] a = refl
map_of_memory_of (d ∷ ds) a = memory_map-row (memory_of ds) d.pages (first_page d) a.0.some ∙ ap (with_row_below d.pages (first_page d)) (map_of_memory_of ds a.3) ∙ apart_alone d ds a.2

-- ---- the map of a memory

map-from : (m : List Page) (k : ℕ) → AllFrom k m → AllByRecursion (λ d. k ≤ d.first) (memory_map m)
map-from [] k a = tt
map-from (x ∷ m) k a = go (memory_map m) (map-from m k a.1)
  where
    go : (bs : List Descriptor) → AllByRecursion (λ d. k ≤ d.first) bs → AllByRecursion (λ d. k ≤ d.first) (with_page_below x bs)
    go [] b = (a.0, tt)
    go (d ∷ bs) b = elim (cases_Bool (goes_on_in x d)) [ inl t ↦ rw t (a.0, b.1) | inr f ↦ rw f (a.0, b) ]

entry_of_one : (x : Page) → IsProperPage x → is_machine_type x.mtype ≡ true → IsEntry (block_of x)
entry_of_one x is typed = record { some = omega arith; within = omega (arith, is.number); mtype = typed; no_runtime = is.no_runtime }

map_with_page : (x : Page) (ds : List Descriptor) → IsProperPage x → is_machine_type x.mtype ≡ true → AllByRecursion (λ d. x.number < d.first) ds → IsMap ds → IsMap (with_page_below x ds)
map_with_page x [] is typed up a = (entry_of_one x is typed, tt, tt, tt)
map_with_page x (d ∷ ds) is typed up a = elim (cases_Bool (goes_on_in x d)) [
  | inl t ↦
      let e = goes_on_parts x d t in
      let end : x.number + (d.pages + 1) ≡ d.first + d.pages = omega (arith, e.0) in
      rw t (
        record { some = omega arith; within = omega (arith, a.0.within, end); mtype = typed; no_runtime = is.no_runtime },
        all_implied (λ c. d.first + d.pages ≤ c.first) (λ c. x.number + (d.pages + 1) ≤ c.first) (λ c l. omega (arith, end)) ds a.1,
        apart_too end e.1 e.2 ds a.2,
        a.3,
      )
  | inr f ↦ rw f (
    entry_of_one x is typed,
    all_implied (λ c. x.number < c.first) (λ c. x.number + 1 ≤ c.first) (λ c l. omega arith) (d ∷ ds) up,
    f,
    a,
  )
]
  where
    apart_too : x.number + (d.pages + 1) ≡ d.first + d.pages → x.mtype ≡ d.mtype → x.attributes ≡ d.attributes → (es : List Descriptor) → IsApart d es → IsApart (record (block_of x) { pages = d.pages + 1 }) es
    apart_too e f g [] h = tt
    apart_too e f g (c ∷ es) h = rw (e, f, g) h

pub map_is_map : (m : List Page) → IsProperMemory m → HasMachineTypes m → IsMap (memory_map m)
map_is_map [] proper typed = tt
map_is_map (x ∷ m) proper typed = map_with_page x (memory_map m) proper.each.0 typed.0 (map-from m (suc x.number) proper.ascending.0) (map_is_map m (record { ascending = proper.ascending.1; each = proper.each.1 }) typed.1)
