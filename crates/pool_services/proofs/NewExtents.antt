-- What a new extent is, and what is known of memory and pool once its pages are taken.
use Rattle.std.proofs.Common.{◌≡◌, ℕ, ◌+◌, ◌*◌, ◌/◌, ◌^◌, ◌<◌, ◌≤◌, inl, inr, List, Option, Some, None, Result, Err, sym, ap, ◌∙◌, arith, subst}
use Rattle.std.proofs.lemmas.Bool.{cases_lt}
use Rattle.std.proofs.lemmas.List.{length-replicate}
use Rattle.std.proofs.lemmas.Option.{same_Some}
use Rattle.page_ranges.specs.declared.ranges.Owner.TheVariants.{Pool}
use Rattle.page_ranges.specs.declared.statuses.Status.{Status}
use Rattle.page_ranges.specs.declared.statuses.Status.TheVariants.{OutOfResources}
use Rattle.page_ranges.specs.MemoryTypes.{page_size, page_count}
use Rattle.page_ranges.specs.Granules.{IsGranule, granule_for, if_64_bits, rounded}
use Rattle.page_ranges.specs.Memory.{retyped, AllInRange, IsConventional, IsProperMemory}
use Rattle.page_ranges.proofs.WholeGranules.{granule_for_granule, if_64_bits_none, if_64_bits_some, rounded_at_least, rounded_near}
use Rattle.placement_certificate.specs.declared.certificates.Request.{Request}
use Rattle.placement_certificate.specs.Certificates.{CertificateValue}
use Rattle.page_services.specs.declared.page_book.Placed.{Placed}
use Rattle.page_services.specs.PageRules.{Book, Choice, IsBestChoice, IsChosenPlace, PlacesPages, TakesForPool, placed_book, pool_request, range_from}
use Rattle.page_services.proofs.Choices.{Permits, best_is_permitted}
use Rattle.pool_services.specs.Extents.{Extent, AreExtents, IsExtent, address_of, extent_pages, extent_with_block, first_fit, max_size, new_extent, pages_for, range_of, with_extent}
use Rattle.pool_services.specs.PoolRules.{IsPut, OwnsExtents}
use Rattle.pool_services.proofs.PoolPages.{are-more, owns-more}

-- pages that the pool is refused leave the book
pub refused : (A : Type 0) (b : Book) (t pages : ℕ) (status : Status) (new_b : Book) → TakesForPool {A = A} IsBestChoice b t pages (Err status) new_b → new_b ≡ b
refused A b t pages OutOfResources new_b h = h.0
refused A b t pages status new_b h = absurd h

-- pages that are placed for the request of the pool are taken for the pool
pub takes : (A : Type 0) (b new_b : Book) (q : Request) (t pages : ℕ) (result : Result (Placed A) Status) → q ≡ pool_request b.granule t pages → PlacesPages IsBestChoice b q Pool result new_b → TakesForPool IsBestChoice b t pages result new_b
takes A b new_b q t pages result e h = subst (λ (r : Request). PlacesPages IsBestChoice b r Pool result new_b) e h

-- ---- the pages of a new extent

pub pages-enough : (granule t size : ℕ) → IsGranule granule → pages_for size ≤ extent_pages granule t size
pages-enough granule t size g = rounded_at_least (pages_for size) (granule_for t granule) (granule_for_granule t granule g)

pub pages-few : (granule t size : ℕ) → IsGranule granule → size ≤ max_size → extent_pages granule t size ≤ 2 ^ 21
pages-few granule t size g s = omega (arith, rounded_near (pages_for size) (granule_for t granule) (granule_for_granule t granule g))

-- what is counted is the number itself
pub is-counted : (n pages : ℕ) → Some pages ≡ if_64_bits n → pages ≡ n
is-counted n pages e = elim (cases_lt n (2 ^ 64)) [
  | inl l ↦ same_Some pages n (e ∙ if_64_bits_some n l)
  | inr l ↦ let z : Some pages ≡ None = e ∙ if_64_bits_none n l in absurd cc
]

pub not-uncounted : (n : ℕ) → n < 2 ^ 64 → None ≡ if_64_bits n → ⊥
not-uncounted n l e = let z : None ≡ Some n = e ∙ if_64_bits_some n l in cc

-- pages and a granule as the code has them, rounded
pub rounded-as : (granule t size pages own : ℕ) → pages ≡ pages_for size → own ≡ granule_for t granule → rounded pages own ≡ extent_pages granule t size
rounded-as granule t size pages own p o = ap (λ (n : ℕ). rounded n own) p ∙ ap (λ (n : ℕ). rounded (pages_for size) n) o

is-new : (granule start t size : ℕ) → IsGranule granule → size ≤ max_size → start + extent_pages granule t size ≤ page_count → IsExtent (new_extent granule start t size)
is-new granule start t size g s w =
    let l = pages-enough granule t size g in
    record {
      some = omega (arith, l);
      few = pages-few granule t size g s;
      within = w;
      used = omega arith;
      blocks = (omega arith, length-replicate size 0, omega (arith, l));
    }

-- the extent that the code makes is the one of the book's granule
pub is-of-granule : (e : Extent) (granule known first pages t size : ℕ) → e ≡ extent_with_block first pages t size → pages ≡ extent_pages known t size → known ≡ granule → e ≡ new_extent granule first t size
is-of-granule e granule known first pages t size n p k =
    n ∙ ap (λ (z : ℕ). extent_with_block first z t size) p ∙ ap (λ (z : ℕ). new_extent z first t size) k

whole : (start : ℕ) → (start * page_size) / page_size ≡ start
whole start = omega arith

-- the page of the address that was answered is the start that was chosen
pub is-start : {A : Type 0} (b : Book) (t pages : ℕ) (placed : Placed A) → IsChosenPlace IsBestChoice b (pool_request b.granule t pages) placed →
    IsBestChoice b (pool_request b.granule t pages) (placed.address / page_size) placed.certificate × (placed.address ≡ (placed.address / page_size) * page_size)
is-start b t pages placed (start, c, a) =
    let w : placed.address / page_size ≡ start = ap (λ (n : ℕ). n / page_size) a ∙ whole start in
    (subst (λ (n : ℕ). IsBestChoice b (pool_request b.granule t pages) n placed.certificate) (sym w) c, a ∙ ap (λ (n : ℕ). n * page_size) (sym w))

pub is-new-extent : (Chosen : Choice) → Permits Chosen → (b : Book) (t size first : ℕ) (c : Option CertificateValue) → IsGranule b.granule → size ≤ max_size → Chosen b (pool_request b.granule t (pages_for size)) first c →
    IsExtent (new_extent b.granule first t size) × AllInRange b.memory (range_of (new_extent b.granule first t size)) IsConventional
is-new-extent Chosen permits b t size first c g s h =
    let p = permits b (pool_request b.granule t (pages_for size)) first c h in
    (is-new b.granule first t size g s p.within, p.conventional)

-- ---- what is known once the pages are taken and the extent is among the others

-- the new extent of a book for a block, at the page of the address that was answered
abbrev pub extent_at : {A : Type 0} → Book → ℕ → ℕ → Placed A → Extent
extent_at b t size placed = new_extent b.granule (placed.address / page_size) t size

-- the best start for a new extent of a type, which is the page of the address that was answered
abbrev Started : {A : Type 0} → Book → ℕ → ℕ → Placed A → Type 0
Started b t size placed = IsBestChoice b (pool_request b.granule t (pages_for size)) (placed.address / page_size) placed.certificate × (placed.address ≡ (placed.address / page_size) * page_size)

started : {A : Type 0} (b : Book) (t size pages : ℕ) (placed : Placed A) → pages ≡ pages_for size → IsChosenPlace IsBestChoice b (pool_request b.granule t pages) placed → Started b t size placed
started b t size pages placed p h = subst (λ (n : ℕ). IsBestChoice b (pool_request b.granule t n) (placed.address / page_size) placed.certificate × (placed.address ≡ (placed.address / page_size) * page_size)) p (is-start b t pages placed h)

pub is-made : {A : Type 0} (b : Book) (e : Extent) (t size pages : ℕ) (placed : Placed A) → IsGranule b.granule → size ≤ max_size → pages ≡ pages_for size → IsChosenPlace IsBestChoice b (pool_request b.granule t pages) placed → e ≡ extent_at b t size placed → IsExtent e
is-made b e t size pages placed g s p h n =
    let c = started b t size pages placed p h in
    subst IsExtent (sym n) (is-new-extent IsBestChoice best_is_permitted b t size (placed.address / page_size) placed.certificate g s c.0).0

-- the extents, with the new one, are apart
pub is-new-extents : {A : Type 0} (b : Book) (es had new : List Extent) (e : Extent) (t size pages : ℕ) (placed : Placed A) → IsGranule b.granule → size ≤ max_size → pages ≡ pages_for size → AreExtents es → OwnsExtents b.memory es → IsProperMemory b.memory →
    IsChosenPlace IsBestChoice b (pool_request b.granule t pages) placed → had ≡ es → e ≡ extent_at b t size placed → new ≡ with_extent e had → AreExtents new
is-new-extents b es had new e t size pages placed g s p a owns proper h k n w =
    let c = started b t size pages placed p h in
    let x = is-new-extent IsBestChoice best_is_permitted b t size (placed.address / page_size) placed.certificate g s c.0 in
    let q : new ≡ with_extent (extent_at b t size placed) es = w ∙ ap (λ (y : Extent). with_extent y had) n ∙ ap (λ (ys : List Extent). with_extent (extent_at b t size placed) ys) k in
    subst AreExtents (sym q) (are-more b.memory (extent_at b t size placed) es x.0 a owns proper x.1)

-- the book once the pages of a new extent are taken
taken-book : {A : Type 0} (b new_b : Book) (t size pages : ℕ) (placed : Placed A) → pages ≡ pages_for size → new_b ≡ placed_book (range_from placed.address (pool_request b.granule t pages).pages) t Pool b →
    new_b ≡ placed_book (range_of (extent_at b t size placed)) t Pool b
taken-book b new_b t size pages placed p f = f ∙ ap (λ (z : ℕ). placed_book (range_from placed.address (pool_request b.granule t z).pages) t Pool b) p

-- the pages of the pool are those of the extents, with the new one
pub owns-new : {A : Type 0} (b new_b : Book) (es had new : List Extent) (e : Extent) (t size pages : ℕ) (placed : Placed A) → IsGranule b.granule → size ≤ max_size → pages ≡ pages_for size → OwnsExtents b.memory es → IsProperMemory b.memory →
    IsChosenPlace IsBestChoice b (pool_request b.granule t pages) placed → new_b ≡ placed_book (range_from placed.address (pool_request b.granule t pages).pages) t Pool b → had ≡ es → e ≡ extent_at b t size placed → new ≡ with_extent e had →
    OwnsExtents new_b.memory new
owns-new b new_b es had new e t size pages placed g s p owns proper h f k n w =
    let c = started b t size pages placed p h in
    let x = is-new-extent IsBestChoice best_is_permitted b t size (placed.address / page_size) placed.certificate g s c.0 in
    let q : new ≡ with_extent (extent_at b t size placed) es = w ∙ ap (λ (y : Extent). with_extent y had) n ∙ ap (λ (ys : List Extent). with_extent (extent_at b t size placed) ys) k in
    let r : new_b ≡ placed_book (range_of (extent_at b t size placed)) t Pool b = taken-book b new_b t size pages placed p f in
    subst (λ (z : Book). OwnsExtents z.memory new) (sym r) (subst (λ (ys : List Extent). OwnsExtents (retyped (range_of (extent_at b t size placed)) t Pool b.memory) ys) (sym q) (owns-more b.memory (extent_at b t size placed) es owns proper x.1))

at-start : (address start : ℕ) → address ≡ start * page_size → address + 8 ≡ address_of start 0
at-start address start a = omega (arith, a)

-- the block was put into a new extent
pub is-put : {A : Type 0} (b new_b : Book) (es had new : List Extent) (e : Extent) (t size pages : ℕ) (placed : Placed A) → pages ≡ pages_for size → first_fit t size es ≡ None →
    IsChosenPlace IsBestChoice b (pool_request b.granule t pages) placed → new_b ≡ placed_book (range_from placed.address (pool_request b.granule t pages).pages) t Pool b → had ≡ es → e ≡ extent_at b t size placed → new ≡ with_extent e had →
    IsPut IsBestChoice (first_fit t size es) b es t size (placed.address + 8, placed.certificate) new_b new
is-put b new_b es had new e t size pages placed p none h f k n w =
    let c = started b t size pages placed p h in
    rw none (
      placed.address / page_size,
      c.0,
      at-start placed.address (placed.address / page_size) c.1,
      taken-book b new_b t size pages placed p f,
      w ∙ ap (λ (y : Extent). with_extent y had) n ∙ ap (λ (ys : List Extent). with_extent (extent_at b t size placed) ys) k,
    )
