-- An edge of a range, and the entries that it meets.
use Rattle.std.proofs.Common.{◌≡◌, ◌≢◌, ◌↔◌, ◌||◌, ℕ, ◌+◌, ◌-◌, ◌<◌, ◌≤◌, true, false, cond, eqb, List, Contains, Option, Some, None, inl, inr, true≢false, refl, sym, ap, subst, ◌∙◌, arith}
use Rattle.std.proofs.lemmas.Bool.{ne_eqb, eq-eqb, eqb-true, cases_lt, cases_Bool, and_parts, and_from, and_left, or_parts}
use Rattle.page_ranges.specs.declared.ranges.Descriptor.{Descriptor}
use Rattle.page_ranges.specs.MemoryTypes.{is_bad_type, conventional, attributes_as, is_specific_purpose}
use Rattle.page_ranges.specs.Memory.{Page, page_at, page_below, IsAscending, IsConventional}
use Rattle.page_ranges.specs.MemoryMap.{memory_map, IsLike, IsMaximalBlock}
use Rattle.page_ranges.proofs.Lookups.{page_below-page_at}
use Rattle.page_ranges.proofs.Blocks.{entry_is_block, entry_of_page}
use Rattle.placement_certificate.specs.Placement.{IsOrdinary, IsAvailable}
use Rattle.placement_certificate.specs.Laws.{are_alike, adds, saves}
use Rattle.placement_certificate.specs.Search.{IsAvailableBlock}

alike_parts : (x y : Page) → are_alike (Some x) (Some y) ≡ true → (x.mtype ≡ y.mtype) × (x.attributes ≡ y.attributes)
alike_parts x y t =
    let h = and_parts (eqb x.mtype y.mtype) (eqb x.attributes y.attributes) t in
    (eqb-true x.mtype y.mtype h.0, eqb-true x.attributes y.attributes h.1)

-- two pages of one block are alike
both_alike : (b : Descriptor) (x y : Option Page) → IsLike b x → IsLike b y → are_alike x y ≡ true
both_alike b None y k l = absurd k
both_alike b (Some x) None k l = absurd l
both_alike b (Some x) (Some y) k l = and_from _ _ (eq-eqb x.mtype y.mtype (k.0 ∙ sym l.0)) (eq-eqb x.attributes y.attributes (k.1 ∙ sym l.1))

-- a page that is like one of a block
like_too : (b : Descriptor) (x y : Option Page) → are_alike x y ≡ true → IsLike b y → IsLike b x
like_too b None y h l = absurd (true≢false (sym h))
like_too b (Some x) None h l = absurd l
like_too b (Some x) (Some y) h l = let t = alike_parts x y h in (t.0 ∙ l.0, t.1 ∙ l.1)

pub adds-one : (b : Descriptor) (x y : Option Page) → IsLike b x → IsLike b y → adds x y ≡ 1
adds-one b x y k l = ap (λ c. cond c 1 0) (both_alike b x y k l)

pub adds-none : (b : Descriptor) (x y : Option Page) → ¬ IsLike b x → IsLike b y → adds x y ≡ 0
adds-none b x y n l = elim (cases_Bool (are_alike x y)) [
  | inl t ↦ absurd (n (like_too b x y t l))
  | inr f ↦ ap (λ c. cond c 1 0) f
]

-- the same of the page above an edge
like_next : (b : Descriptor) (x y : Option Page) → are_alike x y ≡ true → IsLike b x → IsLike b y
like_next b None y h l = absurd l
like_next b (Some x) None h l = absurd (true≢false (sym h))
like_next b (Some x) (Some y) h l = let t = alike_parts x y h in (sym t.0 ∙ l.0, sym t.1 ∙ l.1)

pub adds-none_above : (b : Descriptor) (x y : Option Page) → IsLike b x → ¬ IsLike b y → adds x y ≡ 0
adds-none_above b x y l n = elim (cases_Bool (are_alike x y)) [
  | inl t ↦ absurd (n (like_next b x y t l))
  | inr f ↦ ap (λ c. cond c 1 0) f
]

pub adds-most : (x y : Option Page) → adds x y ≤ 1
adds-most x y = elim (are_alike x y) as (λ c. cond c 1 0 ≤ 1) [ true ↦ omega arith | false ↦ omega arith ]

-- a conventional neighbour has not the request's type
pub saves-none : (t : ℕ) (o i : Option Page) → IsConventional o → t ≢ conventional → saves t o i ≡ 0
saves-none t None i c n = refl
saves-none t (Some x) None c n = refl
saves-none t (Some x) (Some y) c n = ap (λ b. cond b 1 0) (and_left (eqb x.mtype t) (eqb x.attributes (attributes_as t y.attributes)) (ne_eqb x.mtype t (λ e. n (sym e ∙ c))))

pub good_not_conventional : (t : ℕ) → is_bad_type t ≡ false → t ≢ conventional
good_not_conventional t f e =
    let g = or_parts ((eqb t 7 || eqb t 14) || eqb t 15) _ f in
    let h = or_parts (eqb t 7 || eqb t 14) (eqb t 15) g.0 in
    true≢false (sym (eq-eqb t 7 e) ∙ (or_parts (eqb t 7) (eqb t 14) h.0).0)

-- a block with a conventional page has only those
pub block_conventional : (b : Descriptor) (o : Option Page) → IsLike b o → IsConventional o → b.mtype ≡ conventional
block_conventional b None l c = absurd l
block_conventional b (Some x) l c = sym l.0 ∙ c

pub like_conventional : (b : Descriptor) (o : Option Page) → IsLike b o → b.mtype ≡ conventional → IsConventional o
like_conventional b None l e = absurd l
like_conventional b (Some x) l e = l.0 ∙ e

-- so with a page of no specific purpose
pub block_ordinary : (b : Descriptor) (o : Option Page) → IsLike b o → IsOrdinary o → is_specific_purpose b.attributes ≡ false
block_ordinary b None l c = absurd l
block_ordinary b (Some x) l c = ap is_specific_purpose (sym l.1) ∙ c

pub like_ordinary : (b : Descriptor) (o : Option Page) → IsLike b o → is_specific_purpose b.attributes ≡ false → IsOrdinary o
like_ordinary b None l e = absurd l
like_ordinary b (Some x) l e = ap is_specific_purpose l.1 ∙ e

pub like_available : (b : Descriptor) (o : Option Page) → IsLike b o → IsAvailableBlock b → IsAvailable o
like_available b o l a = (like_conventional b o l a.0, like_ordinary b o l a.1)

-- the page below a number that is inside a block
pub below_is_like : (m : List Page) (b : Descriptor) (k : ℕ) → IsMaximalBlock m b → b.first < k → k ≤ b.first + b.pages → IsLike b (page_below m k)
below_is_like m b k is h l = subst (IsLike b) (sym (page_below-page_at m k (omega arith))) (is.all (k - 1) (record { low = omega arith; high = omega arith }))

-- ---- an edge inside an entry

upper_page : (x y : Option Page) → are_alike x y ≡ true → (z : Page) × (y ≡ Some z)
upper_page None y h = absurd (true≢false (sym h))
upper_page (Some x) None h = absurd (true≢false (sym h))
upper_page (Some x) (Some y) h = (y, refl)

alike_is_inside : (m : List Page) (k : ℕ) → IsAscending m → are_alike (page_below m k) (page_at m k) ≡ true → (e : Descriptor) × Contains (memory_map m) e × (e.first < k) × (k < e.first + e.pages)
alike_is_inside m k a h =
    let z = upper_page (page_below m k) (page_at m k) h in
    let c = entry_of_page m k z.0 z.1 in
    let is = entry_is_block m a c.0 c.1 in
    let below : IsLike c.0 (page_below m k) = like_too c.0 (page_below m k) (page_at m k) h (is.all k c.2) in (
      c.0,
      c.1,
      elim (cases_lt c.0.first k) [
        | inl l ↦ l
        | inr g ↦ let e : k ≡ c.0.first = omega (arith, c.2.low) in absurd (is.none_below (subst (λ j. IsLike c.0 (page_below m j)) e below))
      ],
      c.2.high,
    )

inside_is_alike : (m : List Page) (k : ℕ) → IsAscending m → (e : Descriptor) × Contains (memory_map m) e × (e.first < k) × (k < e.first + e.pages) → are_alike (page_below m k) (page_at m k) ≡ true
inside_is_alike m k a e =
    let is = entry_is_block m a e.0 e.1 in
    both_alike e.0 (page_below m k) (page_at m k) (below_is_like m e.0 k is e.2 (omega (arith, e.3))) (is.all k (record { low = omega (arith, e.2); high = e.3 }))

pub inside : (m : List Page) (k : ℕ) → IsAscending m → (are_alike (page_below m k) (page_at m k) ≡ true) ↔ ((e : Descriptor) × Contains (memory_map m) e × (e.first < k) × (k < e.first + e.pages))
inside m k a = (alike_is_inside m k a, inside_is_alike m k a)
