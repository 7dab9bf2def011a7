-- What each call leaves true: memory is reserved for the end of each extent.
use Rattle.std.proofs.Common.{◌≡◌, ℕ, zero, suc, ◌+◌, ◌≤◌, ◌<◌, ◌==◌, nat_le, Bool, inl, inr, List, [], ◌∷◌, ◌++◌, length, take, drop, Option, Some, None, Result, Ok, Err, refl, sym, ap, ◌∙◌, arith, subst, add-one}
use Rattle.std.proofs.lemmas.Bool.{cases_Bool}
use Rattle.page_ranges.specs.declared.ranges.Owner.TheVariants.{Pool}
use Rattle.page_ranges.specs.declared.ranges.PageRange.{PageRange}
use Rattle.page_ranges.specs.declared.statuses.Status.{Status}
use Rattle.page_ranges.specs.declared.statuses.Status.TheVariants.{InvalidParameter, NotFound, OutOfResources}
use Rattle.page_services.specs.declared.page_book.Placed.{Placed}
use Rattle.page_services.specs.PageRules.{Book, Choice, AllocatesPages, FreesPages, given_back, placed_book}
use Rattle.raw_pool.specs.Blocks.{Block, new_block, with_block, without_block}
use Rattle.pool_services.specs.Extents.{Extent, Place, begins_at, ended, first_fit, has_tail, left_of, new_extent, range_if_ended, replaced, with_blocks, with_extent, with_new_block, without, written, written_in}
use Rattle.pool_services.specs.PoolRules.{Answer, AllocatesPool, FillsPool, FreesPool, HasReservedEnds, IsPut, WritesPool, given_if}
use Rattle.pool_services.specs.Searches.{IsGivenIn, IsTakenLive}

-- ---- how many extents there are

count-replaced : (test : Extent → Bool) (by : Extent → Extent) (es : List Extent) → length (replaced test (λ (e : Extent). by e ∷ []) es) ≡ length es
count-replaced test by [] = refl
count-replaced test by (e ∷ es) = elim (cases_Bool (test e)) [
  | inl u ↦ rw u refl
  | inr u ↦ rw u (ap suc (count-replaced test by es))
]

pub count-new-block : (p : Place) (size : ℕ) (es : List Extent) → length (with_new_block p size es) ≡ length es
count-new-block p size es = count-replaced (begins_at p.first) (λ (e : Extent). with_blocks (with_block (new_block p.cell size) e.blocks) e) es

pub count-written : (address : ℕ) (bytes : List ℕ) (es : List Extent) → length (written address bytes es) ≡ length es
count-written address bytes es = count-replaced (has_tail address) (λ (e : Extent). with_blocks (written_in e.first address bytes e.blocks) e) es

pub count-more : (e : Extent) (es : List Extent) → length (with_extent e es) ≡ suc (length es)
count-more e [] = refl
count-more e (x ∷ xs) = elim (cases_Bool (nat_le x.first e.first)) [
  | inl u ↦ rw u (ap suc (count-more e xs))
  | inr u ↦ rw u refl
]

-- how many extents end, given the pages of the one that does
abbrev ends_of : Option PageRange → ℕ
ends_of None = 0
ends_of (Some range) = 1

count-left : (e : Extent) (bs : List Block) (es : List Extent) → length (left_of e bs ++ es) + ends_of (range_if_ended e bs) ≡ suc (length es)
count-left e [] es = omega arith
count-left e (b ∷ bs) es = omega arith

count-without : (p : Place) (es : List Extent) → length (without p es) + ends_of (ended p es) ≡ length es
count-without p [] = refl
count-without p (e ∷ es) = elim (cases_Bool (begins_at p.first e)) [
  | inl u ↦ rw u (count-left e (without_block p.cell e.blocks) es)
  | inr u ↦ rw u (omega (arith, count-without p es))
]

count-gone : (es : List Extent) (i : ℕ) → i < length es → length (take i es ++ drop (suc i) es) + 1 ≡ length es
count-gone [] i l = absurd (omega (arith, l))
count-gone (e ∷ es) zero l = omega arith
count-gone (e ∷ es) (suc i) l = omega (arith, count-gone es i (omega (arith, l)))

-- an extent that ends takes from what is reserved for one end at most
ends-back : (b : Book) (range : PageRange) → b.ends ≤ (given_back range b).ends + 1
ends-back b range = elim (cases_Bool (range.pages == 0)) [
  | inl u ↦ rw u (omega arith)
  | inr u ↦ rw u (omega arith)
]

ends-left : (b : Book) (o : Option PageRange) → b.ends ≤ (given_if o b).ends + ends_of o
ends-left b None = omega arith
ends-left b (Some range) = ends-back b range

-- ---- what each call leaves

pub same-ends : (b new_b : Book) (es new : List Extent) → HasReservedEnds b es → new_b ≡ b → new ≡ es → HasReservedEnds new_b new
same-ends b new_b es new r g n = subst (λ (x : Book). HasReservedEnds x new) (sym g) (subst (HasReservedEnds b) (sym n) r)

pub placed-ends : {A : Type 0} (Chosen : Choice) (b : Book) (es : List Extent) (kind t pages memory : ℕ) (result : Result (Placed A) Status) (new : Book) →
    HasReservedEnds b es → AllocatesPages Chosen b kind t pages memory result new → HasReservedEnds new es
placed-ends Chosen b es kind t pages memory (Ok placed) new r (v, h, n) = subst (λ (x : Book). HasReservedEnds x es) (sym n) r
placed-ends Chosen b es kind t pages memory (Err InvalidParameter) new r h = same-ends b new es es r h.1 refl
placed-ends Chosen b es kind t pages memory (Err NotFound) new r h = same-ends b new es es r h.3 refl
placed-ends Chosen b es kind t pages memory (Err OutOfResources) new r h = same-ends b new es es r h.2 refl
placed-ends Chosen b es kind t pages memory (Err status) new r h = absurd h

pub freed-ends : (b : Book) (es : List Extent) (address pages : ℕ) (result : Result (Unit {0}) Status) (new : Book) → HasReservedEnds b es → FreesPages b address pages result new → HasReservedEnds new es
freed-ends b es address pages (Ok done) new r (v, h, n) = subst (λ (x : Book). HasReservedEnds x es) (sym n) r
freed-ends b es address pages (Err InvalidParameter) new r h = same-ends b new es es r h.1 refl
freed-ends b es address pages (Err NotFound) new r h = same-ends b new es es r h.2 refl
freed-ends b es address pages (Err OutOfResources) new r h = same-ends b new es es r h.2 refl
freed-ends b es address pages (Err status) new r h = absurd h

put-ends : (Chosen : Choice) (b new_b : Book) (es new : List Extent) (t size : ℕ) (answer : Answer) (o : Option Place) → HasReservedEnds b es → IsPut Chosen o b es t size answer new_b new → HasReservedEnds new_b new
put-ends Chosen b new_b es new t size answer (Some p) r (d, c, g, n) = same-ends b new_b (with_new_block p size es) new (omega (arith, r, count-new-block p size es)) g n
put-ends Chosen b new_b es new t size answer None r (start, c, d, g, n) =
    let e : Extent = new_extent b.granule start t size in
    subst (λ (x : Book). HasReservedEnds x new) (sym g) (omega (arith, r, count-more e es, ap (λ (xs : List Extent). length xs) n))

pub allocated-ends : (Chosen : Choice) (b : Book) (es : List Extent) (t size : ℕ) (result : Result Answer Status) (new_b : Book) (new : List Extent) →
    HasReservedEnds b es → AllocatesPool Chosen b es t size result new_b new → HasReservedEnds new_b new
allocated-ends Chosen b es t size (Ok answer) new_b new r (good, s, put) = put-ends Chosen b new_b es new t size answer (first_fit t size es) r put
allocated-ends Chosen b es t size (Err InvalidParameter) new_b new r h = same-ends b new_b es new r h.1 h.2
allocated-ends Chosen b es t size (Err OutOfResources) new_b new r h = same-ends b new_b es new r h.2 h.3
allocated-ends Chosen b es t size (Err status) new_b new r h = absurd h

pub written-ends : (b : Book) (es : List Extent) (address : ℕ) (bytes : List ℕ) (result : Result (Unit {0}) Status) (new : List Extent) → HasReservedEnds b es → WritesPool es address bytes result new → HasReservedEnds b new
written-ends b es address bytes (Ok done) new r (h, n) = same-ends b b (written address bytes es) new (omega (arith, r, count-written address bytes es)) refl n
written-ends b es address bytes (Err InvalidParameter) new r h = same-ends b b es new r refl h.1
written-ends b es address bytes (Err status) new r h = absurd h

pub filled-ends : (Chosen : Choice) (b : Book) (es : List Extent) (t : ℕ) (bytes : List ℕ) (result : Result Answer Status) (new_b : Book) (new : List Extent) →
    HasReservedEnds b es → FillsPool Chosen b es t bytes result new_b new → HasReservedEnds new_b new
filled-ends Chosen b es t bytes (Ok answer) new_b new r (placed, h, n) =
    let k : HasReservedEnds new_b placed = allocated-ends Chosen b es t (length bytes) (Ok answer) new_b placed r h in
    same-ends new_b new_b (written answer.0 bytes placed) new (omega (arith, k, count-written answer.0 bytes placed)) refl n
filled-ends Chosen b es t bytes (Err e) new_b new r h = allocated-ends Chosen b es t (length bytes) (Err e) new_b new r h

pub freed-block-ends : (b : Book) (es : List Extent) (address : ℕ) (result : Result (Unit {0}) Status) (new_b : Book) (new : List Extent) → HasReservedEnds b es →
    FreesPool b es address result new_b new → HasReservedEnds new_b new
freed-block-ends b es address (Ok done) new_b new r (p, s, g, n) =
    same-ends (given_if (ended p es) b) new_b (without p es) new (omega (arith, r, count-without p es, ends-left b (ended p es))) g n
freed-block-ends b es address (Err InvalidParameter) new_b new r h = same-ends b new_b es new r h.1 h.2
freed-block-ends b es address (Err OutOfResources) new_b new r (p, range, s, t, z, g, n) = same-ends b new_b es new r g n
freed-block-ends b es address (Err status) new_b new r h = absurd h

-- ---- the steps of the calls

pub taken-ends : (b : Book) (t size address : ℕ) (es new : List Extent) → HasReservedEnds b es → IsTakenLive t size es (Some address) new → HasReservedEnds b new
taken-ends b t size address es new r (p, f, d, n) = same-ends b b (with_new_block p size es) new (omega (arith, r, count-new-block p size es)) refl n

pub more-ends : (b new_b : Book) (es had new : List Extent) (e : Extent) (range : PageRange) (t : ℕ) → HasReservedEnds b es → new_b ≡ placed_book range t Pool b → had ≡ es → new ≡ with_extent e had → HasReservedEnds new_b new
more-ends b new_b es had new e range t r g h n =
    let more : HasReservedEnds (placed_book range t Pool b) (with_extent e es) = omega (arith, r, count-more e es) in
    same-ends (placed_book range t Pool b) new_b (with_extent e es) new more g (n ∙ ap (λ (xs : List Extent). with_extent e xs) h)

pub gone-ends : (b new_b : Book) (es : List Extent) (i : ℕ) (range : PageRange) (new : List Extent) → i < length es → HasReservedEnds b es → new_b ≡ given_back range b → new ≡ take i es ++ drop (i + 1) es → HasReservedEnds new_b new
gone-ends b new_b es i range new l r g n =
    let gone : HasReservedEnds (given_back range b) (take i es ++ drop (suc i) es) = omega (arith, r, count-gone es i l, ends-back b range) in
    same-ends (given_back range b) new_b (take i es ++ drop (suc i) es) new gone g (n ∙ ap (λ (j : ℕ). take i es ++ drop j es) (add-one i))

pub given-ends : (b : Book) (i c : ℕ) (es new : List Extent) → HasReservedEnds b es → IsGivenIn i c es new → HasReservedEnds b new
given-ends b i c es new r (e, h, n, d, o) =
    let p : Place = record { first = e.first; cell = c } in
    same-ends b b (without p es) new (omega (arith, r, count-without p es)) refl n
