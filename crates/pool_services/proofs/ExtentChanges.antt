-- What the calls do to one extent of the pool.
use Rattle.std.proofs.Common.{◌≡◌, ◌≢◌, ℕ, zero, suc, ◌+◌, ◌<◌, ◌≤◌, ◌==◌, nat_le, slice_index_or, Ok, Err, eq-eqb, ne_eqb, add-one, Bool, true, false, is_some, inl, inr, List, [], ◌∷◌, ◌++◌, length, take, drop, set, Option, Some, None, refl, sym, ap, ◌∙◌, arith, subst}
use Rattle.std.specs.List.{insert}
use Rattle.std.specs.Bool.{IsTrue}
use Rattle.page_ranges.specs.declared.ranges.PageRange.{PageRange}
use Rattle.page_ranges.specs.declared.statuses.Status.{Status}
use Rattle.page_ranges.specs.declared.statuses.Status.TheVariants.{OutOfResources}
use Rattle.page_services.specs.PageRules.{Book, GivesFromPool, ended_book, given_back}
use Rattle.pool_services.specs.PoolRules.{FreesPool, IsInBlock, OwnsExtents, extent_type, given_if, pool_type}
use Rattle.page_ranges.specs.Memory.{Page, page_at, retyped, AllInRange, IsOwnedBy}
use Rattle.page_ranges.specs.MemoryTypes.{conventional}
use Rattle.page_ranges.specs.declared.ranges.Owner.TheVariants.{Given, Pool}
use Rattle.pool_services.proofs.PoolPages.{owned-extent, owns-less, replaced-type, set-type}
use Rattle.std.proofs.lemmas.Bool.{and_parts, eqb-true, cases_eq}
use Rattle.raw_pool.specs.Blocks.{Block, block_at, cells_for, longest_run, lowest_fit, new_block, with_block, without_block}
use Rattle.pool_services.specs.Extents.{Extent, Place, AreExtents, IsExtent, address_of, at_cell, begins_at, cell_of, cells_in, ended, fit_in, left_of, range_if_ended, range_of, tail_at, tail_in, with_blocks, with_extent, written_in}
use Rattle.pool_services.specs.Regions.{with_block_at}
use Rattle.pool_services.specs.declared.extents.Freed.{Freed}
use Rattle.pool_services.specs.declared.extents.Freed.TheVariants.{Back, Last, NoBlock}
use Rattle.pool_services.specs.Searches.{HasOneBlock, HasRoom, place, HoldsAddress, IsAt, IsFirstWithRoom, IsFound, IsFreed, IsFreedAt, IsGivenIn, IsHolder, IsWrittenIn, written_if, IsTakenAt, IsTakenLive, has_run}
use Rattle.pool_services.proofs.CellBlocks.{are-with, are-without, are-written, count-with, count-without, count-written-in, fits}
use Rattle.pool_services.proofs.ExtentLists.{all-at, are-set, fit-here, fit-none, are-gone, gone-is, insert-is, is-extent, place-here, set-is, set-same, tail-here, written-is}

pub same-at : (es : List Extent) (i : ℕ) (e x : Extent) → IsAt es i e → IsAt es i x → e ≡ x
same-at [] i e x h g = absurd (omega (arith, h.0))
same-at (y ∷ ys) zero e x h g = h.1 ∙ sym g.1
same-at (y ∷ ys) (suc i) e x h g = same-at ys i e x (omega (arith, h.0), h.1) (omega (arith, g.0), g.1)

-- ---- an extent stays one

pub is-taken : (e : Extent) (size c : ℕ) → IsExtent e → lowest_fit (cells_in e.pages) (cells_for size) 0 e.blocks ≡ Some c → IsExtent (with_blocks (with_block (new_block c size) e.blocks) e)
is-taken e size c v f = record {
  some = v.some;
  few = v.few;
  within = v.within;
  used = omega (arith, count-with (new_block c size) e.blocks);
  blocks = are-with (cells_in e.pages) size 0 c e.blocks v.blocks f;
}

pub is-given : (e : Extent) (c : ℕ) → IsExtent e → 0 < length (without_block c e.blocks) → IsExtent (with_blocks (without_block c e.blocks) e)
is-given e c v u = record {
  some = v.some;
  few = v.few;
  within = v.within;
  used = u;
  blocks = are-without (cells_in e.pages) 0 c e.blocks v.blocks;
}

pub is-written : (e : Extent) (address : ℕ) (bytes : List ℕ) → IsExtent e → HasRoom (length bytes) (tail_in e.first address e.blocks) → IsExtent (with_blocks (written_in e.first address bytes e.blocks) e)
is-written e address bytes v r = record {
  some = v.some;
  few = v.few;
  within = v.within;
  used = omega (arith, v.used, count-written-in e.first address bytes e.blocks);
  blocks = are-written (cells_in e.pages) 0 e.first address bytes e.blocks v.blocks r;
}

-- ---- a block is taken in an extent

pub taken-none : (es : List Extent) (i size : ℕ) (x y : Extent) → IsAt es i x → y ≡ x → None ≡ lowest_fit (cells_in x.pages) (cells_for size) 0 x.blocks → IsTakenAt i size es None (set es i y)
taken-none es i size x y h e n = (
  ap (λ (z : Extent). set es i z) e ∙ set-same es i x h,
  λ z u. ap (λ (w : Extent). fit_in size w) (same-at es i z x u h) ∙ ap (λ (o : Option ℕ). at_cell x.first o) (sym n),
)

pub are-kept : (es : List Extent) (i : ℕ) (x y : Extent) → AreExtents es → IsAt es i x → y ≡ x → AreExtents (set es i y)
are-kept es i x y a h e = subst AreExtents (sym (ap (λ (z : Extent). set es i z) e ∙ set-same es i x h)) a

pub taken-some : (es : List Extent) (i size c : ℕ) (x y : Extent) → IsAt es i x → y ≡ with_block_at c size x → Some c ≡ lowest_fit (cells_in x.pages) (cells_for size) 0 x.blocks → IsTakenAt i size es (Some (address_of y.first c)) (set es i y)
taken-some es i size c x y h e n = (x, c, h, n, ap (λ (z : Extent). address_of z.first c) e, ap (λ (z : Extent). set es i z) e)

pub are-taken : (es : List Extent) (i size c : ℕ) (x y : Extent) → AreExtents es → IsAt es i x → y ≡ with_blocks (with_block (new_block c size) x.blocks) x → Some c ≡ lowest_fit (cells_in x.pages) (cells_for size) 0 x.blocks → AreExtents (set es i y)
are-taken es i size c x y a h e n =
    are-set es i x y a h (subst IsExtent (sym e) (is-taken x size c (is-extent es i x a h) (sym n))) (ap (λ (z : Extent). z.first) e) (ap (λ (z : Extent). z.pages) e)

-- ---- in the first that has room

pub live-none : (t size : ℕ) (es : List Extent) → AreExtents es → IsFirstWithRoom t (cells_for size) es None → IsTakenLive t size es None es
live-none t size es a n = (refl, fit-none t size es a n)

room-of : (t size : ℕ) (e : Extent) → IsExtent e → has_run t (cells_for size) e ≡ true → is_some (lowest_fit (cells_in e.pages) (cells_for size) 0 e.blocks) ≡ true
room-of t size e v h = fits (cells_in e.pages) (cells_for size) 0 e.blocks (omega arith) v.blocks ∙ (and_parts (e.mtype == t) (nat_le (cells_for size) (longest_run (cells_in e.pages) 0 e.blocks)) h).1

never : (first : ℕ) (o : Option ℕ) → is_some o ≡ true → at_cell first o ≡ None → ⊥
never first None s n = absurd cc
never first (Some c) s n = absurd cc

pub live-taken : (t size i : ℕ) (es : List Extent) (result : Option ℕ) (new : List Extent) → AreExtents es → IsFirstWithRoom t (cells_for size) es (Some i) → IsTakenAt i size es result new → IsTakenLive t size es result new
live-taken t size i es None new a (e, h, r, b) k =
    absurd (never e.first (lowest_fit (cells_in e.pages) (cells_for size) 0 e.blocks) (room-of t size e (is-extent es i e a h) r) (k.1 e h))
live-taken t size i es (Some address) new a (e, h, r, b) (x, c, u, f, d, n) =
    let m : x.mtype ≡ t = ap (λ (z : Extent). z.mtype) (same-at es i x e u h) ∙ eqb-true e.mtype t (and_parts (e.mtype == t) (nat_le (cells_for size) (longest_run (cells_in e.pages) 0 e.blocks)) r).0 in
    let p : Place = record { first = x.first; cell = c } in (
      p,
      fit-here t size es i x p a u m (ap (λ (o : Option ℕ). at_cell x.first o) (sym f)) b,
      d,
      n ∙ set-is (λ (z : Extent). with_blocks (with_block (new_block c size) z.blocks) z ∷ []) (with_block_at c size x) es i x a u refl,
    )

-- ---- the extent that holds an address

pub held-at : (address : ℕ) (es : List Extent) (i : ℕ) (x : Extent) → IsHolder es address (Some i) → x ≡ slice_index_or es i x → IsAt es i x × HoldsAddress x address
held-at address es i x (e, h, u) a =
    let g : IsAt es i x = (h.0, a) in
    (g, subst (λ (y : Extent). HoldsAddress y address) (same-at es i e x h g) u)

pub tail-is : (address : ℕ) (es : List Extent) (i : ℕ) (x : Extent) (o : Option (List ℕ)) → AreExtents es → IsHolder es address (Some i) → x ≡ slice_index_or es i x → o ≡ tail_in x.first address x.blocks → o ≡ tail_at address es
tail-is address es i x o a h s t = let k = held-at address es i x h s in t ∙ sym (tail-here address es i x a k.0 k.1)

in-block : (address count : ℕ) (es : List Extent) (o : Option (List ℕ)) → tail_at address es ≡ o → HasRoom count o → IsInBlock address count es
in-block address count es None e r = absurd r
in-block address count es (Some bytes) e r = (bytes, e, r)

has-room-in : (address count : ℕ) (es : List Extent) (o : Option (List ℕ)) → tail_at address es ≡ o → IsInBlock address count es → HasRoom count o
has-room-in address count es None e (bytes, t, l) = let z : Some bytes ≡ None = sym t ∙ e in absurd cc
has-room-in address count es (Some tail) e (bytes, t, l) =
    let z : Some bytes ≡ Some tail = sym t ∙ e in
    let y : bytes ≡ tail = cc in
    omega (arith, l, ap (λ (b : List ℕ). length b) y)

pub written-returned : (address : ℕ) (bytes : List ℕ) (es : List Extent) (i : ℕ) (x y : Extent) (done : Bool) → AreExtents es → IsHolder es address (Some i) → x ≡ slice_index_or es i x →
    (IsTrue done → HasRoom (length bytes) (tail_in x.first address x.blocks)) × (HasRoom (length bytes) (tail_in x.first address x.blocks) → IsTrue done) → y ≡ written_if done address bytes x →
    IsWrittenIn address bytes es done (set es i y)
written-returned address bytes es i x y true a h s r e =
    let k = held-at address es i x h s in (
      in-block address (length bytes) es (tail_in x.first address x.blocks) (tail-here address es i x a k.0 k.1) (r.0 refl),
      ap (λ (z : Extent). set es i z) e ∙ written-is address bytes es i x a k.0 k.1 (r.0 refl),
    )
written-returned address bytes es i x y false a h s r e =
    let k = held-at address es i x h s in (
      (λ u. let z : false ≡ true = r.1 (has-room-in address (length bytes) es (tail_in x.first address x.blocks) (tail-here address es i x a k.0 k.1) u) in absurd cc),
      ap (λ (z : Extent). set es i z) e ∙ set-same es i x k.0,
    )

pub are-returned : (address : ℕ) (bytes : List ℕ) (es : List Extent) (i : ℕ) (x y : Extent) (done : Bool) → AreExtents es → IsHolder es address (Some i) → x ≡ slice_index_or es i x →
    (IsTrue done → HasRoom (length bytes) (tail_in x.first address x.blocks)) × (HasRoom (length bytes) (tail_in x.first address x.blocks) → IsTrue done) → y ≡ written_if done address bytes x → AreExtents (set es i y)
are-returned address bytes es i x y true a h s r e =
    let k = held-at address es i x h s in
    are-set es i x y a k.0 (subst IsExtent (sym e) (is-written x address bytes (is-extent es i x a k.0) (r.0 refl))) (ap (λ (z : Extent). z.first) e) (ap (λ (z : Extent). z.pages) e)
are-returned address bytes es i x y false a h s r e = are-kept es i x y a (held-at address es i x h s).0 e

pub not-in-block : (address count : ℕ) (es : List Extent) → tail_at address es ≡ None → ¬ IsInBlock address count es
not-in-block address count es e (bytes, t, l) = let z : Some bytes ≡ None = sym t ∙ e in absurd cc

-- ---- a block by its address

cell-later : (c : ℕ) (b : Block) (bs : List Block) → is_some (block_at c bs) ≡ true → is_some (block_at c (b ∷ bs)) ≡ true
cell-later c b bs e = elim (cases_eq b.first c) [
  | inl s ↦ rw (eq-eqb b.first c s) refl
  | inr n ↦ rw (ne_eqb b.first c n) e
]

pub cell-block : (first address c : ℕ) (bs : List Block) → cell_of first address bs ≡ Some c → is_some (block_at c bs) ≡ true
cell-block first address c [] e = absurd cc
cell-block first address c (b ∷ bs) e = elim (cases_eq (address_of first b.first) address) [
  | inl s ↦
      let z : Some b.first ≡ Some c = rw (eq-eqb (address_of first b.first) address s) at e in
      let y : b.first ≡ c = cc in
      rw (eq-eqb b.first c y) refl
  | inr n ↦ cell-later c b bs (cell-block first address c bs (rw (ne_eqb (address_of first b.first) address n) at e))
]

pub found-none : (address : ℕ) (es : List Extent) (i : ℕ) (x : Extent) → AreExtents es → IsAt es i x → HoldsAddress x address → cell_of x.first address x.blocks ≡ None → IsFound address es None
found-none address es i x a h u n = place-here address es i x a h u ∙ ap (λ (o : Option ℕ). at_cell x.first o) n

pub found-some : (address : ℕ) (es : List Extent) (i c : ℕ) (x : Extent) → AreExtents es → IsAt es i x → HoldsAddress x address → cell_of x.first address x.blocks ≡ Some c → IsFound address es (Some (i, c))
found-some address es i c x a h u n =
    (x, h, cell-block x.first address c x.blocks n, place-here address es i x a h u ∙ ap (λ (o : Option ℕ). at_cell x.first o) n, a)

-- ---- a block is given back

pub ended-at : (c : ℕ) (es : List Extent) (i : ℕ) (e : Extent) → AreExtents es → IsAt es i e → ended (record { first = e.first; cell = c }) es ≡ range_if_ended e (without_block c e.blocks)
ended-at c [] i e a h = absurd (omega (arith, h.0))
ended-at c (x ∷ xs) zero e a h = rw (eq-eqb x.first e.first (ap (λ (y : Extent). y.first) (sym h.1))) (ap (λ (y : Extent). range_if_ended y (without_block c y.blocks)) (sym h.1))
ended-at c (x ∷ xs) (suc i) e a h =
    let t : IsAt xs i e = (omega (arith, h.0), h.1) in
    let l = all-at (λ y. x.first + x.pages ≤ y.first) xs i e a.1 t in
    rw (ne_eqb x.first e.first (λ s. omega (arith, l, a.0.some))) (ended-at c xs i e a.2 t)

none-left : (bs : List Block) → length bs ≡ 0 → bs ≡ []
none-left [] e = refl
none-left (b ∷ bs) e = absurd (omega arith)

pub some-left : (e : Extent) (bs : List Block) → 0 < length bs → (range_if_ended e bs ≡ None) × (left_of e bs ≡ with_blocks bs e ∷ [])
some-left e [] l = absurd (omega arith)
some-left e (b ∷ bs) l = (refl, refl)

pub given-returned : (es : List Extent) (i c : ℕ) (x : Extent) → AreExtents es → IsAt es i x → is_some (block_at c x.blocks) ≡ true → (length x.blocks ≢ 1) → IsGivenIn i c es (set es i (with_blocks (without_block c x.blocks) x))
given-returned es i c x a g b n =
    let left = some-left x (without_block c x.blocks) (omega (arith, n, count-without c x.blocks b)) in (
      x,
      g,
      set-is (λ (z : Extent). left_of z (without_block c z.blocks)) (with_blocks (without_block c x.blocks) x) es i x a g left.1,
      ended-at c es i x a g ∙ left.0,
      λ k. set-type k es i x (with_blocks (without_block c x.blocks) x) g refl refl,
    )

-- ---- what comes of giving a block back in an extent, for this and all extents

pub is-freed : (address : ℕ) (x y : Extent) (freed : Freed) → IsExtent x → IsFreed address x freed y → IsExtent y
is-freed address x y NoBlock v (n, e) = subst IsExtent (sym e) v
is-freed address x y Back v (c, f, n, e) = subst IsExtent (sym e) (is-given x c v (omega (arith, n, count-without c x.blocks (cell-block x.first address c x.blocks f))))
is-freed address x y (Last c) v (f, n, e) = subst IsExtent (sym e) v

pub freed-alike : (address : ℕ) (x y : Extent) (freed : Freed) → IsFreed address x freed y → (y.first ≡ x.first) × (y.pages ≡ x.pages) × (y.mtype ≡ x.mtype)
freed-alike address x y NoBlock (n, e) = (ap (λ (z : Extent). z.first) e, ap (λ (z : Extent). z.pages) e, ap (λ (z : Extent). z.mtype) e)
freed-alike address x y Back (c, f, n, e) = (ap (λ (z : Extent). z.first) e, ap (λ (z : Extent). z.pages) e, ap (λ (z : Extent). z.mtype) e)
freed-alike address x y (Last c) (f, n, e) = (ap (λ (z : Extent). z.first) e, ap (λ (z : Extent). z.pages) e, ap (λ (z : Extent). z.mtype) e)

pub are-freed : (address i : ℕ) (es new : List Extent) (freed : Freed) → AreExtents es → IsFreedAt i address es freed new → AreExtents new
are-freed address i es new freed a (x, y, g, f, n) =
    let k = freed-alike address x y freed f in
    subst AreExtents (sym n) (are-set es i x y a g (is-freed address x y freed (is-extent es i x a g) f) k.0 k.1)

pub freed-in : (b : Book) (es : List Extent) (address i c : ℕ) (new : List Extent) → IsFound address es (Some (i, c)) → IsGivenIn i c es new → FreesPool b es address (Ok tt) b new
freed-in b es address i c new (e, h, k, p, a) (x, g, n, d, o) =
    let same : x ≡ e = same-at es i x e g h in
    let q : record { first = x.first; cell = c } ≡ record { first = e.first; cell = c } = ap (λ (z : Extent). record { first = z.first; cell = c }) same in
    (record { first = x.first; cell = c }, p ∙ ap (λ (z : Place). Some z) (sym q), sym (ap (λ (o : Option PageRange). given_if o b) d), n)

-- the block that is found is the only one of its extent, which so ends
only-ends : (es : List Extent) (i c : ℕ) (e : Extent) → IsAt es i e → AreExtents es → HasOneBlock i es → is_some (block_at c e.blocks) ≡ true → (without_block c e.blocks ≡ []) × (ended (record { first = e.first; cell = c }) es ≡ Some (range_of e))
only-ends es i c e h a (x, s, l) k =
    let le : length e.blocks ≡ 1 = subst (λ (z : Extent). length z.blocks ≡ 1) (same-at es i x e s h) l in
    let none : without_block c e.blocks ≡ [] = none-left (without_block c e.blocks) (omega (arith, le, count-without c e.blocks k)) in
    (none, ended-at c es i e a h ∙ ap (λ (bs : List Block). range_if_ended e bs) none)

-- an extent ended
abbrev pub IsEnded : ℕ → Book → List Extent → Book → List Extent → Type 0
IsEnded i b es new_b new =
    (e : Extent) × IsAt es i e × (new_b ≡ given_back (range_of e) b)
    × (new ≡ take i es ++ drop (i + 1) es)

pub freed-ended : (b : Book) (es : List Extent) (address i c : ℕ) (new_b : Book) (new : List Extent) → IsFound address es (Some (i, c)) → HasOneBlock i es → IsEnded i b es new_b new → FreesPool b es address (Ok tt) new_b new
freed-ended b es address i c new_b new (e, h, k, p, a) o (y, g, nb, n) =
    let (none, range) = only-ends es i c e h a o k in (
      record { first = e.first; cell = c },
      p,
      nb ∙ ap (λ (z : Extent). given_back (range_of z) b) (same-at es i y e g h) ∙ sym (ap (λ (o : Option PageRange). given_if o b) range),
      n ∙ ap (λ (j : ℕ). take i es ++ drop j es) (add-one i) ∙ gone-is (λ (z : Extent). left_of z (without_block c z.blocks)) es i e a h (ap (λ (bs : List Block). left_of e bs) none),
    )

-- The book refuses to give the pages of an extent back, and all stays.
pub refused-end : (b : Book) (es : List Extent) (address i c : ℕ) (range : PageRange) (status : Status) (new_b : Book) → IsFound address es (Some (i, c)) → HasOneBlock i es → GivesFromPool b range (Err status) new_b → FreesPool b es address (Err status) new_b es
refused-end b es address i c range OutOfResources new_b (e, h, k, p, a) o (same, none) = (record { first = e.first; cell = c }, range_of e, p, (only-ends es i c e h a o k).1, none, same, refl)
refused-end b es address i c range status new_b f o g = absurd g

pub owns-new-block : (m : List Page) (t size address : ℕ) (es new : List Extent) → OwnsExtents m es → IsTakenLive t size es (Some address) new → OwnsExtents m new
owns-new-block m t size address es new owns (p, f, d, n) k =
    owns k ∙ sym (ap (λ (zs : List Extent). extent_type k zs) n ∙ replaced-type k (begins_at p.first) (λ (e : Extent). with_blocks (with_block (new_block p.cell size) e.blocks) e) es (λ e. refl) (λ e. refl))

pub owns-given : (m : List Page) (i c : ℕ) (es new : List Extent) → OwnsExtents m es → IsGivenIn i c es new → OwnsExtents m new
owns-given m i c es new owns (e, h, n, d, o) k = owns k ∙ sym (o k)

-- ---- an extent more, and one less

pub insert-at : (e : Extent) (es : List Extent) (n f : ℕ) → f ≡ e.first → n ≡ place (λ (x : Extent). nat_le x.first f) es → insert es n e ≡ with_extent e es
insert-at e es n f q p =
    ap (λ (k : ℕ). insert es k e) (p ∙ ap (λ (k : ℕ). place (λ (x : Extent). nat_le x.first k) es) q) ∙ insert-is e es

pub owned-range : (m : List Page) (es : List Extent) (i : ℕ) (e : Extent) (r : PageRange) → AreExtents es → OwnsExtents m es → IsAt es i e → r.first ≡ e.first → r.pages ≡ e.pages → AllInRange m r (IsOwnedBy Pool)
owned-range m es i e r a owns h f p k l u = owned-extent m es i e a owns h k (omega (arith, f, l)) (omega (arith, f, p, u))

pub are-gone-at : (es : List Extent) (i : ℕ) (new : List Extent) → AreExtents es → new ≡ take i es ++ drop (i + 1) es → AreExtents new
are-gone-at es i new a e = subst AreExtents (sym (e ∙ ap (λ (j : ℕ). take i es ++ drop j es) (add-one i))) (are-gone es i a)

abbrev range : ℕ → ℕ → PageRange
range first pages = record { first = first; pages = pages }

pub same-range : (r : PageRange) (e : Extent) → r.first ≡ e.first → r.pages ≡ e.pages → r ≡ range_of e
same-range r e f p = ap (λ (n : ℕ). range n r.pages) f ∙ ap (λ (n : ℕ). range e.first n) p

pub gone-owns : (b new_b : Book) (es : List Extent) (i : ℕ) (e : Extent) (new : List Extent) → AreExtents es → OwnsExtents b.memory es → IsAt es i e → new_b ≡ given_back (range_of e) b → new ≡ take i es ++ drop (i + 1) es → OwnsExtents new_b.memory new
gone-owns b new_b es i e new a owns h gb n =
    let x = is-extent es i e a h in
    let z : (e.pages == 0) ≡ false = ne_eqb e.pages 0 (λ s. omega (arith, s, x.some)) in
    let g : new_b ≡ ended_book (range_of e) b = rw z at gb in
    let m : new_b.memory ≡ retyped (range_of e) conventional Given b.memory = ap (λ (y : Book). y.memory) g in
    let l : new ≡ take i es ++ drop (suc i) es = n ∙ ap (λ (j : ℕ). take i es ++ drop j es) (add-one i) in
    λ k. ap (λ (y : List Page). pool_type (page_at y k)) m ∙ owns-less b.memory es i e a owns h k ∙ ap (λ (ys : List Extent). extent_type k ys) (sym l)
