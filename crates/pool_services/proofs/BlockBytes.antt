-- The byte at each address of the pool, as blocks are taken and given back.
use Rattle.std.proofs.Common.{◌≡◌, ◌⊎◌, ℕ, zero, suc, ◌+◌, ◌-◌, ◌<◌, ◌≤◌, ◌==◌, nat_le, nat_lt, Bool, true, false, cond, is_some, inl, inr, List, [], ◌∷◌, ◌++◌, length, take, drop, set, replicate, Option, Some, None, Ok, refl, sym, ap, ◌∙◌, arith, subst, eq-eqb, ne_eqb, lt-ltb, le-ltb, le-leb}
use Rattle.std.specs.List.{AllByRecursion}
use Rattle.std.proofs.lemmas.Bool.{cases_lt, cases_eq, cases_Bool, lt-leb, leb-true, ltb-true, and_from, and_parts, and_left, and_right}
use Rattle.std.proofs.lemmas.List.{length-replicate, drop_all}
use Rattle.std.proofs.lemmas.Option.{same_Some}
use Rattle.page_ranges.specs.Granules.{IsGranule}
use Rattle.page_ranges.specs.Memory.{Page, AllInRange, IsConventional, IsProperMemory}
use Rattle.page_services.specs.PageRules.{Book, IsBestChoice}
use Rattle.page_services.proofs.Choices.{best_is_permitted}
use Rattle.raw_pool.specs.Blocks.{Block, cells_for, end_of, lowest_fit, new_block, with_block, without_block}
use Rattle.pool_services.specs.Extents.{Extent, Place, AreBlocks, AreExtents, IsExtent, address_of, at_cell, begins_at, cell_of, cells_in, first_fit, is_within, left_of, max_size, new_extent, or_else, place_of, range_of, replaced, tail_at, tail_in, with_blocks, with_extent, with_new_block, without}
use Rattle.pool_services.specs.PoolRules.{Answer, AllocatesPool, FreesPool, IsPut, OwnsExtents}
use Rattle.pool_services.specs.Searches.{HoldsAddress, IsAt}
use Rattle.pool_services.specs.Laws.{byte_at, first_byte, first_of, is_among, laid}
use Rattle.pool_services.proofs.CellBlocks.{fit-within, tail-low, within-low, within-high, within-same}
use Rattle.pool_services.proofs.ExtentLists.{above-holder, all-map, below-holder, gone-is, is-extent, no-tail, set-is, tail-elsewhere, tail-here}
use Rattle.pool_services.proofs.ExtentChanges.{is-given, is-taken}
use Rattle.pool_services.proofs.NewExtents.{is-new-extent}
use Rattle.pool_services.proofs.PoolPages.{apart, free-none}
use Rattle.pool_services.proofs.PoolBytes.{behind-end, holds-tail, laid-in, laid-low, laid-high, set-bytes}

-- ---- a new block

-- a new block over what was there, which was no block's
over : (first c size k : ℕ) (rest : Option (List ℕ)) → (address_of first c ≤ k → k ≤ address_of first c + size → rest ≡ None) →
    first_byte (cond (is_within first k (new_block c size)) (Some (drop (k - address_of first c) (replicate size 0))) rest) ≡ laid (address_of first c) (replicate size 0) k (first_byte rest)
over first c size k rest n =
    let a : ℕ = address_of first c in
    let zeros : List ℕ = replicate size 0 in
    let m : length zeros ≡ size = length-replicate size 0 in
    elim (cases_lt k a) [
      | inl l ↦ rw (within-low first k (new_block c size) l) (sym (laid-low a zeros k (first_byte rest) l))
      | inr l ↦ elim (cases_lt (a + size) k) [
        | inl h ↦ rw (within-high first k (new_block c size) h) (sym (laid-high a zeros k (first_byte rest) (omega (arith, m, h))))
        | inr h ↦ elim (cases_lt k (a + size)) [
          | inl u ↦ rw (within-same first k (new_block c size) l h) (sym (laid-in a zeros k (first_byte rest) l (omega (arith, m, u))))
          | inr u ↦
              rw (within-same first k (new_block c size) l h)
              (ap first_of (drop_all (k - a) zeros (omega (arith, m, u)))
              ∙ sym (ap first_byte (n l h))
              ∙ sym (laid-high a zeros k (first_byte rest) (omega (arith, m, u))))
        ]
      ]
    ]

-- no block has an address of a new one
clear : (cells from first c size k : ℕ) (bs : List Block) → AreBlocks cells from bs → lowest_fit cells (cells_for size) from bs ≡ Some c → address_of first c ≤ k → k ≤ address_of first c + size → tail_in first k bs ≡ None
clear cells from first c size k [] h e l u = refl
clear cells from first c size k (b ∷ bs) h e l u = elim (cases_lt b.first (from + cells_for size)) [
  | inl g ↦
      let r : lowest_fit cells (cells_for size) (end_of b) bs ≡ Some c = rw (lt-leb (from + cells_for size) b.first g) at e in
      let i = fit-within cells (cells_for size) (end_of b) c bs h.2 r in
      rw (within-high first k b (omega (arith, l, i.0))) (clear cells (end_of b) first c size k bs h.2 r l u)
  | inr g ↦
      let s : Some from ≡ Some c = rw (le-leb (from + cells_for size) b.first g) at e in
      let f : from ≡ c = cc in
      tail-low cells b.first first k (b ∷ bs) (omega arith, h.1, h.2) (omega (arith, f, g, u))
]

new-bytes : (cells from first c size k : ℕ) (bs : List Block) → AreBlocks cells from bs → lowest_fit cells (cells_for size) from bs ≡ Some c →
    first_byte (tail_in first k (with_block (new_block c size) bs)) ≡ laid (address_of first c) (replicate size 0) k (first_byte (tail_in first k bs))
new-bytes cells from first c size k [] h e = over first c size k None (λ l u. refl)
new-bytes cells from first c size k (b ∷ bs) h e = elim (cases_lt b.first (from + cells_for size)) [
  | inl g ↦
      let r : lowest_fit cells (cells_for size) (end_of b) bs ≡ Some c = rw (lt-leb (from + cells_for size) b.first g) at e in
      let i = fit-within cells (cells_for size) (end_of b) c bs h.2 r in
      let rest = new-bytes cells (end_of b) first c size k bs h.2 r in
      let t = lt-ltb b.first c (omega (arith, i.0)) in
      elim (cases_lt k (address_of first b.first)) [
        | inl l ↦ rw (t, within-low first k b l) rest
        | inr l ↦ elim (cases_lt (address_of first b.first + b.size) k) [
          | inl u ↦ rw (t, within-high first k b u) rest
          | inr u ↦ rw (t, within-same first k b l u) (sym (laid-low (address_of first c) (replicate size 0) k (first_of (drop (k - address_of first b.first) b.bytes)) (omega (arith, i.0, u))))
        ]
      ]
  | inr g ↦
      let s : Some from ≡ Some c = rw (le-leb (from + cells_for size) b.first g) at e in
      let f : from ≡ c = cc in
      rw (le-ltb b.first c (omega (arith, f))) (over first c size k (tail_in first k (b ∷ bs)) (λ l u. clear cells from first c size k (b ∷ bs) h e l u))
]

-- ---- the extent that takes a block

abbrev pub IsFit : ℕ → List Extent → Place → Type 0
IsFit size es p = (i : ℕ) × (e : Extent) × IsAt es i e × (lowest_fit (cells_in e.pages) (cells_for size) 0 e.blocks ≡ Some p.cell) × (e.first ≡ p.first)

later-fit : (size : ℕ) (x : Extent) (xs : List Extent) (p : Place) → IsFit size xs p → IsFit size (x ∷ xs) p
later-fit size x xs p (i, e, h, f, s) = (suc i, e, (omega (arith, h.0), h.1), f, s)

fit-by : (size : ℕ) (x : Extent) (xs : List Extent) (p : Place) (o : Option ℕ) (rest : Option Place) → lowest_fit (cells_in x.pages) (cells_for size) 0 x.blocks ≡ o → or_else (at_cell x.first o) rest ≡ Some p →
    (rest ≡ Some p → IsFit size xs p) → IsFit size (x ∷ xs) p
fit-by size x xs p None rest e s f = later-fit size x xs p (f s)
fit-by size x xs p (Some c) rest e s f =
    let q = same_Some (record { first = x.first; cell = c }) p s in
    (0, x, (omega arith, refl), e ∙ ap (λ (z : Place). Some z.cell) q, ap (λ (z : Place). z.first) q)

pub held-fit : (t size : ℕ) (es : List Extent) (p : Place) → first_fit t size es ≡ Some p → IsFit size es p
held-fit t size [] p s = absurd cc
held-fit t size (x ∷ xs) p s = elim (cases_Bool (x.mtype == t)) [
  | inl u ↦ fit-by size x xs p (lowest_fit (cells_in x.pages) (cells_for size) 0 x.blocks) (first_fit t size xs) refl (rw u at s) (λ r. held-fit t size xs p r)
  | inr u ↦ later-fit size x xs p (held-fit t size xs p (rw u at s))
]

-- the bytes of a new block lie in its extent
within-extent : (e : Extent) (c size k : ℕ) → IsExtent e → lowest_fit (cells_in e.pages) (cells_for size) 0 e.blocks ≡ Some c → address_of e.first c ≤ k → k < address_of e.first c + size → HoldsAddress e k
within-extent e c size k x f l u =
    let w = fit-within (cells_in e.pages) (cells_for size) 0 c e.blocks x.blocks f in
    (omega (arith, l), omega (arith, u, w.1))

among-parts : (start count k : ℕ) → is_among start count k ≡ true → (start ≤ k) × (k < start + count)
among-parts start count k e = let p = and_parts (nat_le start k) (nat_lt k (start + count)) e in (leb-true start k p.0, ltb-true k (start + count) p.1)

abbrev IsNewAt : ℕ → ℕ → List Extent → List Extent → ℕ → Type 0
IsNewAt start size es new k = (byte_at k new ≡ laid start (replicate size 0) k (byte_at k es)) × (is_among start size k ≡ true → byte_at k es ≡ None)

live-bytes : (t size k : ℕ) (es : List Extent) (p : Place) → AreExtents es → first_fit t size es ≡ Some p → IsNewAt (address_of p.first p.cell) size es (with_new_block p size es) k
live-bytes t size k es p a s =
    let (i, e, h, f, q) = held-fit t size es p s in
    let x = is-extent es i e a h in
    let by : Extent → List Extent = λ (z : Extent). with_blocks (with_block (new_block p.cell size) z.blocks) z ∷ [] in
    let bs : List Block = with_block (new_block p.cell size) e.blocks in
    let start : ℕ = address_of e.first p.cell in
    let zeros : List ℕ = replicate size 0 in
    let n : length zeros ≡ size = length-replicate size 0 in
    let block = new-bytes (cells_in e.pages) 0 e.first p.cell size k e.blocks x.blocks f in
    let new : set es i (with_blocks bs e) ≡ with_new_block p size es = set-is by (with_blocks bs e) es i e a h refl ∙ ap (λ (j : ℕ). replaced (begins_at j) by es) q in
    let bytes = set-bytes (laid start zeros k) k i es e bs a (is-taken e size p.cell x f) h block
    (λ out o. elim (cases_lt k start) [
      | inl g ↦ laid-low start zeros k o g
      | inr g ↦ elim (cases_lt k (start + size)) [
        | inl u ↦ absurd (out (within-extent e p.cell size k x f g u))
        | inr u ↦ laid-high start zeros k o (omega (arith, u, n))
      ]
    ]) in
    let free : is_among start size k ≡ true → byte_at k es ≡ None = λ u.
    let m = among-parts start size k u in
    ap first_byte (tail-here k es i e a h (within-extent e p.cell size k x f m.0 m.1) ∙ clear (cells_in e.pages) 0 e.first p.cell size k e.blocks x.blocks f m.0 (omega (arith, m.1))) in
    subst (λ (j : ℕ). IsNewAt (address_of j p.cell) size es (with_new_block p size es) k) q (sym (ap (byte_at k) new) ∙ bytes, free)

-- ---- a new extent

with-here : (k : ℕ) (e : Extent) (es : List Extent) (t : List ℕ) → tail_in e.first k e.blocks ≡ Some t → AllByRecursion (λ (x : Extent). tail_in x.first k x.blocks ≡ None) es → tail_at k (with_extent e es) ≡ Some t
with-here k e [] t s n = rw s refl
with-here k e (x ∷ xs) t s n = elim (cases_lt e.first x.first) [
  | inl l ↦ rw (lt-leb x.first e.first l, s) refl
  | inr l ↦ rw (le-leb x.first e.first l, n.0) (with-here k e xs t s n.1)
]

with-elsewhere : (k : ℕ) (e : Extent) (es : List Extent) → tail_in e.first k e.blocks ≡ None → tail_at k (with_extent e es) ≡ tail_at k es
with-elsewhere k e [] s = rw s refl
with-elsewhere k e (x ∷ xs) s = elim (cases_lt e.first x.first) [
  | inl l ↦ rw (lt-leb x.first e.first l, s) refl
  | inr l ↦ rw (le-leb x.first e.first l) (ap (λ (o : Option (List ℕ)). cond (is_some (tail_in x.first k x.blocks)) (tail_in x.first k x.blocks) o) (with-elsewhere k e xs s))
]

none-held : (k : ℕ) (es : List Extent) → AreExtents es → AllByRecursion (λ (x : Extent). ¬ HoldsAddress x k) es → AllByRecursion (λ (x : Extent). tail_in x.first k x.blocks ≡ None) es
none-held k [] a n = tt
none-held k (x ∷ xs) a n = (tail-elsewhere x k a.0 n.0, none-held k xs a.2 n.1)

with-new : (granule start t size k : ℕ) (es : List Extent) (w : Bool) → is_within start k (new_block 0 size) ≡ w → (w ≡ true → AllByRecursion (λ (x : Extent). tail_in x.first k x.blocks ≡ None) es) →
    tail_at k (with_extent (new_extent granule start t size) es) ≡ cond (is_within start k (new_block 0 size)) (Some (drop (k - address_of start 0) (replicate size 0))) (tail_at k es)
with-new granule start t size k es true e n = rw e (with-here k (new_extent granule start t size) es (drop (k - address_of start 0) (replicate size 0)) (rw e refl) (n refl))
with-new granule start t size k es false e n = rw e (with-elsewhere k (new_extent granule start t size) es (rw e refl))

extent-bytes : (m : List Page) (granule t size start k : ℕ) (es : List Extent) → IsProperMemory m → OwnsExtents m es → AreExtents es → IsExtent (new_extent granule start t size) → AllInRange m (range_of (new_extent granule start t size)) IsConventional →
    IsNewAt (address_of start 0) size es (with_extent (new_extent granule start t size) es) k
extent-bytes m granule t size start k es proper owns a x free =
    let e : Extent = new_extent granule start t size in
    let from = apart e es x.some a (λ j u. sym (owns j) ∙ free-none m (range_of e) proper free j u) in
    let others : address_of start 0 ≤ k → k ≤ address_of start 0 + size → AllByRecursion (λ (z : Extent). ¬ HoldsAddress z k) es = λ l u.
    all-map (λ z. (z.first + z.pages ≤ e.first) ⊎ (e.first + e.pages ≤ z.first)) (λ z. ¬ HoldsAddress z k) (λ z d h. elim d [ inl g ↦ omega (arith, g, l, h.1) | inr g ↦ omega (arith, g, u, h.0) ]) es from in
    let parts : is_within start k (new_block 0 size) ≡ true → (address_of start 0 ≤ k) × (k ≤ address_of start 0 + size) = λ w.
    let p = and_parts (nat_le (address_of start 0) k) (nat_le k (address_of start 0 + size)) w in (leb-true (address_of start 0) k p.0, leb-true k (address_of start 0 + size) p.1) in
    let new = with-new granule start t size k es (is_within start k (new_block 0 size)) refl (λ w. none-held k es a (others (parts w).0 (parts w).1)) in (
      ap first_byte new ∙ over start 0 size k (tail_at k es) (λ l u. no-tail k es a (others l u)),
      λ w. let q = among-parts (address_of start 0) size k w in ap first_byte (no-tail k es a (others q.0 (omega (arith, q.1)))),
    )

-- ---- the law

by-fit : (b new_b : Book) (es new : List Extent) (t size : ℕ) (answer : Answer) (o : Option Place) → IsGranule b.granule → IsProperMemory b.memory → OwnsExtents b.memory es → AreExtents es → size ≤ max_size → first_fit t size es ≡ o →
    IsPut IsBestChoice o b es t size answer new_b new → (k : ℕ) → IsNewAt answer.0 size es new k
by-fit b new_b es new t size answer (Some p) granule proper owns a s f (d, c, g, n) k =
    subst (λ (zs : List Extent). IsNewAt answer.0 size es zs k) (sym n) (subst (λ (j : ℕ). IsNewAt j size es (with_new_block p size es) k) (sym d) (live-bytes t size k es p a f))
by-fit b new_b es new t size answer None granule proper owns a s f (start, c, d, g, n) k =
    let x = is-new-extent IsBestChoice best_is_permitted b t size start answer.1 granule s c in
    subst (λ (zs : List Extent). IsNewAt answer.0 size es zs k) (sym n) (subst (λ (j : ℕ). IsNewAt j size es (with_extent (new_extent b.granule start t size) es) k) (sym d) (extent-bytes b.memory b.granule t size start k es proper owns a x.0 x.1))

pub took : (b new_b : Book) (es new : List Extent) (t size : ℕ) (answer : Answer) → IsGranule b.granule → IsProperMemory b.memory → OwnsExtents b.memory es → AreExtents es → AllocatesPool IsBestChoice b es t size (Ok answer) new_b new →
    (k : ℕ) → (byte_at k new ≡ laid answer.0 (replicate size 0) k (byte_at k es)) × (is_among answer.0 size k ≡ true → byte_at k es ≡ None)
took b new_b es new t size answer granule proper owns a (good, s, put) k = by-fit b new_b es new t size answer (first_fit t size es) granule proper owns a s refl put k

-- ---- a block given back

-- what is at an address once a number of bytes from a start on are taken away
abbrev cleared : ℕ → ℕ → ℕ → Option ℕ → Option ℕ
cleared start count k old = cond (is_among start count k) None old

cleared-in : (start count k : ℕ) (old : Option ℕ) → start ≤ k → k < start + count → cleared start count k old ≡ None
cleared-in start count k old l u = ap (λ (t : Bool). cond t None old) (and_from (nat_le start k) (nat_lt k (start + count)) (le-leb start k l) (lt-ltb k (start + count) u))

cleared-low : (start count k : ℕ) (old : Option ℕ) → k < start → cleared start count k old ≡ old
cleared-low start count k old l = ap (λ (t : Bool). cond t None old) (and_left (nat_le start k) (nat_lt k (start + count)) (lt-leb start k l))

cleared-high : (start count k : ℕ) (old : Option ℕ) → start + count ≤ k → cleared start count k old ≡ old
cleared-high start count k old l = ap (λ (t : Bool). cond t None old) (and_right (nat_le start k) (nat_lt k (start + count)) (le-ltb k (start + count) l))

cell-behind : (cells from first address c : ℕ) (bs : List Block) → AreBlocks cells from bs → cell_of first address bs ≡ Some c → (from ≤ c) × (address ≡ address_of first c)
cell-behind cells from first address c [] h e = absurd cc
cell-behind cells from first address c (b ∷ bs) h e = elim (cases_eq (address_of first b.first) address) [
  | inl s ↦
      let z : Some b.first ≡ Some c = rw (eq-eqb (address_of first b.first) address s) at e in
      let f : b.first ≡ c = same_Some b.first c z in
      (omega (arith, h.0, f), omega (arith, s, f))
  | inr n ↦
      let r = cell-behind cells (end_of b) first address c bs h.2 (rw (ne_eqb (address_of first b.first) address n) at e) in
      (omega (arith, h.0, r.0), r.1)
]

abbrev IsGoneAt : ℕ → ℕ → ℕ → List Block → List ℕ → Type 0
IsGoneAt first address c bs t =
    (tail_in first address bs ≡ Some t) × ((k : ℕ) → first_byte (tail_in first k (without_block c bs)) ≡ cleared address (length t) k (first_byte (tail_in first k bs)))

gone-first : (cells first address : ℕ) (b : Block) (bs : List Block) → length b.bytes ≡ b.size → AreBlocks cells (end_of b) bs → address_of first b.first ≡ address → (k : ℕ) →
    first_byte (tail_in first k bs) ≡ cleared address (length b.bytes) k (first_byte (tail_in first k (b ∷ bs)))
gone-first cells first address b bs n h s k =
    let a : ℕ = address_of first b.first in
    let old : Option ℕ = first_byte (tail_in first k (b ∷ bs)) in
    elim (cases_lt k a) [
      | inl l ↦ let f : old ≡ first_byte (tail_in first k bs) = rw (within-low first k b l) refl in sym (cleared-low address (length b.bytes) k old (omega (arith, l, s)) ∙ f)
      | inr l ↦ elim (cases_lt (a + b.size) k) [
        | inl u ↦ let f : old ≡ first_byte (tail_in first k bs) = rw (within-high first k b u) refl in sym (cleared-high address (length b.bytes) k old (omega (arith, u, n, s)) ∙ f)
        | inr u ↦
            let none = tail-low cells (end_of b) first k bs h (omega (arith, u)) in
            elim (cases_lt k (a + b.size)) [
              | inl v ↦ ap first_byte none ∙ sym (cleared-in address (length b.bytes) k old (omega (arith, l, s)) (omega (arith, v, n, s)))
              | inr v ↦
                  let f : old ≡ first_of (drop (k - a) b.bytes) = rw (within-same first k b l u) refl in
                  ap first_byte none ∙ sym (cleared-high address (length b.bytes) k old (omega (arith, v, n, s)) ∙ f ∙ ap first_of (drop_all (k - a) b.bytes (omega (arith, v, n))))
            ]
      ]
    ]

gone-later : (cells first address c : ℕ) (b : Block) (bs : List Block) (t : List ℕ) → end_of b ≤ c → address ≡ address_of first c → IsGoneAt first address c bs t → (k : ℕ) →
    first_byte (tail_in first k (b ∷ without_block c bs)) ≡ cleared address (length t) k (first_byte (tail_in first k (b ∷ bs)))
gone-later cells first address c b bs t low s g k =
    let a : ℕ = address_of first b.first in
    elim (cases_lt k a) [
      | inl l ↦ rw (within-low first k b l) (g.1 k)
      | inr l ↦ elim (cases_lt (a + b.size) k) [
        | inl u ↦ rw (within-high first k b u) (g.1 k)
        | inr u ↦ rw (within-same first k b l u) (sym (cleared-low address (length t) k (first_of (drop (k - a) b.bytes)) (omega (arith, low, s, u))))
      ]
    ]

gone-bytes : (cells from first address c : ℕ) (bs : List Block) → AreBlocks cells from bs → cell_of first address bs ≡ Some c → (t : List ℕ) × IsGoneAt first address c bs t
gone-bytes cells from first address c [] h e = absurd cc
gone-bytes cells from first address c (b ∷ bs) h e = elim (cases_eq (address_of first b.first) address) [
  | inl s ↦
      let z : Some b.first ≡ Some c = rw (eq-eqb (address_of first b.first) address s) at e in
      let f : b.first ≡ c = same_Some b.first c z in
      let d : address - address_of first b.first ≡ 0 = omega (arith, s) in
      let here : tail_in first address (b ∷ bs) ≡ Some b.bytes = rw (within-same first address b (omega (arith, s)) (omega (arith, s))) (ap (λ (j : ℕ). Some (drop j b.bytes)) d) in
      let rest : without_block c (b ∷ bs) ≡ bs = rw (eq-eqb b.first c f) refl in
      (b.bytes, (here, λ k. ap (λ (ys : List Block). first_byte (tail_in first k ys)) rest ∙ gone-first cells first address b bs h.1 h.2 s k))
  | inr n ↦
      let z : cell_of first address bs ≡ Some c = rw (ne_eqb (address_of first b.first) address n) at e in
      let r = cell-behind cells (end_of b) first address c bs h.2 z in
      let (t, g) = gone-bytes cells (end_of b) first address c bs h.2 z in
      let here : tail_in first address (b ∷ bs) ≡ Some t = rw (within-high first address b (omega (arith, r.0, r.1))) g.0 in
      let rest : without_block c (b ∷ bs) ≡ b ∷ without_block c bs = rw (ne_eqb b.first c (λ s. n (omega (arith, s, r.1)))) refl in
      (t, (here, λ k. ap (λ (ys : List Block). first_byte (tail_in first k ys)) rest ∙ gone-later cells first address c b bs t r.0 r.1 g k))
]

-- ---- the extent that gives a block back

abbrev pub IsHolding : ℕ → List Extent → Place → Type 0
IsHolding address es p = (i : ℕ) × (e : Extent) × IsAt es i e × (cell_of e.first address e.blocks ≡ Some p.cell) × (e.first ≡ p.first)

holding-by : (address : ℕ) (x : Extent) (xs : List Extent) (p : Place) (o : Option ℕ) (rest : Option Place) → cell_of x.first address x.blocks ≡ o → or_else (at_cell x.first o) rest ≡ Some p →
    (rest ≡ Some p → IsHolding address xs p) → IsHolding address (x ∷ xs) p
holding-by address x xs p None rest e s f = let (i, y, h, d, q) = f s in (suc i, y, (omega (arith, h.0), h.1), d, q)
holding-by address x xs p (Some c) rest e s f =
    let q = same_Some (record { first = x.first; cell = c }) p s in
    (0, x, (omega arith, refl), e ∙ ap (λ (z : Place). Some z.cell) q, ap (λ (z : Place). z.first) q)

pub holding : (address : ℕ) (es : List Extent) (p : Place) → place_of address es ≡ Some p → IsHolding address es p
holding address [] p s = absurd cc
holding address (x ∷ xs) p s = holding-by address x xs p (cell_of x.first address x.blocks) (place_of address xs) refl s (λ r. holding address xs p r)

-- an extent that ended has no bytes, and the others have theirs
gone-here : (k : ℕ) (es : List Extent) (i : ℕ) (e : Extent) → AreExtents es → IsAt es i e → HoldsAddress e k → tail_at k (take i es ++ drop (suc i) es) ≡ None
gone-here k [] i e a h u = absurd (omega (arith, h.0))
gone-here k (x ∷ xs) zero e a h u = no-tail k xs a.2 (above-holder x k xs (subst (λ (y : Extent). HoldsAddress y k) h.1 u) a.1)
gone-here k (x ∷ xs) (suc i) e a h u =
    let t : IsAt xs i e = (omega (arith, h.0), h.1) in
    rw (tail-elsewhere x k a.0 (below-holder x xs i e k a.1 t u)) (gone-here k xs i e a.2 t u)

gone-elsewhere : (k : ℕ) (es : List Extent) (i : ℕ) (e : Extent) → IsAt es i e → tail_in e.first k e.blocks ≡ None → tail_at k (take i es ++ drop (suc i) es) ≡ tail_at k es
gone-elsewhere k [] i e h n = absurd (omega (arith, h.0))
gone-elsewhere k (x ∷ xs) zero e h n =
    let f : tail_in x.first k x.blocks ≡ None = sym (ap (λ (z : Extent). tail_in z.first k z.blocks) h.1) ∙ n in
    rw f refl
gone-elsewhere k (x ∷ xs) (suc i) e h n =
    ap (λ (o : Option (List ℕ)). cond (is_some (tail_in x.first k x.blocks)) (tail_in x.first k x.blocks) o) (gone-elsewhere k xs i e (omega (arith, h.0), h.1) n)

ended-bytes : (Change : Option ℕ → Option ℕ) (k i : ℕ) (es : List Extent) (e : Extent) → AreExtents es → IsAt es i e → None ≡ Change (first_byte (tail_in e.first k e.blocks)) → ((¬ HoldsAddress e k) → (o : Option ℕ) → Change o ≡ o) →
    byte_at k (take i es ++ drop (suc i) es) ≡ Change (byte_at k es)
ended-bytes Change k i es e a h c out =
    let x = is-extent es i e a h in
    let outside : (¬ HoldsAddress e k) → byte_at k (take i es ++ drop (suc i) es) ≡ Change (byte_at k es) = λ n. ap first_byte (gone-elsewhere k es i e h (tail-elsewhere e k x n)) ∙ sym (out n (byte_at k es)) in
    elim (cases_lt k (address_of e.first 0)) [
      | inl l ↦ outside (λ u. omega (arith, l, u.0))
      | inr l ↦ elim (cases_lt k (address_of e.first (cells_in e.pages))) [
        | inl u ↦ ap first_byte (gone-here k es i e a h (l, u)) ∙ c ∙ ap (λ (o : Option (List ℕ)). Change (first_byte o)) (sym (tail-here k es i e a h (l, u)))
        | inr u ↦ outside (λ w. omega (arith, u, w.1))
      ]
    ]

left-bytes : (Change : Option ℕ → Option ℕ) (k i c : ℕ) (es : List Extent) (e : Extent) (ws : List Block) → AreExtents es → IsAt es i e → without_block c e.blocks ≡ ws →
    first_byte (tail_in e.first k (without_block c e.blocks)) ≡ Change (first_byte (tail_in e.first k e.blocks)) → ((¬ HoldsAddress e k) → (o : Option ℕ) → Change o ≡ o) →
    byte_at k (without (record { first = e.first; cell = c }) es) ≡ Change (byte_at k es)
left-bytes Change k i c es e [] a h w g out =
    let by : Extent → List Extent = λ (z : Extent). left_of z (without_block c z.blocks) in
    let none : None ≡ Change (first_byte (tail_in e.first k e.blocks)) = sym (ap (λ (ys : List Block). first_byte (tail_in e.first k ys)) w) ∙ g in
    sym (ap (byte_at k) (gone-is by es i e a h (ap (left_of e) w))) ∙ ended-bytes Change k i es e a h none out
left-bytes Change k i c es e (b ∷ bs) a h w g out =
    let by : Extent → List Extent = λ (z : Extent). left_of z (without_block c z.blocks) in
    let x = is-extent es i e a h in
    let l : 0 < length (without_block c e.blocks) = omega (arith, ap (λ (ys : List Block). length ys) w) in
    let v : IsExtent (with_blocks (b ∷ bs) e) = subst (λ (ys : List Block). IsExtent (with_blocks ys e)) w (is-given e c x l) in
    let f : first_byte (tail_in e.first k (b ∷ bs)) ≡ Change (first_byte (tail_in e.first k e.blocks)) = sym (ap (λ (ys : List Block). first_byte (tail_in e.first k ys)) w) ∙ g in
    sym (ap (byte_at k) (set-is by (with_blocks (b ∷ bs) e) es i e a h (ap (left_of e) w))) ∙ set-bytes Change k i es e (b ∷ bs) a v h f out

pub freed : (b new_b : Book) (es new : List Extent) (address : ℕ) (done : Unit {0}) → AreExtents es → FreesPool b es address (Ok done) new_b new →
    (bytes : List ℕ) × (tail_at address es ≡ Some bytes) × ((k : ℕ) → byte_at k new ≡ cond (is_among address (length bytes) k) None (byte_at k es))
freed b new_b es new address done a (p, s, g, n) =
    let (i, e, h, d, q) = holding address es p s in
    let x = is-extent es i e a h in
    let (t, (here, rest)) = gone-bytes (cells_in e.pages) 0 e.first address p.cell e.blocks x.blocks d in
    let u : HoldsAddress e address = holds-tail e address t x here in
    let within = behind-end (cells_in e.pages) 0 e.first address (length t) t e.blocks x.blocks here (omega arith) in
    let z : new ≡ without (record { first = e.first; cell = p.cell }) es = n ∙ ap (λ (j : ℕ). without (record { first = j; cell = p.cell }) es) (sym q) in (
      t,
      tail-here address es i e a h u ∙ here,
      λ k. ap (byte_at k) z ∙ left-bytes (cleared address (length t) k) k i p.cell es e (without_block p.cell e.blocks) a h refl (rest k)
          (λ out o. elim (cases_lt k address) [
            | inl l ↦ cleared-low address (length t) k o l
            | inr l ↦ elim (cases_lt k (address + length t)) [
              | inl f ↦ absurd (out (omega (arith, l, u.0), omega (arith, f, within)))
              | inr f ↦ cleared-high address (length t) k o f
            ]
          ]),
    )
