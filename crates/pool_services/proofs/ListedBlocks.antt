-- The first block from an address on: in an extent by cells, and among extents.
use Rattle.std.proofs.Common.{◌≡◌, ℕ, zero, suc, ◌+◌, ◌-◌, ◌*◌, ◌/◌, ◌<◌, ◌≤◌, nat_le, Bool, true, false, inl, inr, List, [], ◌∷◌, ◌++◌, map, length, drop, Option, Some, None, is_some, add-one, refl, sym, ap, ◌∙◌, arith, subst, eq-eqb, ne_eqb, le-leb}
use Rattle.std.specs.Option.{option_map}
use Rattle.std.specs.List.{find}
use Rattle.std.proofs.lemmas.Bool.{cases_lt, cases_eq, cases_Bool, lt-leb}
use Rattle.raw_pool.specs.Blocks.{Block, block_at, cells_for, end_of}
use Rattle.pool_services.specs.Extents.{Extent, AreBlocks, AreExtents, address_of, cells_in}
use Rattle.pool_services.specs.Listed.{begins_from, blocks_of, is_from, listed}
use Rattle.pool_services.specs.Searches.{IsAt, place}
use Rattle.pool_services.specs.declared.listed.PoolBlock.{PoolBlock}
use Rattle.pool_services.proofs.CellBlocks.{ends-after, none-below}
use Rattle.pool_services.proofs.ExtentLists.{all-at, last-up-to}

-- ---- finding

find_map : {X Y : Type 0} (p : Y → Bool) (f : X → Y) (xs : List X) → find p (map f xs) ≡ option_map f (find (λ x. p (f x)) xs)
find_map p f [] = refl
find_map p f (x ∷ xs) = elim (cases_Bool (p (f x))) [
  | inl e ↦ rw e refl
  | inr e ↦ rw e (find_map p f xs)
]

find_same : {X : Type 0} (p q : X → Bool) → ((x : X) → p x ≡ q x) → (xs : List X) → find p xs ≡ find q xs
find_same p q h [] = refl
find_same p q h (x ∷ xs) = elim (cases_Bool (q x)) [
  | inl e ↦ let d : p x ≡ true = h x ∙ e in rw (d, e) refl
  | inr e ↦ let d : p x ≡ false = h x ∙ e in rw (d, e) (find_same p q h xs)
]

pub find_behind : {X : Type 0} (p : X → Bool) (xs ys : List X) → find p xs ≡ None → find p (xs ++ ys) ≡ find p ys
find_behind p [] ys h = refl
find_behind p (x ∷ xs) ys h = elim (cases_Bool (p x)) [
  | inl e ↦ let n : Some x ≡ None = rw e at h in absurd cc
  | inr e ↦ rw e (find_behind p xs ys (rw e at h))
]

pub find_front : {X : Type 0} (p : X → Bool) (xs ys : List X) (y : X) → find p xs ≡ Some y → find p (xs ++ ys) ≡ Some y
find_front p [] ys y h = absurd cc
find_front p (x ∷ xs) ys y h = elim (cases_Bool (p x)) [
  | inl e ↦ let s : Some x ≡ Some y = rw e at h in rw e s
  | inr e ↦ rw e (find_front p xs ys y (rw e at h))
]

-- ---- blocks by cells

pub at_first : (c : ℕ) (x : Block) (bs : List Block) → block_at c bs ≡ Some x → x.first ≡ c
at_first c x [] e = absurd cc
at_first c x (b ∷ bs) e = elim (cases_eq b.first c) [
  | inl same ↦
      let s : Some b ≡ Some x = rw (eq-eqb b.first c same) at e in
      let bx : b ≡ x = cc in
      sym (ap (λ (k : Block). k.first) bx) ∙ same
  | inr other ↦ at_first c x bs (rw (ne_eqb b.first c other) at e)
]

pub ends_within : (cells from c : ℕ) (x : Block) (bs : List Block) → AreBlocks cells from bs → block_at c bs ≡ Some x → end_of x ≤ cells
ends_within cells from c x [] h e = absurd cc
ends_within cells from c x (b ∷ bs) h e = elim (cases_eq b.first c) [
  | inl same ↦
      let s : Some b ≡ Some x = rw (eq-eqb b.first c same) at e in
      let bx : b ≡ x = cc in
      subst (λ (k : Block). end_of k ≤ cells) bx (ends-after cells (end_of b) bs h.2)
  | inr other ↦ ends_within cells (end_of b) c x bs h.2 (rw (ne_eqb b.first c other) at e)
]

rest_none : (c : ℕ) (b : Block) (bs : List Block) → block_at c (b ∷ bs) ≡ None → block_at c bs ≡ None
rest_none c b bs e = elim (cases_eq b.first c) [
  | inl same ↦ let n : Some b ≡ None = rw (eq-eqb b.first c same) at e in absurd cc
  | inr other ↦ rw (ne_eqb b.first c other) at e
]

-- a block begins at a cell, and none from another cell on up to it
pub first_at : (cells from cell c : ℕ) (x : Block) (bs : List Block) → AreBlocks cells from bs → cell ≤ c → block_at c bs ≡ Some x → ((k : ℕ) → cell ≤ k → k < c → block_at k bs ≡ None) → find (begins_from cell) bs ≡ Some x
first_at cells from cell c x [] h l e n = absurd cc
first_at cells from cell c x (b ∷ bs) h l e n = elim (cases_eq b.first c) [
  | inl same ↦
      let s : Some b ≡ Some x = rw (eq-eqb b.first c same) at e in
      rw (le-leb cell b.first (omega (arith, same))) s
  | inr other ↦
      let there : block_at c bs ≡ Some x = rw (ne_eqb b.first c other) at e in
      elim (cases_lt b.first cell) [
        | inl low ↦ rw (lt-leb cell b.first low) (first_at cells (end_of b) cell c x bs h.2 l there (λ k a u. rest_none k b bs (n k a u)))
        | inr high ↦ elim (cases_lt b.first c) [
          | inl before ↦ let none : Some b ≡ None = rw (eq-eqb b.first b.first refl) at (n b.first high before) in absurd cc
          | inr behind ↦ let none = none-below cells (end_of b) c bs h.2 (omega (arith, behind)) in absurd cc
        ]
      ]
]

-- no block begins at a cell or above it
pub first_none : (cells from cell : ℕ) (bs : List Block) → AreBlocks cells from bs → ((k : ℕ) → cell ≤ k → k < cells → block_at k bs ≡ None) → find (begins_from cell) bs ≡ None
first_none cells from cell [] h n = refl
first_none cells from cell (b ∷ bs) h n = elim (cases_lt b.first cell) [
  | inl low ↦ rw (lt-leb cell b.first low) (first_none cells (end_of b) cell bs h.2 (λ k a u. rest_none k b bs (n k a u)))
  | inr high ↦ let none : Some b ≡ None = rw (eq-eqb b.first b.first refl) at (n b.first high (omega (arith, ends-after cells (end_of b) bs h.2))) in absurd cc
]

all_from : (cells from a c : ℕ) (bs : List Block) → AreBlocks cells from bs → a ≤ from → c ≤ from → find (begins_from a) bs ≡ find (begins_from c) bs
all_from cells from a c [] h l m = refl
all_from cells from a c (b ∷ bs) h l m = rw (le-leb a b.first (omega (arith, h.0)), le-leb c b.first (omega (arith, h.0))) refl

-- behind the first cell of a block the next one begins at its end or above
pub first_behind : (cells from c : ℕ) (x : Block) (bs : List Block) → AreBlocks cells from bs → block_at c bs ≡ Some x → find (begins_from (end_of x)) bs ≡ find (begins_from (c + 1)) bs
first_behind cells from c x [] h e = absurd cc
first_behind cells from c x (b ∷ bs) h e = elim (cases_eq b.first c) [
  | inl same ↦
      let s : Some b ≡ Some x = rw (eq-eqb b.first c same) at e in
      let bx : b ≡ x = cc in
      subst (λ (k : Block). find (begins_from (end_of k)) (b ∷ bs) ≡ find (begins_from (c + 1)) (b ∷ bs)) bx
      (rw (lt-leb (end_of b) b.first (omega arith), lt-leb (c + 1) b.first (omega (arith, same))) (all_from cells (end_of b) (end_of b) (c + 1) bs h.2 (omega arith) (omega (arith, same))))
  | inr other ↦
      let there : block_at c bs ≡ Some x = rw (ne_eqb b.first c other) at e in
      let x_first = at_first c x bs there in
      elim (cases_lt c (end_of b)) [
        | inl low ↦ let none = none-below cells (end_of b) c bs h.2 low in absurd cc
        | inr high ↦ rw (lt-leb (end_of x) b.first (omega (arith, x_first)), lt-leb (c + 1) b.first (omega arith)) (first_behind cells (end_of b) c x bs h.2 there)
      ]
]

-- the block whose size was found
pub sized : (n : ℕ) (o : Option Block) → Some n ≡ option_map (λ b. b.size) o → (x : Block) × (o ≡ Some x) × (n ≡ x.size)
sized n None e = absurd cc
sized n (Some x) e = (x, refl, cc)

-- the cell behind the block that begins one cell before
pub behind_cell : (cells cell size : ℕ) (bs : List Block) → AreBlocks cells 0 bs → (0 < cell) → Some size ≡ option_map (λ b. b.size) (block_at (cell - 1) bs) →
    find (begins_from ((cell - 1) + cells_for size)) bs ≡ find (begins_from cell) bs
behind_cell cells cell size bs h p e =
    let s = sized size (block_at (cell - 1) bs) e in
    let f = at_first (cell - 1) s.0 bs s.1 in
    let b = first_behind cells 0 (cell - 1) s.0 bs h s.1 in
    let n : (cell - 1) + 1 ≡ cell = omega arith in
    let m : end_of s.0 ≡ (cell - 1) + cells_for size = omega (arith, f, s.2) in
    rw (m, n) at b

-- the size of a block is bounded by its cells
pub size_within : (cells cell size : ℕ) (bs : List Block) → AreBlocks cells 0 bs → Some size ≡ option_map (λ b. b.size) (block_at cell bs) → cell + cells_for size ≤ cells
size_within cells cell size bs h e =
    let s = sized size (block_at cell bs) e in
    let f = at_first cell s.0 bs s.1 in
    let w = ends_within cells 0 cell s.0 bs h s.1 in
    omega (arith, f, s.2, w)

pub found_within : (cells from : ℕ) (p : Block → Bool) (x : Block) (bs : List Block) → AreBlocks cells from bs → find p bs ≡ Some x → end_of x ≤ cells
found_within cells from p x [] h e = absurd cc
found_within cells from p x (b ∷ bs) h e = elim (cases_Bool (p b)) [
  | inl t ↦
      let s : Some b ≡ Some x = rw t at e in
      let bx : b ≡ x = cc in
      subst (λ (k : Block). end_of k ≤ cells) bx (ends-after cells (end_of b) bs h.2)
  | inr f ↦ found_within cells (end_of b) p x bs h.2 (rw f at e)
]

pub next_some : (cells cell c size : ℕ) (bs : List Block) → AreBlocks cells 0 bs → cell ≤ c → Some size ≡ option_map (λ b. b.size) (block_at c bs) → ((k : ℕ) → cell ≤ k → k < c → block_at k bs ≡ None) →
    ◌≡◌ {A = Option (ℕ × ℕ)} (Some (c, size)) (option_map (λ b. (b.first, b.size)) (find (begins_from cell) bs))
next_some cells cell c size bs h l e n =
    let s = sized size (block_at c bs) e in
    let found = first_at cells 0 cell c s.0 bs h l s.1 n in
    let first = at_first c s.0 bs s.1 in
    rw (found, first, ← s.2) refl

pub next_none : (cells cell : ℕ) (bs : List Block) → AreBlocks cells 0 bs → ((k : ℕ) → cell ≤ k → k < cells → block_at k bs ≡ None) → ◌≡◌ {A = Option (ℕ × ℕ)} None (option_map (λ b. (b.first, b.size)) (find (begins_from cell) bs))
next_none cells cell bs h n = rw (first_none cells 0 cell bs h n) refl

-- ---- in an extent

-- a block is found by its address as by its cell
pub found_by_cell : (address cell : ℕ) (e : Extent) → ((k : ℕ) → nat_le cell k ≡ nat_le address (address_of e.first k)) → find (is_from address) (map (listed e) e.blocks) ≡ option_map (listed e) (find (begins_from cell) e.blocks)
found_by_cell address cell e h = find_map (is_from address) (listed e) e.blocks ∙ ap (λ o. option_map (listed e) o) (find_same (λ b. is_from address (listed e b)) (begins_from cell) (λ b. sym (h b.first)) e.blocks)

pub low_none : (cells from address : ℕ) (e : Extent) (bs : List Block) → AreBlocks cells from bs → 4096 * e.first + 32 * cells ≤ address → find (is_from address) (map (listed e) bs) ≡ None
low_none cells from address e [] h l = refl
low_none cells from address e (b ∷ bs) h l =
    rw (lt-leb address (address_of e.first b.first) (omega (arith, ends-after cells (end_of b) bs h.2))) (low_none cells (end_of b) address e bs h.2 l)

-- ---- among extents

-- no block below the last extent that begins at or below an address lies at it or above
pub skipped : (address : ℕ) (es : List Extent) (i : ℕ) (e : Extent) → AreExtents es → IsAt es i e → 4096 * e.first ≤ address → find (is_from address) (blocks_of es) ≡ find (is_from address) (blocks_of (drop i es))
skipped address [] i e a h l = absurd (omega (arith, h.0))
skipped address (x ∷ xs) zero e a h l = refl
skipped address (x ∷ xs) (suc i) e a h l =
    let t : IsAt xs i e = (omega (arith, h.0), h.1) in
    let u = all-at (λ y. x.first + x.pages ≤ y.first) xs i e a.1 t in
    find_behind (is_from address) (map (listed x) x.blocks) (blocks_of xs) (low_none (cells_in x.pages) 0 address x x.blocks a.0.blocks (omega (arith, l, u)))
    ∙ skipped address xs i e a.2 t l

paired : (c n : ℕ) (o : Option Block) → ◌≡◌ {A = Option (ℕ × ℕ)} (Some (c, n)) (option_map (λ b. (b.first, b.size)) o) → (x : Block) × (o ≡ Some x) × (c ≡ x.first) × (n ≡ x.size)
paired c n None e = absurd cc
paired c n (Some x) e =
    let p : ◌≡◌ {A = ℕ × ℕ} (c, n) (x.first, x.size) = cc in
    (x, refl, ap (λ (q : ℕ × ℕ). q.0) p, ap (λ (q : ℕ × ℕ). q.1) p)

unpaired : (o : Option Block) → ◌≡◌ {A = Option (ℕ × ℕ)} None (option_map (λ b. (b.first, b.size)) o) → o ≡ None
unpaired None e = refl
unpaired (Some x) e = absurd cc

-- no block of an extent lies at or above an address
pub block_none : (address cell c : ℕ) (e : Extent) → ((k : ℕ) → nat_le cell k ≡ nat_le address (address_of e.first k)) → find (begins_from c) e.blocks ≡ find (begins_from cell) e.blocks →
    ◌≡◌ {A = Option (ℕ × ℕ)} None (option_map (λ b. (b.first, b.size)) (find (begins_from c) e.blocks)) → None ≡ find (is_from address) (map (listed e) e.blocks)
block_none address cell c e h same n =
    sym (found_by_cell address cell e h ∙ ap (λ o. option_map (listed e) o) (sym same ∙ unpaired (find (begins_from c) e.blocks) n))

same_block : (e : Extent) (x : Block) (at size : ℕ) → at ≡ x.first → size ≡ x.size → Some (record { address = address_of e.first at; size = size; mtype = e.mtype }) ≡ Some (listed e x)
same_block e x at size f s = rw (f, s) refl

-- the block of an extent at or above an address
pub block_some : (address cell c at size : ℕ) (e : Extent) → ((k : ℕ) → nat_le cell k ≡ nat_le address (address_of e.first k)) → find (begins_from c) e.blocks ≡ find (begins_from cell) e.blocks →
    ◌≡◌ {A = Option (ℕ × ℕ)} (Some (at, size)) (option_map (λ b. (b.first, b.size)) (find (begins_from c) e.blocks)) →
    Some (record { address = address_of e.first at; size = size; mtype = e.mtype }) ≡ find (is_from address) (map (listed e) e.blocks)
block_some address cell c at size e h same s =
    let p = paired at size (find (begins_from c) e.blocks) s in
    let found : find (is_from address) (map (listed e) e.blocks) ≡ Some (listed e p.0) = found_by_cell address cell e h ∙ ap (λ o. option_map (listed e) o) (sym same ∙ p.1) in
    same_block e p.0 at size p.2 p.3 ∙ sym found

-- the cell of a block that is found
pub cell_within : (cells c at size : ℕ) (bs : List Block) → AreBlocks cells 0 bs → ◌≡◌ {A = Option (ℕ × ℕ)} (Some (at, size)) (option_map (λ b. (b.first, b.size)) (find (begins_from c) bs)) → at < cells
cell_within cells c at size bs h s =
    let p = paired at size (find (begins_from c) bs) s in
    let w = found_within cells 0 (begins_from c) p.0 bs h p.1 in
    omega (arith, p.2, w)

at_some : (es : List Extent) (i : ℕ) → i < length es → (e : Extent) × IsAt es i e
at_some [] i l = absurd (omega (arith, l))
at_some (x ∷ xs) zero l = (x, (l, refl))
at_some (x ∷ xs) (suc i) l = let r = at_some xs i (omega (arith, l)) in (r.0, (l, r.1.1))

-- where the search among extents starts
pub started : (address count : ℕ) (es : List Extent) → AreExtents es → count ≤ length es → count ≡ place (λ e. nat_le e.first (address / 4096)) es → find (is_from address) (blocks_of es) ≡ find (is_from address) (blocks_of (drop (count - 1) es))
started address zero es a l p = refl
started address (suc i) es a l p =
    let t = at_some es i (omega (arith, l)) in
    let f = last-up-to (address / 4096) es i t.0 (sym p) t.1 in
    let n : suc i - 1 ≡ i = omega arith in
    rw n (skipped address es i t.0 a t.1 (omega (arith, f)))

dropped : (es : List Extent) (i : ℕ) (e : Extent) → IsAt es i e → drop i es ≡ e ∷ drop (suc i) es
dropped [] i e h = absurd (omega (arith, h.0))
dropped (x ∷ xs) zero e h = ap (λ (y : Extent). y ∷ xs) (sym h.1)
dropped (x ∷ xs) (suc i) e h = dropped xs i e (omega (arith, h.0), h.1)

pub found_here : (address i : ℕ) (es : List Extent) (e : Extent) (o : Option PoolBlock) → IsAt es i e → o ≡ find (is_from address) (map (listed e) e.blocks) → is_some o ≡ true → o ≡ find (is_from address) (blocks_of (drop i es))
found_here address i es e None h s t = absurd cc
found_here address i es e (Some y) h s t =
    rw (dropped es i e h) (sym (find_front (is_from address) (map (listed e) e.blocks) (blocks_of (drop (suc i) es)) y (sym s)))

pub found_later : (address i : ℕ) (es : List Extent) (e : Extent) (o : Option PoolBlock) → IsAt es i e → o ≡ find (is_from address) (map (listed e) e.blocks) → is_some o ≡ false →
    find (is_from address) (blocks_of (drop i es)) ≡ find (is_from address) (blocks_of (drop (i + 1) es))
found_later address i es e (Some y) h s f = absurd cc
found_later address i es e None h s f =
    rw (dropped es i e h, add-one) (find_behind (is_from address) (map (listed e) e.blocks) (blocks_of (drop (suc i) es)) (sym s))
