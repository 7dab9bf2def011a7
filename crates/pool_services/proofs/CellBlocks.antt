-- Blocks in the cells of an extent: the lowest fit, blocks by their cells and by addresses, and what changes keep.
use Rattle.std.proofs.Common.{◌≡◌, ℕ, ◌+◌, ◌-◌, ◌*◌, ◌/◌, ◌<◌, ◌≤◌, nat_le, max, Bool, true, false, cond, is_some, inl, inr, List, [], ◌∷◌, ◌++◌, length, take, drop, Option, Some, None, refl, sym, ap, ◌∙◌, arith, subst, eq-eqb, ne_eqb, lt-ltb, le-ltb, le-leb}
use Rattle.std.specs.Option.{option_map}
use Rattle.std.specs.Bool.{IsTrue}
use Rattle.std.proofs.lemmas.Bool.{cases_lt, cases_eq, cases_Bool, and_parts, leb-true, lt-leb, and_left, and_right, and_from}
use Rattle.std.proofs.lemmas.List.{length-replicate, length-drop, length-append, length-take-le}
use Rattle.raw_pool.specs.Bytes.{put}
use Rattle.raw_pool.specs.Blocks.{Block, Pool, block_at, cells_for, end_of, holds_range, written, longest_run, lowest_fit, new_block, with_block, with_bytes, without_block}
use Rattle.pool_services.specs.Extents.{Extent, AreBlocks, address_of, cell_of, is_within, tail_in, written_in}
use Rattle.pool_services.specs.Searches.{HasRoom, written_if, NoneBetween, tail_from}

-- ---- blocks in order

pub ends-after : (cells from : ℕ) (bs : List Block) → AreBlocks cells from bs → from ≤ cells
ends-after cells from [] h = h
ends-after cells from (b ∷ bs) h = omega (arith, h.0, ends-after cells (end_of b) bs h.2)

pub count-within : (cells from : ℕ) (bs : List Block) → AreBlocks cells from bs → from + length bs ≤ cells
count-within cells from [] h = omega (arith, h)
count-within cells from (b ∷ bs) h = omega (arith, h.0, count-within cells (end_of b) bs h.2)

pub lower : (cells from to : ℕ) (bs : List Block) → to ≤ from → AreBlocks cells from bs → AreBlocks cells to bs
lower cells from to [] l h = omega (arith, h)
lower cells from to (b ∷ bs) l h = (omega (arith, h.0), h.1, h.2)

-- no block begins below
pub none-below : (cells from k : ℕ) (bs : List Block) → AreBlocks cells from bs → k < from → block_at k bs ≡ None
none-below cells from k [] h l = refl
none-below cells from k (b ∷ bs) h l = rw (ne_eqb b.first k (λ e. omega (arith, h.0))) (none-below cells (end_of b) k bs h.2 (omega (arith, h.0)))

-- ---- a block more, and one less

fit-here : (cells need from c : ℕ) → cond (nat_le (from + need) cells) (Some from) None ≡ Some c → (from ≡ c) × (from + need ≤ cells)
fit-here cells need from c e = elim (cases_lt cells (from + need)) [
  | inl l ↦ let n : None ≡ Some c = sym (ap (λ (t : Bool). cond t (Some from) None) (lt-leb (from + need) cells l)) ∙ e in cc
  | inr l ↦ let s : Some from ≡ Some c = sym (ap (λ (t : Bool). cond t (Some from) None) (le-leb (from + need) cells l)) ∙ e in (cc, l)
]

pub fit-within : (cells need from c : ℕ) (bs : List Block) → AreBlocks cells from bs → lowest_fit cells need from bs ≡ Some c → (from ≤ c) × (c + need ≤ cells)
fit-within cells need from c [] h e = let f = fit-here cells need from c e in (omega (arith, f.0), omega (arith, f.0, f.1))
fit-within cells need from c (b ∷ bs) h e = elim (cases_lt b.first (from + need)) [
  | inl l ↦ let i = fit-within cells need (end_of b) c bs h.2 (rw (lt-leb (from + need) b.first l) at e) in (omega (arith, h.0, i.0), i.1)
  | inr l ↦
      let s : Some from ≡ Some c = rw (le-leb (from + need) b.first l) at e in
      let f : from ≡ c = cc in
      (omega (arith, f), omega (arith, f, ends-after cells (end_of b) bs h.2))
]

pub are-with : (cells size from c : ℕ) (bs : List Block) → AreBlocks cells from bs → lowest_fit cells (cells_for size) from bs ≡ Some c → AreBlocks cells from (with_block (new_block c size) bs)
are-with cells size from c [] h e = let f = fit-here cells (cells_for size) from c e in (omega (arith, f.0), length-replicate size 0, omega (arith, f.0, f.1))
are-with cells size from c (b ∷ bs) h e = elim (cases_lt b.first (from + cells_for size)) [
  | inl l ↦
      let r : lowest_fit cells (cells_for size) (end_of b) bs ≡ Some c = rw (lt-leb (from + cells_for size) b.first l) at e in
      let i = fit-within cells (cells_for size) (end_of b) c bs h.2 r in
      rw (lt-ltb b.first c (omega (arith, i.0))) (h.0, h.1, are-with cells size (end_of b) c bs h.2 r)
  | inr l ↦
      let s : Some from ≡ Some c = rw (le-leb (from + cells_for size) b.first l) at e in
      let f : from ≡ c = cc in
      rw (le-ltb b.first c (omega (arith, f))) (omega (arith, f), length-replicate size 0, (omega (arith, f), h.1, h.2))
]

pub are-without : (cells from c : ℕ) (bs : List Block) → AreBlocks cells from bs → AreBlocks cells from (without_block c bs)
are-without cells from c [] h = h
are-without cells from c (b ∷ bs) h = elim (cases_eq b.first c) [
  | inl e ↦ rw (eq-eqb b.first c e) (lower cells (end_of b) from bs (omega (arith, h.0)) h.2)
  | inr n ↦ rw (ne_eqb b.first c n) (h.0, h.1, are-without cells (end_of b) c bs h.2)
]

-- ---- the longest run of free cells decides whether a block fits

same : (need a l : ℕ) → a < need → nat_le need l ≡ nat_le need (max a l)
same need a l h = elim (cases_lt l need) [
  | inl g ↦ rw (lt-leb need l g) (sym (lt-leb need (max a l) (omega arith)))
  | inr g ↦ rw (le-leb need l g) (sym (le-leb need (max a l) (omega arith)))
]

pub fits : (cells need from : ℕ) (bs : List Block) → 0 < need → AreBlocks cells from bs → is_some (lowest_fit cells need from bs) ≡ nat_le need (longest_run cells from bs)
fits cells need from [] n h = elim (cases_lt cells (from + need)) [
  | inl l ↦ rw (lt-leb (from + need) cells l) (sym (lt-leb need (cells - from) (omega (arith, h))))
  | inr l ↦ rw (le-leb (from + need) cells l) (sym (le-leb need (cells - from) (omega (arith, h))))
]
fits cells need from (b ∷ bs) n h = elim (cases_lt b.first (from + need)) [
  | inl l ↦ rw (lt-leb (from + need) b.first l) (fits cells need (end_of b) bs n h.2 ∙ same need (b.first - from) (longest_run cells (end_of b) bs) (omega (arith, h.0)))
  | inr l ↦ rw (le-leb (from + need) b.first l) (sym (le-leb need (max (b.first - from) (longest_run cells (end_of b) bs)) (omega (arith, h.0))))
]

-- ---- blocks by addresses

-- an address below the lowest that a block can have
pub within-low : (first address : ℕ) (b : Block) → address < address_of first b.first → is_within first address b ≡ false
within-low first address b l = and_left (nat_le (address_of first b.first) address) (nat_le address (address_of first b.first + b.size)) (lt-leb (address_of first b.first) address l)

-- an address behind the end of a block
pub within-high : (first address : ℕ) (b : Block) → address_of first b.first + b.size < address → is_within first address b ≡ false
within-high first address b l = and_right (nat_le (address_of first b.first) address) (nat_le address (address_of first b.first + b.size)) (lt-leb address (address_of first b.first + b.size) l)

pub within-same : (first address : ℕ) (b : Block) → address_of first b.first ≤ address → address ≤ address_of first b.first + b.size → is_within first address b ≡ true
within-same first address b l h = and_from (nat_le (address_of first b.first) address) (nat_le address (address_of first b.first + b.size)) (le-leb (address_of first b.first) address l) (le-leb address (address_of first b.first + b.size) h)

pub tail-low : (cells from first address : ℕ) (bs : List Block) → AreBlocks cells from bs → address < address_of first from → tail_in first address bs ≡ None
tail-low cells from first address [] h l = refl
tail-low cells from first address (b ∷ bs) h l = rw (within-low first address b (omega (arith, h.0))) (tail-low cells (end_of b) first address bs h.2 (omega (arith, h.0)))

pub tail-high : (cells from first address : ℕ) (bs : List Block) → AreBlocks cells from bs → address_of first cells ≤ address → tail_in first address bs ≡ None
tail-high cells from first address [] h l = refl
tail-high cells from first address (b ∷ bs) h l = rw (within-high first address b (omega (arith, ends-after cells (end_of b) bs h.2))) (tail-high cells (end_of b) first address bs h.2 l)

pub cell-low : (cells from first address : ℕ) (bs : List Block) → AreBlocks cells from bs → address < address_of first from → cell_of first address bs ≡ None
cell-low cells from first address [] h l = refl
cell-low cells from first address (b ∷ bs) h l = rw (ne_eqb (address_of first b.first) address (λ e. omega (arith, h.0))) (cell-low cells (end_of b) first address bs h.2 (omega (arith, h.0)))

pub cell-high : (cells from first address : ℕ) (bs : List Block) → AreBlocks cells from bs → address_of first cells ≤ address → cell_of first address bs ≡ None
cell-high cells from first address [] h l = refl
cell-high cells from first address (b ∷ bs) h l =
    rw (ne_eqb (address_of first b.first) address (λ e. omega (arith, ends-after cells (end_of b) bs h.2))) (cell-high cells (end_of b) first address bs h.2 l)

-- an address at which no cell's block can begin
pub cell-none : (first address : ℕ) (bs : List Block) → ((k : ℕ) → address_of first k ≡ address → ⊥) → cell_of first address bs ≡ None
cell-none first address [] n = refl
cell-none first address (b ∷ bs) n = rw (ne_eqb (address_of first b.first) address (n b.first)) (cell-none first address bs n)

pub cell-at : (first c : ℕ) (bs : List Block) → cell_of first (address_of first c) bs ≡ option_map (λ b. c) (block_at c bs)
cell-at first c [] = refl
cell-at first c (b ∷ bs) = elim (cases_eq b.first c) [
  | inl e ↦ rw (eq-eqb b.first c e, eq-eqb (address_of first b.first) (address_of first c) (omega (arith, e))) (ap (λ (k : ℕ). Some k) e)
  | inr n ↦ rw (ne_eqb b.first c n, ne_eqb (address_of first b.first) (address_of first c) (λ e. n (omega (arith, e)))) (cell-at first c bs)
]

-- the block that is first of these begins where none is missed
first-above : (c : ℕ) (b : Block) (bs : List Block) → ((k : ℕ) → k ≤ c → block_at k (b ∷ bs) ≡ None) → c < b.first
first-above c b bs n = elim (cases_lt c b.first) [
  | inl l ↦ l
  | inr l ↦ let e : Some b ≡ None = rw (eq-eqb b.first b.first refl) at (n b.first l) in absurd cc
]

-- no block begins at the first cells, up to the one in which the address lies
pub tail-none : (cells from first address c : ℕ) (bs : List Block) → AreBlocks cells from bs → address < address_of first (c + 1) → ((k : ℕ) → k ≤ c → block_at k bs ≡ None) → tail_in first address bs ≡ None
tail-none cells from first address c [] h l n = refl
tail-none cells from first address c (b ∷ bs) h l n =
    let a : c < b.first = first-above c b bs n in
    rw (within-low first address b (omega arith)) (tail-low cells (end_of b) first address bs h.2 (omega arith))

-- no block begins above one up to the cell in which the address lies: it belongs to that block, or to none
pub tail-of : (cells from first c at : ℕ) (x : Block) (bs : List Block) → AreBlocks cells from bs → block_at c bs ≡ Some x → NoneBetween c (c + at / 32) bs →
    tail_in first (address_of first c + at) bs ≡ tail_from at (Some x)
tail-of cells from first c at x [] h e n = absurd cc
tail-of cells from first c at x (b ∷ bs) h e n = elim (cases_eq b.first c) [
  | inl same ↦
      let s : Some b ≡ Some x = rw (eq-eqb b.first c same) at e in
      let bx : b ≡ x = cc in
      elim (cases_lt b.size at) [
        | inl l ↦
            let none : (k : ℕ) → k ≤ c + at / 32 → block_at k bs ≡ None = λ k u. elim (cases_lt c k) [
              | inl above ↦ rw (ne_eqb b.first k (λ i. omega arith)) at (n k above u)
              | inr up ↦ none-below cells (end_of b) k bs h.2 (omega arith)
            ] in
            let f : is_within first (address_of first c + at) b ≡ false = within-high first (address_of first c + at) b (omega arith) in
            let t : tail_in first (address_of first c + at) bs ≡ None = tail-none cells (end_of b) first (address_of first c + at) (c + at / 32) bs h.2 (omega arith) none in
            let z : nat_le at x.size ≡ false = lt-leb at x.size (omega (arith, ap (λ (y : Block). y.size) bx)) in
            rw (f, z) t
        | inr l ↦
            let f : is_within first (address_of first c + at) b ≡ true = within-same first (address_of first c + at) b (omega arith) (omega arith) in
            let z : nat_le at x.size ≡ true = le-leb at x.size (omega (arith, ap (λ (y : Block). y.size) bx)) in
            let o : address_of first c + at - address_of first b.first ≡ at = omega arith in
            rw (f, z, o) (ap (λ (y : Block). Some (drop at y.bytes)) bx)
      ]
  | inr other ↦
      let r : block_at c bs ≡ Some x = rw (ne_eqb b.first c other) at e in
      let low : end_of b ≤ c = elim (cases_lt c (end_of b)) [
        | inl l ↦ let z = none-below cells (end_of b) c bs h.2 l in absurd cc
        | inr l ↦ l
      ] in
      let f : is_within first (address_of first c + at) b ≡ false = within-high first (address_of first c + at) b (omega arith) in
      rw f (tail-of cells (end_of b) first c at x bs h.2 r (λ k u v. rw (ne_eqb b.first k (λ i. omega arith)) at (n k u v)))
]

-- bytes are written into that block
pub written-of : (cells from first c at : ℕ) (bytes : List ℕ) (x : Block) (bs : List Block) → AreBlocks cells from bs → block_at c bs ≡ Some x → at ≤ x.size →
    written_in first (address_of first c + at) bytes bs ≡ with_bytes c at bytes bs
written-of cells from first c at bytes x [] h e l = refl
written-of cells from first c at bytes x (b ∷ bs) h e l = elim (cases_eq b.first c) [
  | inl same ↦
      let s : Some b ≡ Some x = rw (eq-eqb b.first c same) at e in
      let bx : b ≡ x = cc in
      let f : is_within first (address_of first c + at) b ≡ true = within-same first (address_of first c + at) b (omega arith) (omega (arith, ap (λ (y : Block). y.size) bx)) in
      let o : address_of first c + at - address_of first b.first ≡ at = omega arith in
      rw (f, eq-eqb b.first c same, o) refl
  | inr other ↦
      let r : block_at c bs ≡ Some x = rw (ne_eqb b.first c other) at e in
      let low : end_of b ≤ c = elim (cases_lt c (end_of b)) [
        | inl g ↦ let z = none-below cells (end_of b) c bs h.2 g in absurd cc
        | inr g ↦ g
      ] in
      let f : is_within first (address_of first c + at) b ≡ false = within-high first (address_of first c + at) b (omega arith) in
      rw (f, ne_eqb b.first c other) (ap (λ (ys : List Block). b ∷ ys) (written-of cells (end_of b) first c at bytes x bs h.2 r l))
]

-- ---- one block of these

pub sized : (cells from c : ℕ) (x : Block) (bs : List Block) → AreBlocks cells from bs → block_at c bs ≡ Some x → length x.bytes ≡ x.size
sized cells from c x [] h e = absurd cc
sized cells from c x (b ∷ bs) h e = elim (cases_eq b.first c) [
  | inl same ↦
      let s : Some b ≡ Some x = rw (eq-eqb b.first c same) at e in
      let bx : b ≡ x = cc in
      subst (λ (y : Block). length y.bytes ≡ y.size) bx h.1
  | inr other ↦ sized cells (end_of b) c x bs h.2 (rw (ne_eqb b.first c other) at e)
]

pub located : (cells from first c at : ℕ) (o : Option Block) (bs : List Block) → AreBlocks cells from bs → block_at c bs ≡ o → is_some o ≡ true → NoneBetween c (c + at / 32) bs →
    tail_in first (address_of first c + at) bs ≡ tail_from at o
located cells from first c at None bs h e s n = absurd cc
located cells from first c at (Some x) bs h e s n = tail-of cells from first c at x bs h e n

pub written-at : (cells from first c at : ℕ) (bytes : List ℕ) (o : Option Block) (bs : List Block) → AreBlocks cells from bs → block_at c bs ≡ o → holds_range at (length bytes) o ≡ true →
    with_bytes c at bytes bs ≡ written_in first (address_of first c + at) bytes bs
written-at cells from first c at bytes None bs h e r = absurd cc
written-at cells from first c at bytes (Some x) bs h e r = sym (written-of cells from first c at bytes x bs h e (omega (arith, leb-true (at + length bytes) x.size r)))

pub tail-got : (cells from c at : ℕ) (bytes : List ℕ) (o : Option Block) (bs : List Block) → AreBlocks cells from bs → block_at c bs ≡ o → Some bytes ≡ option_map (λ (b : Block). b.bytes) o →
    tail_from at o ≡ cond (nat_le at (length bytes)) (Some (drop at bytes)) None
tail-got cells from c at bytes None bs h e g = absurd cc
tail-got cells from c at bytes (Some x) bs h e g =
    let b : bytes ≡ x.bytes = cc in
    rw (b, sized cells from c x bs h e) refl

pub has-room : (cells from c at count : ℕ) (o : Option Block) (bs : List Block) → AreBlocks cells from bs → block_at c bs ≡ o → holds_range at count o ≡ true → HasRoom count (tail_from at o)
has-room cells from c at count None bs h e r = absurd cc
has-room cells from c at count (Some x) bs h e r =
    let l : at + count ≤ x.size = leb-true (at + count) x.size r in
    rw (le-leb at x.size (omega arith)) (omega (arith, length-drop at x.bytes, sized cells from c x bs h e))

pub room-holds : (cells from c at count : ℕ) (o : Option Block) (bs : List Block) → AreBlocks cells from bs → block_at c bs ≡ o → HasRoom count (tail_from at o) → holds_range at count o ≡ true
room-holds cells from c at count None bs h e r = absurd r
room-holds cells from c at count (Some x) bs h e r = elim (cases_lt x.size at) [
  | inl l ↦ absurd (rw (lt-leb at x.size l) at r)
  | inr l ↦
      let s : count ≤ length (drop at x.bytes) = rw (le-leb at x.size l) at r in
      le-leb (at + count) x.size (omega (arith, s, length-drop at x.bytes, sized cells from c x bs h e))
]

pub count-with : (b : Block) (bs : List Block) → length (with_block b bs) ≡ length bs + 1
count-with b [] = refl
count-with b (x ∷ xs) = elim (cases_lt x.first b.first) [
  | inl l ↦ rw (lt-ltb x.first b.first l) (omega (arith, count-with b xs))
  | inr l ↦ rw (le-ltb x.first b.first l) (omega arith)
]

pub count-without : (c : ℕ) (bs : List Block) → is_some (block_at c bs) ≡ true → length (without_block c bs) + 1 ≡ length bs
count-without c [] e = absurd cc
count-without c (b ∷ bs) e = elim (cases_eq b.first c) [
  | inl s ↦ rw (eq-eqb b.first c s) (omega arith)
  | inr n ↦ rw (ne_eqb b.first c n) (omega (arith, count-without c bs (rw (ne_eqb b.first c n) at e)))
]

pub count-written : (c at : ℕ) (bytes : List ℕ) (bs : List Block) → length (with_bytes c at bytes bs) ≡ length bs
count-written c at bytes [] = refl
count-written c at bytes (b ∷ bs) = elim (cases_eq b.first c) [
  | inl s ↦ rw (eq-eqb b.first c s) (omega arith)
  | inr n ↦ rw (ne_eqb b.first c n) (omega (arith, count-written c at bytes bs))
]

pub longest-written : (cells from c at : ℕ) (bytes : List ℕ) (bs : List Block) → longest_run cells from (with_bytes c at bytes bs) ≡ longest_run cells from bs
longest-written cells from c at bytes [] = refl
longest-written cells from c at bytes (b ∷ bs) = elim (cases_eq b.first c) [
  | inl s ↦ rw (eq-eqb b.first c s) refl
  | inr n ↦ rw (ne_eqb b.first c n) (ap (λ (k : ℕ). max (b.first - from) k) (longest-written cells (end_of b) c at bytes bs))
]

pub written-kept : (done : Bool) (c at : ℕ) (bytes : List ℕ) (p : Pool) →
    ((written done c at bytes p).cells ≡ p.cells) × (length (written done c at bytes p).blocks ≡ length p.blocks) × (longest_run (written done c at bytes p).cells 0 (written done c at bytes p).blocks ≡ longest_run p.cells 0 p.blocks)
written-kept false c at bytes p = (refl, refl, refl)
written-kept true c at bytes p = (refl, count-written c at bytes p.blocks, longest-written p.cells 0 c at bytes p.blocks)

pub written-lies : (done : Bool) (c at : ℕ) (bytes : List ℕ) (p : Pool) → (written done c at bytes p).lies ≡ p.lies
written-lies false c at bytes p = refl
written-lies true c at bytes p = refl

-- ---- as the code asks

some-cell : (c : ℕ) (o : Option Block) → is_some o ≡ true → option_map (λ (b : Block). c) o ≡ Some c
some-cell c None e = absurd cc
some-cell c (Some b) e = refl

no-cell : (c : ℕ) (o : Option Block) → is_some o ≡ false → option_map (λ (b : Block). c) o ≡ None
no-cell c None e = refl
no-cell c (Some b) e = absurd cc

pub some-size : (o : Option Block) (size : Option ℕ) → size ≡ option_map (λ (b : Block). b.size) o → is_some o ≡ is_some size
some-size None size e = ap is_some (sym e)
some-size (Some b) size e = ap is_some (sym e)

-- the block at a cell has the cell's address
pub cell-here : (first address c : ℕ) (bs : List Block) → address ≡ address_of first c → is_some (block_at c bs) ≡ true → cell_of first address bs ≡ Some c
cell-here first address c bs a s = ap (λ (k : ℕ). cell_of first k bs) a ∙ cell-at first c bs ∙ some-cell c (block_at c bs) s

pub cell-free : (first address c : ℕ) (bs : List Block) → address ≡ address_of first c → is_some (block_at c bs) ≡ false → cell_of first address bs ≡ None
cell-free first address c bs a s = ap (λ (k : ℕ). cell_of first k bs) a ∙ cell-at first c bs ∙ no-cell c (block_at c bs) s

-- where no block is at a cell, none goes
pub none-goes : (c : ℕ) (bs : List Block) → is_some (block_at c bs) ≡ false → without_block c bs ≡ bs
none-goes c [] e = refl
none-goes c (b ∷ bs) e = elim (cases_eq b.first c) [
  | inl s ↦ let z : true ≡ false = rw (eq-eqb b.first c s) at e in absurd cc
  | inr n ↦ rw (ne_eqb b.first c n) (ap (λ (ws : List Block). b ∷ ws) (none-goes c bs (rw (ne_eqb b.first c n) at e)))
]

pub located-at : (cells first address c : ℕ) (bs : List Block) → AreBlocks cells 0 bs → address_of first 0 ≤ address → c ≤ (address - 8 - 4096 * first) / 32 → is_some (block_at c bs) ≡ true →
    NoneBetween c ((address - 8 - 4096 * first) / 32) bs →
    (is_some (block_at c bs) ≡ true) × (address ≡ address_of first c + (address - 8 - 4096 * first - 32 * c)) × (tail_in first address bs ≡ tail_from (address - 8 - 4096 * first - 32 * c) (block_at c bs))
located-at cells first address c bs h l u s n =
    let at : ℕ = address - 8 - 4096 * first - 32 * c in
    let a : address ≡ address_of first c + at = omega arith in
    let w : c + at / 32 ≡ (address - 8 - 4096 * first) / 32 = omega arith in
    (s, a, ap (λ (k : ℕ). tail_in first k bs) a ∙ located cells 0 first c at (block_at c bs) bs h refl s (λ k x y. n k x (omega (arith, w))))

abbrev extent : ℕ → ℕ → ℕ → List Block → Extent
extent first pages t bs = record { first = first; pages = pages; mtype = t; blocks = bs }

pub room-returned : (cells first address c at count : ℕ) (r : Bool) (bs : List Block) → AreBlocks cells 0 bs → tail_in first address bs ≡ tail_from at (block_at c bs) → r ≡ holds_range at count (block_at c bs) →
    (IsTrue r → HasRoom count (tail_in first address bs)) × (HasRoom count (tail_in first address bs) → IsTrue r)
room-returned cells first address c at count r bs h t e = (
  λ u. rw t (has-room cells 0 c at count (block_at c bs) bs h refl (sym e ∙ u)),
  λ u. e ∙ room-holds cells 0 c at count (block_at c bs) bs h refl (rw t at u),
)

pub tail-given : (cells first address c at : ℕ) (bytes : List ℕ) (bs : List Block) → AreBlocks cells 0 bs → tail_in first address bs ≡ tail_from at (block_at c bs) →
    Some bytes ≡ option_map (λ (b : Block). b.bytes) (block_at c bs) → tail_in first address bs ≡ cond (nat_le at (length bytes)) (Some (drop at bytes)) None
tail-given cells first address c at bytes bs h t g = t ∙ tail-got cells 0 c at bytes (block_at c bs) bs h refl g

pub extent-written : (cells first pages t address c at : ℕ) (bytes : List ℕ) (r : Bool) (p : Pool) → AreBlocks cells 0 p.blocks → address ≡ address_of first c + at → r ≡ holds_range at (length bytes) (block_at c p.blocks) →
    extent first pages t (written r c at bytes p).blocks ≡ written_if r address bytes (extent first pages t p.blocks)
extent-written cells first pages t address c at bytes false p h a e = refl
extent-written cells first pages t address c at bytes true p h a e =
    rw a (ap (extent first pages t) (written-at cells 0 first c at bytes (block_at c p.blocks) p.blocks h refl (sym e)))

-- ---- bytes written into a block

length-put : (bytes new : List ℕ) (at : ℕ) → at + length new ≤ length bytes → length (put bytes at new) ≡ length bytes
unfolding put
length-put bytes new at h = omega (arith, length-append (take at bytes ++ new) (drop (at + length new) bytes), length-append (take at bytes) new, length-drop (at + length new) bytes, length-take-le at bytes (omega arith))

pub count-written-in : (first address : ℕ) (bytes : List ℕ) (bs : List Block) → length (written_in first address bytes bs) ≡ length bs
count-written-in first address bytes [] = refl
count-written-in first address bytes (b ∷ bs) = elim (cases_Bool (is_within first address b)) [
  | inl e ↦ rw e (omega arith)
  | inr e ↦ rw e (omega (arith, count-written-in first address bytes bs))
]

pub are-written : (cells from first address : ℕ) (bytes : List ℕ) (bs : List Block) → AreBlocks cells from bs → HasRoom (length bytes) (tail_in first address bs) → AreBlocks cells from (written_in first address bytes bs)
are-written cells from first address bytes [] h r = h
are-written cells from first address bytes (b ∷ bs) h r = elim (cases_Bool (is_within first address b)) [
  | inl e ↦
      let at : ℕ = address - address_of first b.first in
      let p = and_parts (nat_le (address_of first b.first) address) (nat_le address (address_of first b.first + b.size)) e in
      let l : address ≤ address_of first b.first + b.size = leb-true address (address_of first b.first + b.size) p.1 in
      let s : length bytes ≤ length (drop at b.bytes) = rw e at r in
      rw e (h.0, length-put b.bytes bytes at (omega (arith, s, h.1, length-drop at b.bytes)) ∙ h.1, h.2)
  | inr e ↦
      let s : HasRoom (length bytes) (tail_in first address bs) = rw e at r in
      rw e (h.0, h.1, are-written cells (end_of b) first address bytes bs h.2 s)
]
