-- The byte at each address of the pool, as blocks are read, written, taken and given back.
use Rattle.std.proofs.Common.{◌≡◌, ℕ, zero, suc, ◌+◌, ◌-◌, ◌*◌, ◌^◌, ◌<◌, ◌≤◌, nat_le, nat_lt, Bool, cond, is_some, inl, inr, List, [], ◌∷◌, ◌++◌, length, take, drop, set, Option, Some, None, Ok, refl, sym, ap, ◌∙◌, arith, subst, lt-ltb, le-ltb, le-leb}
use Rattle.std.proofs.lemmas.Bool.{cases_lt, cases_Bool, lt-leb, leb-true, and_from, and_parts, and_left, and_right}
use Rattle.std.proofs.lemmas.List.{length-append, length-take-le, length-drop, drop-drop}
use Rattle.raw_pool.specs.Bytes.{put}
use Rattle.raw_pool.specs.Blocks.{Block, end_of}
use Rattle.pool_services.specs.Extents.{Extent, AreBlocks, AreExtents, IsExtent, address_of, cells_in, is_within, tail_at, tail_in, with_blocks, written_in}
use Rattle.pool_services.specs.PoolRules.{ReadsPool, WritesPool}
use Rattle.pool_services.specs.Searches.{HasRoom, HoldsAddress, IsAt}
use Rattle.pool_services.specs.Laws.{byte_at, first_byte, first_of, laid}
use Rattle.pool_services.proofs.CellBlocks.{ends-after, tail-low, tail-high, within-low, within-high, within-same}
use Rattle.pool_services.proofs.ExtentLists.{are-set, is-extent, tail-elsewhere, tail-here, written-is}
use Rattle.pool_services.proofs.ExtentChanges.{is-written}

-- ---- the first byte of the rest of a list

first-low : (i : ℕ) (a b : List ℕ) → i < length a → first_of (drop i (a ++ b)) ≡ first_of (drop i a)
first-low i [] b l = absurd (omega arith)
first-low zero (x ∷ a) b l = refl
first-low (suc i) (x ∷ a) b l = first-low i a b (omega arith)

drop-high : (i : ℕ) (a b : List ℕ) → length a ≤ i → drop i (a ++ b) ≡ drop (i - length a) b
drop-high i [] b l = let z : i - 0 ≡ i = omega arith in ap (λ (n : ℕ). drop n b) (sym z)
drop-high zero (x ∷ a) b l = absurd (omega arith)
drop-high (suc i) (x ∷ a) b l = let z : suc i - suc (length a) ≡ i - length a = omega arith in drop-high i a b (omega arith) ∙ ap (λ (n : ℕ). drop n b) (sym z)

first-take : (i n : ℕ) (xs : List ℕ) → i < n → first_of (drop i (take n xs)) ≡ first_of (drop i xs)
first-take i zero xs l = absurd (omega arith)
first-take i (suc n) [] l = refl
first-take zero (suc n) (x ∷ xs) l = refl
first-take (suc i) (suc n) (x ∷ xs) l = first-take i n xs (omega arith)

-- ---- bytes that are laid

pub laid-in : (start : ℕ) (bytes : List ℕ) (k : ℕ) (old : Option ℕ) → start ≤ k → k < start + length bytes → laid start bytes k old ≡ first_of (drop (k - start) bytes)
laid-in start bytes k old l h =
    ap (λ (t : Bool). cond t (first_of (drop (k - start) bytes)) old) (and_from (nat_le start k) (nat_lt k (start + length bytes)) (le-leb start k l) (lt-ltb k (start + length bytes) h))

pub laid-low : (start : ℕ) (bytes : List ℕ) (k : ℕ) (old : Option ℕ) → k < start → laid start bytes k old ≡ old
laid-low start bytes k old l =
    ap (λ (t : Bool). cond t (first_of (drop (k - start) bytes)) old) (and_left (nat_le start k) (nat_lt k (start + length bytes)) (lt-leb start k l))

pub laid-high : (start : ℕ) (bytes : List ℕ) (k : ℕ) (old : Option ℕ) → start + length bytes ≤ k → laid start bytes k old ≡ old
laid-high start bytes k old l =
    ap (λ (t : Bool). cond t (first_of (drop (k - start) bytes)) old) (and_right (nat_le start k) (nat_lt k (start + length bytes)) (le-ltb k (start + length bytes) l))

laid-shift : (a start : ℕ) (bytes : List ℕ) (k : ℕ) (old : Option ℕ) → a ≤ start → a ≤ k → laid (start - a) bytes (k - a) old ≡ laid start bytes k old
laid-shift a start bytes k old l h = elim (cases_lt k start) [
  | inl u ↦ laid-low (start - a) bytes (k - a) old (omega arith) ∙ sym (laid-low start bytes k old u)
  | inr u ↦ elim (cases_lt k (start + length bytes)) [
    | inl v ↦
        let z : k - a - (start - a) ≡ k - start = omega arith in
        laid-in (start - a) bytes (k - a) old (omega arith) (omega arith) ∙ ap (λ (n : ℕ). first_of (drop n bytes)) z ∙ sym (laid-in start bytes k old u v)
    | inr v ↦ laid-high (start - a) bytes (k - a) old (omega arith) ∙ sym (laid-high start bytes k old v)
  ]
]

first-put : (xs bytes : List ℕ) (at i : ℕ) → at + length bytes ≤ length xs → first_of (drop i (put xs at bytes)) ≡ laid at bytes i (first_of (drop i xs))
unfolding put
first-put xs bytes at i h =
    let front : List ℕ = take at xs in
    let rest : List ℕ = drop (at + length bytes) xs in
    let n : length front ≡ at = length-take-le at xs (omega arith) in
    let m : length (front ++ bytes) ≡ at + length bytes = omega (arith, n, length-append front bytes) in
    elim (cases_lt i at) [
      | inl u ↦
          first-low i (front ++ bytes) rest (omega (arith, m)) ∙ first-low i front bytes (omega (arith, n)) ∙ first-take i at xs u ∙ sym (laid-low at bytes i (first_of (drop i xs)) u)
      | inr u ↦ elim (cases_lt i (at + length bytes)) [
        | inl v ↦
            first-low i (front ++ bytes) rest (omega (arith, m))
            ∙ ap first_of (drop-high i front bytes (omega (arith, n)))
            ∙ ap (λ (j : ℕ). first_of (drop (i - j) bytes)) n
            ∙ sym (laid-in at bytes i (first_of (drop i xs)) u v)
        | inr v ↦
            let z : at + length bytes + (i - length (front ++ bytes)) ≡ i = omega (arith, m) in
            ap first_of (drop-high i (front ++ bytes) rest (omega (arith, m)) ∙ drop-drop (i - length (front ++ bytes)) (at + length bytes) xs ∙ ap (λ (j : ℕ). drop j xs) z)
            ∙ sym (laid-high at bytes i (first_of (drop i xs)) v)
      ]
    ]

-- ---- one block among those of an extent

-- an address that has room lies behind the blocks before it
pub behind : (cells from first address count : ℕ) (bs : List Block) → AreBlocks cells from bs → HasRoom count (tail_in first address bs) → address_of first from ≤ address
behind cells from first address count bs h r = elim (cases_lt address (address_of first from)) [
  | inl l ↦ absurd (rw (tail-low cells from first address bs h l) at r)
  | inr l ↦ l
]

pub written-bytes : (cells from first address k : ℕ) (bytes : List ℕ) (bs : List Block) → AreBlocks cells from bs → HasRoom (length bytes) (tail_in first address bs) →
    first_byte (tail_in first k (written_in first address bytes bs)) ≡ laid address bytes k (first_byte (tail_in first k bs))
written-bytes cells from first address k bytes [] h r = absurd r
written-bytes cells from first address k bytes (b ∷ bs) h r = elim (cases_Bool (is_within first address b)) [
  | inl e ↦
      let a : ℕ = address_of first b.first in
      let p = and_parts (nat_le a address) (nat_le address (a + b.size)) e in
      let low : a ≤ address = leb-true a address p.0 in
      let high : address ≤ a + b.size = leb-true address (a + b.size) p.1 in
      let s : length bytes ≤ length (drop (address - a) b.bytes) = rw e at r in
      let room : address + length bytes ≤ a + b.size = omega (arith, s, low, high, h.1, length-drop (address - a) b.bytes) in
      elim (cases_lt k a) [
        | inl l ↦ rw (e, within-low first k b l) (sym (laid-low address bytes k (first_byte (tail_in first k bs)) (omega arith)))
        | inr l ↦ elim (cases_lt (a + b.size) k) [
          | inl u ↦ rw (e, within-high first k b u) (sym (laid-high address bytes k (first_byte (tail_in first k bs)) (omega arith)))
          | inr u ↦
              rw (e, within-same first k b l u)
              (first-put b.bytes bytes (address - a) (k - a) (omega (arith, h.1, room, low)) ∙ laid-shift a address bytes k (first_of (drop (k - a) b.bytes)) low l)
        ]
      ]
  | inr e ↦
      let a : ℕ = address_of first b.first in
      let s : HasRoom (length bytes) (tail_in first address bs) = rw e at r in
      let low = behind cells (end_of b) first address (length bytes) bs h.2 s in
      let rest = written-bytes cells (end_of b) first address k bytes bs h.2 s in
      elim (cases_lt k a) [
        | inl l ↦ rw (e, within-low first k b l) rest
        | inr l ↦ elim (cases_lt (a + b.size) k) [
          | inl u ↦ rw (e, within-high first k b u) rest
          | inr u ↦ rw (e, within-same first k b l u) (sym (laid-low address bytes k (first_of (drop (k - a) b.bytes)) (omega (arith, low, u))))
        ]
      ]
]

pub tail-more : (cells from first address i : ℕ) (t : List ℕ) (bs : List Block) → AreBlocks cells from bs → tail_in first address bs ≡ Some t → i ≤ length t → tail_in first (address + i) bs ≡ Some (drop i t)
tail-more cells from first address i t [] h e l = absurd cc
tail-more cells from first address i t (b ∷ bs) h e l = elim (cases_Bool (is_within first address b)) [
  | inl w ↦
      let a : ℕ = address_of first b.first in
      let p = and_parts (nat_le a address) (nat_le address (a + b.size)) w in
      let low : a ≤ address = leb-true a address p.0 in
      let high : address ≤ a + b.size = leb-true address (a + b.size) p.1 in
      let s : Some (drop (address - a) b.bytes) ≡ Some t = rw w at e in
      let d : drop (address - a) b.bytes ≡ t = cc in
      let n : length t ≡ length b.bytes - (address - a) = sym (ap (λ (xs : List ℕ). length xs) d) ∙ length-drop (address - a) b.bytes in
      let z : address + i - a ≡ address - a + i = omega (arith, low) in
      rw (within-same first (address + i) b (omega (arith, low)) (omega (arith, low, high, l, n, h.1)))
      (ap (λ (j : ℕ). Some (drop j b.bytes)) z ∙ ap (λ (xs : List ℕ). Some xs) (sym (drop-drop i (address - a) b.bytes)) ∙ ap (λ (xs : List ℕ). Some (drop i xs)) d)
  | inr w ↦
      let s : tail_in first address bs ≡ Some t = rw w at e in
      let low = behind cells (end_of b) first address 0 bs h.2 (subst (HasRoom 0) (sym s) (omega arith)) in
      rw (within-high first (address + i) b (omega (arith, low))) (tail-more cells (end_of b) first address i t bs h.2 s l)
]

-- ---- the extent that holds an address

pub holds-tail : (e : Extent) (address : ℕ) (t : List ℕ) → IsExtent e → tail_in e.first address e.blocks ≡ Some t → HoldsAddress e address
holds-tail e address t x s = elim (cases_lt address (address_of e.first 0)) [
  | inl l ↦ let n = tail-low (cells_in e.pages) 0 e.first address e.blocks x.blocks l in let z : Some t ≡ None = sym s ∙ n in absurd cc
  | inr l ↦ elim (cases_lt address (address_of e.first (cells_in e.pages))) [
    | inl h ↦ (l, h)
    | inr h ↦ let n = tail-high (cells_in e.pages) 0 e.first address e.blocks x.blocks h in let z : Some t ≡ None = sym s ∙ n in absurd cc
  ]
]

abbrev IsHeld : List Extent → ℕ → List ℕ → Type 0
IsHeld es address t = (i : ℕ) × (e : Extent) × IsAt es i e × HoldsAddress e address × (tail_in e.first address e.blocks ≡ Some t)

pub held-tail : (address : ℕ) (es : List Extent) (t : List ℕ) → AreExtents es → tail_at address es ≡ Some t → IsHeld es address t
held-tail address [] t a s = absurd cc
held-tail address (x ∷ xs) t a s = elim (cases_Bool (is_some (tail_in x.first address x.blocks))) [
  | inl u ↦
      let z : tail_in x.first address x.blocks ≡ Some t = rw u at s in
      (0, x, (omega arith, refl), holds-tail x address t a.0 z, z)
  | inr u ↦
      let z : tail_at address xs ≡ Some t = rw u at s in
      let r = held-tail address xs t a.2 z in
      (suc r.0, r.1, (omega (arith, r.2.0), r.2.1), r.3, r.4)
]

pub tail-rest : (address i : ℕ) (es : List Extent) (t : List ℕ) → AreExtents es → tail_at address es ≡ Some t → i ≤ length t → tail_at (address + i) es ≡ Some (drop i t)
tail-rest address i es t a s l =
    let (j, e, h, u, d) = held-tail address es t a s in
    let x = is-extent es j e a h in
    let m = tail-more (cells_in e.pages) 0 e.first address i t e.blocks x.blocks d l in
    tail-here (address + i) es j e a h (holds-tail e (address + i) (drop i t) x m) ∙ m

-- the bytes from an address on end with the cells
pub behind-end : (cells from first address count : ℕ) (t : List ℕ) (bs : List Block) → AreBlocks cells from bs → tail_in first address bs ≡ Some t → count ≤ length t → address + count < address_of first cells
behind-end cells from first address count t bs h s l =
    let m = tail-more cells from first address count t bs h s l in
    elim (cases_lt (address + count) (address_of first cells)) [
      | inl u ↦ u
      | inr u ↦ let n = tail-high cells from first (address + count) bs h u in let z : Some (drop count t) ≡ None = sym m ∙ n in absurd cc
    ]

-- the bytes from an address on end with the block, and so at the last cell or before it
tail-end : (cells from first address : ℕ) (t : List ℕ) (bs : List Block) → AreBlocks cells from bs → tail_in first address bs ≡ Some t → address + length t ≤ 4096 * first + 32 * cells
tail-end cells from first address t [] h e = absurd cc
tail-end cells from first address t (b ∷ bs) h e = elim (cases_Bool (is_within first address b)) [
  | inl w ↦
      let a : ℕ = address_of first b.first in
      let p = and_parts (nat_le a address) (nat_le address (a + b.size)) w in
      let low : a ≤ address = leb-true a address p.0 in
      let high : address ≤ a + b.size = leb-true address (a + b.size) p.1 in
      let s : Some (drop (address - a) b.bytes) ≡ Some t = rw w at e in
      let d : drop (address - a) b.bytes ≡ t = cc in
      let n : length t ≡ length b.bytes - (address - a) = sym (ap (λ (xs : List ℕ). length xs) d) ∙ length-drop (address - a) b.bytes in
      omega (arith, low, high, n, h.1, ends-after cells (end_of b) bs h.2)
  | inr w ↦ tail-end cells (end_of b) first address t bs h.2 (rw w at e)
]

-- the bytes from an address on end at the last page or before it
pub tail-within : (address : ℕ) (es : List Extent) (t : List ℕ) → AreExtents es → tail_at address es ≡ Some t → address + length t ≤ 2 ^ 64
tail-within address es t a s =
    let (i, e, h, u, d) = held-tail address es t a s in
    let x = is-extent es i e a h in
    omega (arith, x.within, tail-end (cells_in e.pages) 0 e.first address t e.blocks x.blocks d)

-- ---- one extent gets other blocks

pub at-set : (es : List Extent) (i : ℕ) (y : Extent) → i < length es → IsAt (set es i y) i y
at-set [] i y l = absurd (omega arith)
at-set (x ∷ xs) zero y l = (omega arith, refl)
at-set (x ∷ xs) (suc i) y l = let r = at-set xs i y (omega arith) in (omega (arith, r.0), r.1)

set-elsewhere : (k : ℕ) (es : List Extent) (i : ℕ) (e y : Extent) → IsAt es i e → tail_in e.first k e.blocks ≡ None → tail_in y.first k y.blocks ≡ None → tail_at k (set es i y) ≡ tail_at k es
set-elsewhere k [] i e y h n m = absurd (omega (arith, h.0))
set-elsewhere k (x ∷ xs) zero e y h n m =
    let f : tail_in x.first k x.blocks ≡ None = sym (ap (λ (z : Extent). tail_in z.first k z.blocks) h.1) ∙ n in
    rw (m, f) refl
set-elsewhere k (x ∷ xs) (suc i) e y h n m =
    ap (λ (o : Option (List ℕ)). cond (is_some (tail_in x.first k x.blocks)) (tail_in x.first k x.blocks) o) (set-elsewhere k xs i e y (omega (arith, h.0), h.1) n m)

-- what changes in the extent changes among all
pub set-bytes : (Change : Option ℕ → Option ℕ) (k i : ℕ) (es : List Extent) (e : Extent) (bs : List Block) → AreExtents es → IsExtent (with_blocks bs e) → IsAt es i e →
    first_byte (tail_in e.first k bs) ≡ Change (first_byte (tail_in e.first k e.blocks)) → ((¬ HoldsAddress e k) → (o : Option ℕ) → Change o ≡ o) → byte_at k (set es i (with_blocks bs e)) ≡ Change (byte_at k es)
set-bytes Change k i es e bs a v h c out =
    let x = is-extent es i e a h in
    let y : Extent = with_blocks bs e in
    let inside : HoldsAddress e k → byte_at k (set es i y) ≡ Change (byte_at k es) = λ u.
    ap first_byte (tail-here k (set es i y) i y (are-set es i e y a h v refl refl) (at-set es i y h.0) u) ∙ c ∙ ap (λ (o : Option (List ℕ)). Change (first_byte o)) (sym (tail-here k es i e a h u)) in
    let outside : (¬ HoldsAddress e k) → byte_at k (set es i y) ≡ Change (byte_at k es) = λ n.
    ap first_byte (set-elsewhere k es i e y h (tail-elsewhere e k x n) (tail-elsewhere y k v n)) ∙ sym (out n (byte_at k es)) in
    elim (cases_lt k (address_of e.first 0)) [
      | inl l ↦ outside (λ u. omega (arith, l, u.0))
      | inr l ↦ elim (cases_lt k (address_of e.first (cells_in e.pages))) [
        | inl u ↦ inside (l, u)
        | inr u ↦ outside (λ w. omega (arith, u, w.1))
      ]
    ]

-- ---- the laws

pub read : (es : List Extent) (address : ℕ) (old new : List ℕ) (done : Unit {0}) → AreExtents es → ReadsPool es address old (Ok done) new → (i : ℕ) → i < length old → byte_at (address + i) es ≡ first_of (drop i new)
read es address old new done a (bytes, t, l, n) i h =
    ap first_byte (tail-rest address i es bytes a t (omega (arith, l, h))) ∙ sym (first-take i (length old) bytes h) ∙ ap (λ (xs : List ℕ). first_of (drop i xs)) (sym n)

pub wrote : (es new : List Extent) (address : ℕ) (bytes : List ℕ) (done : Unit {0}) → AreExtents es → WritesPool es address bytes (Ok done) new → (k : ℕ) → byte_at k new ≡ laid address bytes k (byte_at k es)
wrote es new address bytes done a ((t, s, l), n) k =
    let (i, e, h, u, d) = held-tail address es t a s in
    let x = is-extent es i e a h in
    let r : HasRoom (length bytes) (tail_in e.first address e.blocks) = subst (HasRoom (length bytes)) (sym d) l in
    let within = behind-end (cells_in e.pages) 0 e.first address (length bytes) t e.blocks x.blocks d l in
    ap (byte_at k) n
    ∙ sym (ap (byte_at k) (written-is address bytes es i e a h u r))
    ∙ set-bytes (laid address bytes k) k i es e (written_in e.first address bytes e.blocks) a (is-written e address bytes x r) h (written-bytes (cells_in e.pages) 0 e.first address k bytes e.blocks x.blocks r)
    (λ out o. elim (cases_lt k address) [
      | inl g ↦ laid-low address bytes k o g
      | inr g ↦ elim (cases_lt k (address + length bytes)) [
        | inl f ↦ absurd (out (omega (arith, g, u.0), omega (arith, f, within)))
        | inr f ↦ laid-high address bytes k o f
      ]
    ])
