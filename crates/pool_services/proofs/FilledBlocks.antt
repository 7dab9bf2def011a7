-- A new block has all its bytes, so they can be written; what a block that is filled with bytes leaves true.
use Rattle.std.proofs.Common.{◌≡◌, ℕ, suc, ◌+◌, ◌-◌, ◌≤◌, true, cond, inl, inr, List, [], ◌∷◌, length, drop, set, replicate, Option, Some, None, Result, Ok, Err, refl, sym, ap, ◌∙◌, arith, subst, lt-ltb, le-ltb, le-leb}
use Rattle.std.proofs.lemmas.Bool.{cases_lt, lt-leb}
use Rattle.std.proofs.lemmas.List.{length-replicate}
use Rattle.page_ranges.specs.declared.statuses.Status.{Status}
use Rattle.page_ranges.specs.declared.statuses.Status.TheVariants.{InvalidParameter}
use Rattle.page_ranges.specs.Granules.{IsGranule}
use Rattle.page_ranges.specs.Memory.{IsProperMemory}
use Rattle.page_services.specs.PageRules.{Book, Choice, IsBestChoice}
use Rattle.page_services.proofs.Choices.{Permits, best_is_permitted}
use Rattle.raw_pool.specs.Blocks.{Block, cells_for, end_of, lowest_fit, new_block, with_block}
use Rattle.pool_services.specs.Extents.{Extent, Place, AreBlocks, AreExtents, address_of, begins_at, cells_in, first_fit, is_within, new_extent, replaced, tail_at, tail_in, with_blocks, with_extent, with_new_block}
use Rattle.pool_services.specs.PoolRules.{Answer, AllocatesPool, FillsPool, IsInBlock, IsPut, OwnsExtents, WritesPool}
use Rattle.pool_services.specs.Searches.{IsAt}
use Rattle.pool_services.specs.Laws.{byte_at, is_among, laid}
use Rattle.pool_services.proofs.CellBlocks.{fit-within, within-high, within-same}
use Rattle.pool_services.proofs.ExtentLists.{is-extent, set-is, tail-here}
use Rattle.pool_services.proofs.PoolBytes.{at-set, holds-tail, laid-in, laid-low, laid-high, wrote}
use Rattle.pool_services.proofs.BlockBytes.{held-fit, took}
use Rattle.pool_services.proofs.KeptPools.{allocated-keeps, written-keeps}

-- ---- a new block among those of an extent

-- at its address a new block has all its bytes
whole : (first c size : ℕ) (rest : Option (List ℕ)) →
    cond (is_within first (address_of first c) (new_block c size)) (Some (drop (address_of first c - address_of first c) (replicate size 0))) rest ≡ Some (replicate size 0)
whole first c size rest =
    let z : address_of first c - address_of first c ≡ 0 = omega arith in
    rw (within-same first (address_of first c) (new_block c size) (omega arith) (omega arith)) (ap (λ (j : ℕ). Some (drop j (replicate size 0))) z)

block-tail : (cells from first c size : ℕ) (bs : List Block) → AreBlocks cells from bs → lowest_fit cells (cells_for size) from bs ≡ Some c →
    tail_in first (address_of first c) (with_block (new_block c size) bs) ≡ Some (replicate size 0)
block-tail cells from first c size [] h e = whole first c size None
block-tail cells from first c size (b ∷ bs) h e = elim (cases_lt b.first (from + cells_for size)) [
  | inl g ↦
      let r : lowest_fit cells (cells_for size) (end_of b) bs ≡ Some c = rw (lt-leb (from + cells_for size) b.first g) at e in
      let i = fit-within cells (cells_for size) (end_of b) c bs h.2 r in
      rw (lt-ltb b.first c (omega (arith, i.0)), within-high first (address_of first c) b (omega (arith, i.0))) (block-tail cells (end_of b) first c size bs h.2 r)
  | inr g ↦
      let s : Some from ≡ Some c = rw (le-leb (from + cells_for size) b.first g) at e in
      let f : from ≡ c = cc in
      rw (le-ltb b.first c (omega (arith, f))) (whole first c size (tail_in first (address_of first c) (b ∷ bs)))
]

-- ---- among extents

-- what an extent has at an address all of them have
tail-of-one : (address : ℕ) (es : List Extent) (i : ℕ) (e : Extent) (t : List ℕ) → AreExtents es → IsAt es i e → tail_in e.first address e.blocks ≡ Some t → tail_at address es ≡ Some t
tail-of-one address es i e t a h s = tail-here address es i e a h (holds-tail e address t (is-extent es i e a h) s) ∙ s

live-tail : (t size : ℕ) (es : List Extent) (p : Place) → AreExtents es → AreExtents (with_new_block p size es) → first_fit t size es ≡ Some p → tail_at (address_of p.first p.cell) (with_new_block p size es) ≡ Some (replicate size 0)
live-tail t size es p a new f =
    let (i, e, h, l, q) = held-fit t size es p f in
    let x = is-extent es i e a h in
    let by : Extent → List Extent = λ (z : Extent). with_blocks (with_block (new_block p.cell size) z.blocks) z ∷ [] in
    let y : Extent = with_blocks (with_block (new_block p.cell size) e.blocks) e in
    let s : set es i y ≡ with_new_block p size es = set-is by y es i e a h refl ∙ ap (λ (j : ℕ). replaced (begins_at j) by es) q in
    let u : IsAt (with_new_block p size es) i y = subst (λ (zs : List Extent). IsAt zs i y) s (at-set es i y h.0) in
    ap (λ (j : ℕ). tail_at (address_of j p.cell) (with_new_block p size es)) (sym q)
    ∙ tail-of-one (address_of e.first p.cell) (with_new_block p size es) i y (replicate size 0) new u (block-tail (cells_in e.pages) 0 e.first p.cell size e.blocks x.blocks l)

-- where a new extent lies
with-at : (e : Extent) (es : List Extent) → (i : ℕ) × IsAt (with_extent e es) i e
with-at e [] = (0, (omega arith, refl))
with-at e (x ∷ xs) = elim (cases_lt e.first x.first) [
  | inl l ↦ rw (lt-leb x.first e.first l) (0, (omega arith, refl))
  | inr l ↦ let r = with-at e xs in rw (le-leb x.first e.first l) (suc r.0, (omega (arith, r.1.0), r.1.1))
]

extent-tail : (granule start t size : ℕ) (es : List Extent) → AreExtents (with_extent (new_extent granule start t size) es) → tail_at (address_of start 0) (with_extent (new_extent granule start t size) es) ≡ Some (replicate size 0)
extent-tail granule start t size es new =
    let e : Extent = new_extent granule start t size in
    let r = with-at e es in
    tail-of-one (address_of start 0) (with_extent e es) r.0 e (replicate size 0) new r.1 (whole start 0 size None)

put-tail : (Chosen : Choice) (b new_b : Book) (es new : List Extent) (t size : ℕ) (answer : Answer) (o : Option Place) → AreExtents es → AreExtents new → first_fit t size es ≡ o → IsPut Chosen o b es t size answer new_b new →
    tail_at answer.0 new ≡ Some (replicate size 0)
put-tail Chosen b new_b es new t size answer (Some p) a v f (d, c, g, n) =
    ap (λ (k : ℕ). tail_at k new) d ∙ ap (λ (zs : List Extent). tail_at (address_of p.first p.cell) zs) n ∙ live-tail t size es p a (subst AreExtents n v) f
put-tail Chosen b new_b es new t size answer None a v f (start, c, d, g, n) =
    ap (λ (k : ℕ). tail_at k new) d ∙ ap (λ (zs : List Extent). tail_at (address_of start 0) zs) n ∙ extent-tail b.granule start t size es (subst AreExtents n v)

-- AllocatePool answers the address of a block all of whose bytes are 0.
pub allocated-tail : (Chosen : Choice) (b new_b : Book) (es new : List Extent) (t size : ℕ) (answer : Answer) → AreExtents es → AreExtents new → AllocatesPool Chosen b es t size (Ok answer) new_b new →
    tail_at answer.0 new ≡ Some (replicate size 0)
allocated-tail Chosen b new_b es new t size answer a v (good, s, put) = put-tail Chosen b new_b es new t size answer (first_fit t size es) a v refl put

-- At most as many bytes as were asked for lie in the block.
allocated-holds : (Chosen : Choice) (b new_b : Book) (es new : List Extent) (t size count : ℕ) (answer : Answer) → AreExtents es → AreExtents new → AllocatesPool Chosen b es t size (Ok answer) new_b new → count ≤ size →
    IsInBlock answer.0 count new
allocated-holds Chosen b new_b es new t size count answer a v h l = (replicate size 0, allocated-tail Chosen b new_b es new t size answer a v h, omega (arith, l, length-replicate {A = ℕ} size 0))

refused : (es : List Extent) (address : ℕ) (bytes : List ℕ) (status : Status) (new : List Extent) → WritesPool es address bytes (Err status) new → ¬ IsInBlock address (length bytes) es
refused es address bytes InvalidParameter new w = w.0
refused es address bytes status new w = absurd w

-- No more bytes than were asked for can be written to the address that AllocatePool answers.
pub not-refused : (Chosen : Choice) (b new_b : Book) (es placed : List Extent) (t size : ℕ) (answer : Answer) (bytes : List ℕ) (status : Status) (new : List Extent) → AreExtents es → AreExtents placed →
    AllocatesPool Chosen b es t size (Ok answer) new_b placed → WritesPool placed answer.0 bytes (Err status) new → length bytes ≤ size → ⊥
not-refused Chosen b new_b es placed t size answer bytes status new a v h w l = refused placed answer.0 bytes status new w (allocated-holds Chosen b new_b es placed t size (length bytes) answer a v h l)

-- ---- a block that is filled

pub filled-keeps : (Chosen : Choice) → Permits Chosen → (b : Book) (es : List Extent) (t : ℕ) (bytes : List ℕ) (result : Result Answer Status) (new_b : Book) (new : List Extent) →
    IsGranule b.granule → IsProperMemory b.memory → AreExtents es → OwnsExtents b.memory es → FillsPool Chosen b es t bytes result new_b new → AreExtents new × OwnsExtents new_b.memory new
filled-keeps Chosen permits b es t bytes (Ok answer) new_b new granule proper a owns (placed, h, n) =
    let k = allocated-keeps Chosen permits b es t (length bytes) (Ok answer) new_b placed granule proper a owns h in
    written-keeps new_b.memory placed answer.0 bytes (Ok tt) new k.0 k.1 (allocated-holds Chosen b new_b es placed t (length bytes) (length bytes) answer a k.0 h (omega arith), n)
filled-keeps Chosen permits b es t bytes (Err e) new_b new granule proper a owns h = allocated-keeps Chosen permits b es t (length bytes) (Err e) new_b new granule proper a owns h

-- bytes over as many others
laid-over : (start : ℕ) (bytes under : List ℕ) (k : ℕ) (old : Option ℕ) → length under ≡ length bytes → laid start bytes k (laid start under k old) ≡ laid start bytes k old
laid-over start bytes under k old n = elim (cases_lt k start) [
  | inl l ↦ ap (laid start bytes k) (laid-low start under k old l)
  | inr l ↦ elim (cases_lt k (start + length bytes)) [
    | inl u ↦ laid-in start bytes k (laid start under k old) l u ∙ sym (laid-in start bytes k old l u)
    | inr u ↦ ap (laid start bytes k) (laid-high start under k old (omega (arith, n, u)))
  ]
]

pub filled : (b new_b : Book) (es new : List Extent) (t : ℕ) (bytes : List ℕ) (answer : Answer) → IsGranule b.granule → IsProperMemory b.memory → OwnsExtents b.memory es → AreExtents es → FillsPool IsBestChoice b es t bytes (Ok answer) new_b new →
    (k : ℕ) → (byte_at k new ≡ laid answer.0 bytes k (byte_at k es)) × (is_among answer.0 (length bytes) k ≡ true → byte_at k es ≡ None)
filled b new_b es new t bytes answer granule proper owns a (placed, h, n) k =
    let zeros : List ℕ = replicate (length bytes) 0 in
    let v = allocated-keeps IsBestChoice best_is_permitted b es t (length bytes) (Ok answer) new_b placed granule proper a owns h in
    let old = took b new_b es placed t (length bytes) answer granule proper owns a h k in (
      wrote placed new answer.0 bytes tt v.0 (allocated-holds IsBestChoice b new_b es placed t (length bytes) (length bytes) answer a v.0 h (omega arith), n) k
          ∙ ap (laid answer.0 bytes k) old.0
          ∙ laid-over answer.0 bytes zeros k (byte_at k es) (length-replicate (length bytes) 0),
      old.1,
    )
