-- Bytes that are written into a block.
use Rattle.std.proofs.Common.{◌≡◌, ℕ, ◌+◌, ◌*◌, ◌<◌, ◌≤◌, inl, List, [], ◌∷◌, ◌++◌, length, map, refl, sym, ap, ◌∙◌, append_assoc, arith, subst, take, drop, get_or, eq-eqb, ne_eqb}
use Rattle.std.specs.List.{AllByRecursion}
use Rattle.std.proofs.lemmas.List.{drop_at, take_at, length-take-le, length-drop, take-append-drop, drop-drop, map-append}
use Rattle.raw_pool.specs.Bytes.{Bytes, part, put, word}
use Rattle.raw_pool.specs.Blocks.{Block, cells_for, with_bytes}
use Rattle.raw_pool.specs.FreeList.{FreeRun, IsRun, AreApart, AreLinked, IsLaidOut, block_in, cells_in, blocks_in, gap, gaps, behind, free_runs, link, marked}
use Rattle.raw_pool.specs.Searches.{IsStore}
use Rattle.raw_pool.proofs.Puts.{put_before, length-put, put-deep, word-same}
use Rattle.raw_pool.proofs.Runs.{AreRising, AreSame, rising-le, rising-runs, AreClear, clear-append, clear-left, clear-right, gaps-same, behind-same, free_runs-append, free_runs-first, free_runs-same, same-left, same-right, apart-same, apart-right, apart-join, apart-lower, apart-raise, apart-next}
use Rattle.raw_pool.proofs.Links.{KeepsAbove, linked-kept, link-run}
use Rattle.raw_pool.proofs.Changes.{Changes, no_changes, changes-cells, same-blocks, keeps-above}
use Rattle.raw_pool.proofs.Marks.{marked_cell, marked-high}
use Rattle.raw_pool.proofs.Listed.{map-same}
use Rattle.raw_pool.proofs.Gives.{rising-gaps}

-- a write into a part, seen in the part
pub part-put : (bytes new : List ℕ) (off at n : ℕ) → off + n ≤ length bytes → at + length new ≤ n → part (put bytes (off + at) new) off n ≡ put (part bytes off n) at new
part-put bytes new off at n h g =
    let p : List ℕ = part bytes off n in
    let front : List ℕ = take off bytes in
    let rest : List ℕ = drop (off + n) bytes in
    let lf : length front ≡ off = length-take-le off bytes (omega arith) in
    let ld : n ≤ length (drop off bytes) = omega (arith, length-drop off bytes) in
    let lp : length p ≡ n = length-take-le n (drop off bytes) ld in
    let whole : front ++ (p ++ rest) ≡ bytes =
    ap (λ (xs : List ℕ). front ++ (p ++ xs)) (sym (drop-drop n off bytes)) ∙ ap (λ (xs : List ℕ). front ++ xs) (take-append-drop n (drop off bytes)) ∙ take-append-drop off bytes in
    let l : length (put p at new) ≡ n = omega (arith, length-put p new at (omega arith)) in
    let same : put bytes (off + at) new ≡ front ++ (put p at new ++ rest) = ap (λ (xs : List ℕ). put xs (off + at) new) (sym whole) ∙ put-deep front p rest new off at lf (omega arith) in
    ap (λ (xs : List ℕ). part xs off n) same
    ∙ ap (take n) (drop_at front (put p at new ++ rest) off lf)
    ∙ take_at (put p at new) rest n l

-- runs on both sides of some cells that change
linked-around : (old new : List ℕ) (cells head to low middle top : ℕ) (xs ys : List FreeRun) → AreRising low middle xs → middle ≤ top → top ≤ cells → AreRising top cells ys → ((at : ℕ) → at + 8 ≤ 32 * middle → word new at ≡ word old at) → KeepsAbove old new top →
    AreLinked old cells head to (xs ++ ys) → AreLinked new cells head to (xs ++ ys)
linked-around old new cells head to low middle top [] ys a m t b w k l = linked-kept old new cells head head to top ys b k l
linked-around old new cells head to low middle top (x ∷ xs) ys a m t b w k l =
    let i : IsRun old x = l.1 in
    let up : x.first + x.cells ≤ middle = rising-le (x.first + x.cells) middle xs a.2 in
    let below : x.first < cells = omega (arith, a.1) in
    let e : link new cells head x.first ≡ link old cells head x.first = link-run new cells head x.first below ∙ w (32 * x.first + 8) (omega (arith, a.1)) ∙ sym (link-run old cells head x.first below) in (
      l.0,
      (w (32 * x.first) (omega (arith, a.1)) ∙ i.0, omega (arith, k.longer, i.1)),
      subst (λ (j : ℕ). AreLinked new cells head j (xs ++ ys)) (sym e) (linked-around old new cells head (link old cells head x.first) (x.first + x.cells) middle top xs ys a.2 m t b w k l.2),
    )

block-written : (old new : List ℕ) (cell at : ℕ) (bytes : List ℕ) → word new (32 * cell) ≡ word old (32 * cell) → part new (32 * cell + 8) (word old (32 * cell)) ≡ put (part old (32 * cell + 8) (word old (32 * cell))) at bytes →
    block_in new cell ≡ record { first = (block_in old cell).first; size = (block_in old cell).size; bytes = put (block_in old cell).bytes at bytes }
unfolding block_in
block-written old new cell at bytes w e =
    ap (λ (n : ℕ). record { first = cell; size = n; bytes = part new (32 * cell + 8) n }) w ∙ ap (λ (bs : List ℕ). record { first = cell; size = word old (32 * cell); bytes = bs }) e

with-bytes-between : (old : List ℕ) (cell at : ℕ) (bytes : List ℕ) (ls rs : List ℕ) → AllByRecursion (λ c. c < cell) ls →
    with_bytes cell at bytes (map (block_in old) (ls ++ cell ∷ rs)) ≡ map (block_in old) ls ++ record { first = (block_in old cell).first; size = (block_in old cell).size; bytes = put (block_in old cell).bytes at bytes } ∷ map (block_in old) rs
unfolding block_in
with-bytes-between old cell at bytes [] rs low = rw (eq-eqb cell cell refl) refl
with-bytes-between old cell at bytes (l ∷ ls) rs low = rw (ne_eqb l cell (λ e. omega (arith, low.0))) (ap (λ (bs : List Block). block_in old l ∷ bs) (with-bytes-between old cell at bytes ls rs low.1))

size-of-block : (bytes : List ℕ) (cell : ℕ) → (block_in bytes cell).size ≡ word bytes (32 * cell)
unfolding block_in
size-of-block bytes cell = refl

pub record WrittenIn (old new marks : List ℕ) (cells head cell at : ℕ) (bytes : List ℕ) : Type 0 where
  pub laid : IsLaidOut new marks cells head
  pub blocks : blocks_in new marks ≡ with_bytes cell at bytes (blocks_in old marks)

pub written_in : (bytes marks : Bytes) (cells head cell at : ℕ) (new : List ℕ) → IsStore bytes marks cells head → cell < length marks.set → (get_or marks.set cell 0 ≡ 0 → ⊥) → at + length new ≤ word bytes.set (32 * cell) →
    WrittenIn bytes.set (put bytes.set (32 * cell + 8 + at) new) marks.set cells head cell at new
written_in bytes marks cells head cell at new s h z fits =
    let old : List ℕ = bytes.set in
    let next : List ℕ = put old (32 * cell + 8 + at) new in
    let n : ℕ = cell + cells_in old cell in
    let ls : List ℕ = marked 0 (take cell marks.set) in
    let rs : List ℕ = marked (cell + 1) (drop (cell + 1) marks.set) in
    let f : marked 0 marks.set ≡ ls ++ cell ∷ rs = marked_cell marks.set cell h z in
    let a : AreApart old cells 0 (ls ++ cell ∷ rs) = subst (AreApart old cells 0) f s.laid.apart in
    let b : AreApart old cells (behind old 0 ls) (cell ∷ rs) = apart-right old cells 0 ls (cell ∷ rs) a in
    let z0 : (block_in old cell).size ≡ word old (32 * cell) = size-of-block old cell in
    let room : 32 * cell + 8 + word old (32 * cell) ≤ 32 * n = omega arith in
    let set : 32 * n ≤ length old = b.1 in
    let start : 32 * cell + 8 + at ≤ length old = omega arith in
    let c : Changes old next cells cells cell n = changes-cells old old new cells cells cell n (32 * cell + 8 + at) (no_changes old cells cells cell n) start (omega arith) (omega arith) in
    let clear : AreClear old cell n (ls ++ rs) = clear-append old cell n ls rs (clear-left old cells 0 cell n ls (cell ∷ rs) a b.0) (clear-right old cells n cell n rs b.2 (omega arith)) in
    let same : AreSame old next (ls ++ rs) = same-blocks old next cells cells cell n (ls ++ rs) c clear (λ r. absurd (omega arith)) in
    let sl : AreSame old next ls = same-left old next ls rs same in
    let sr : AreSame old next rs = same-right old next ls rs same in
    let w : word next (32 * cell) ≡ word old (32 * cell) = word-same old next (32 * cell) (put_before old new (32 * cell + 8 + at) (32 * cell) 8 start (omega arith)) in
    let block : block_in next cell ≡ record { first = (block_in old cell).first; size = (block_in old cell).size; bytes = put (block_in old cell).bytes at new } =
    block-written old next cell at new w (part-put old new (32 * cell + 8) at (word old (32 * cell)) (omega arith) fits) in
    let m : cells_in next cell ≡ cells_in old cell = ap (λ (x : Block). cells_for x.size) block in
    let t = apart-next old cells n rs b.2 in
    let rest : AreApart next cells 0 (ls ++ rs) = apart-same old next (ls ++ rs) cells 0 same c.longer (apart-join old cells 0 ls (cell ∷ rs) rs a (apart-lower old cells (behind old 0 ls) n rs (omega (arith, b.0)) b.2)) in
    let bl : behind next 0 ls ≡ behind old 0 ls = behind-same old next ls 0 sl in
    let tail : AreApart next cells (cell + cells_in next cell) rs = apart-raise next cells (behind next 0 ls) (cell + cells_in next cell) rs (omega (arith, t.0, m)) (apart-right next cells 0 ls rs rest) in
    let runs : free_runs next cells 0 (ls ++ cell ∷ rs) ≡ (gaps old 0 ls ++ gap (behind old 0 ls) cell) ++ free_runs old cells n rs =
    free_runs-append next cells 0 ls (cell ∷ rs)
    ∙ ap (λ (xs : List FreeRun). xs ++ free_runs next cells (behind next 0 ls) (cell ∷ rs)) (gaps-same old next ls 0 sl)
    ∙ ap (λ (k : ℕ). gaps old 0 ls ++ free_runs next cells k (cell ∷ rs)) bl
    ∙ ap (λ (xs : List FreeRun). gaps old 0 ls ++ xs)
    (free_runs-first next cells (behind old 0 ls) (cell ∷ rs) ∙ ap (λ (k : ℕ). gap (behind old 0 ls) cell ++ free_runs next cells (cell + k) rs) m ∙ ap (λ (xs : List FreeRun). gap (behind old 0 ls) cell ++ xs) (free_runs-same old next rs cells n sr))
    ∙ sym (append_assoc (gaps old 0 ls) (gap (behind old 0 ls) cell) (free_runs old cells n rs)) in
    let runs_before : free_runs old cells 0 (ls ++ cell ∷ rs) ≡ (gaps old 0 ls ++ gap (behind old 0 ls) cell) ++ free_runs old cells n rs =
    free_runs-append old cells 0 ls (cell ∷ rs) ∙ ap (λ (xs : List FreeRun). gaps old 0 ls ++ xs) (free_runs-first old cells (behind old 0 ls) (cell ∷ rs))
    ∙ sym (append_assoc (gaps old 0 ls) (gap (behind old 0 ls) cell) (free_runs old cells n rs)) in
    let linked : AreLinked old cells head head ((gaps old 0 ls ++ gap (behind old 0 ls) cell) ++ free_runs old cells n rs) =
    subst (AreLinked old cells head head) (ap (free_runs old cells 0) f ∙ runs_before) s.laid.linked in
    let linked' : AreLinked next cells head head ((gaps old 0 ls ++ gap (behind old 0 ls) cell) ++ free_runs old cells n rs) =
    linked-around old next cells head head 0 cell n (gaps old 0 ls ++ gap (behind old 0 ls) cell) (free_runs old cells n rs) (rising-gaps old cells 0 cell ls (cell ∷ rs) a b.0) (omega arith) (omega (arith, t.0, t.1))
    (rising-runs old cells n rs b.2) (λ i y. word-same old next i (c.parts i 8 (inl y) (λ r. absurd (omega arith)))) (keeps-above old next cells cells cell n c (λ r. absurd (omega arith))) linked in
    record {
      laid = record {
        apart = subst (AreApart next cells 0) (sym f) (apart-join next cells 0 ls rs (cell ∷ rs) rest (omega (arith, b.0, bl), omega (arith, m, c.longer), tail));
        linked = subst (λ (xs : List ℕ). AreLinked next cells head head (free_runs next cells 0 xs)) (sym f) (subst (AreLinked next cells head head) (sym runs) linked');
      };
      blocks =
          ap (map (block_in next)) f ∙ map-append (block_in next) ls (cell ∷ rs)
          ∙ ap (λ (xs : List Block). xs ++ block_in next cell ∷ map (block_in next) rs) (map-same old next ls sl)
          ∙ ap (λ (x : Block). map (block_in old) ls ++ x ∷ map (block_in next) rs) block
          ∙ ap (λ (xs : List Block). map (block_in old) ls ++ record { first = (block_in old cell).first; size = (block_in old cell).size; bytes = put (block_in old cell).bytes at new } ∷ xs) (map-same old next rs sr)
          ∙ sym (with-bytes-between old cell at new ls rs (marked-high 0 cell (take cell marks.set) (omega (arith, length-take-le cell marks.set (omega arith)))))
          ∙ ap (λ (xs : List ℕ). with_bytes cell at new (map (block_in old) xs)) (sym f);
    }
