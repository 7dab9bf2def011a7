-- A block that is taken off the front of a free run.
use Rattle.std.proofs.Common.{◌≡◌, ℕ, ◌+◌, ◌-◌, ◌*◌, ◌^◌, ◌<◌, ◌≤◌, ◌==◌, ◌⊎◌, inl, inr, cond, None, List, [], ◌∷◌, ◌++◌, length, map, replicate, Some, sym, ap, ◌∙◌, arith, subst, eq-eqb, ne_eqb}
use Rattle.std.specs.List.{AllByRecursion}
use Rattle.std.proofs.lemmas.Bool.{cases_lt, cases_eq}
use Rattle.std.proofs.lemmas.List.{map-append}
use Rattle.byteorder.specs.Endian.{little_bytes}
use Rattle.raw_pool.specs.Bytes.{Bytes, extended, part, put, word}
use Rattle.raw_pool.specs.Blocks.{Block, cells_for, lowest_fit, new_block, taken, with_block}
use Rattle.raw_pool.specs.FreeList.{FreeRun, IsRun, AreApart, AreLinked, IsLaidOut, block_in, cells_in, blocks_in, gap, gaps, behind, free_runs, link, marked}
use Rattle.raw_pool.specs.Searches.{IsCut, IsStore, Scan, pool_of, runs_of}
use Rattle.raw_pool.proofs.Puts.{put_before, put_behind, length-put, word-same, word-put}
use Rattle.raw_pool.proofs.Runs.{AreRising, AreSame, RisesInTwo, rising-split, rising-le, rising-lower, LiesBetween, lies_between, AreClear, clear-run, gap-some, gap-none, gaps-same, behind-same, free_runs-append, free_runs-first, beyond, beyond-same, next_start, same-left, same-right, apart-same, apart-right, apart-join, apart-raise, all-starts-low, all-starts-high}
use Rattle.raw_pool.proofs.Links.{Here, here, relinked, linked-kept, link-run, link-head}
use Rattle.raw_pool.proofs.Changes.{Changes, changes-cells, same-blocks, keeps-below, keeps-above}
use Rattle.raw_pool.proofs.Places.{Passed, passed, LinkIsSet, link_set, changes-then}
use Rattle.raw_pool.proofs.Scans.{rising}
use Rattle.raw_pool.proofs.Marks.{mark_set, all-low}
use Rattle.raw_pool.proofs.Listed.{map-same, with-between, fit-behind}

-- the run that a walk has come to
pub record Fit (bytes : List ℕ) (cells head : ℕ) (starts : List ℕ) (last at : ℕ) (before after : List FreeRun) : Type 0 where
  pub run : FreeRun
  pub rest : List FreeRun
  pub first : at ≡ run.first
  pub cells_is : run.cells ≡ word bytes (32 * at)
  pub set : 32 * at + 16 ≤ length bytes
  pub linked : AreLinked bytes cells head (link bytes cells head at) rest
  pub between : LiesBetween bytes cells 0 starts before run rest
  pub clear : AreClear bytes at (at + word bytes (32 * at)) starts
  pub within : at + word bytes (32 * at) ≤ cells
  pub rising : RisesInTwo 0 cells before (run ∷ rest)

pub fit : (P : FreeRun → Type 0) (bytes marks : Bytes) (cells head last at : ℕ) → IsStore bytes marks cells head → (c : Scan P bytes.set cells head (runs_of bytes marks cells) last at) → at < cells →
    Fit bytes.set cells head (marked 0 marks.set) last at c.before c.after
fit P bytes marks cells head last at s c l =
    let h : Here bytes.set cells head c.after at = here bytes.set cells head c.after at l c.linked in
    let i : IsRun bytes.set h.run = h.run_is in
    let k : h.run.cells ≡ word bytes.set (32 * at) = sym i.0 ∙ ap (λ (j : ℕ). word bytes.set (32 * j)) (sym h.first) in
    let whole : runs_of bytes marks cells ≡ c.before ++ h.run ∷ h.rest = c.is ∙ ap (λ (rs : List FreeRun). c.before ++ rs) h.is in
    let b : LiesBetween bytes.set cells 0 (marked 0 marks.set) c.before h.run h.rest = lies_between bytes.set cells 0 (marked 0 marks.set) c.before h.run h.rest s.laid.apart whole in
    let r : RisesInTwo 0 cells c.before (h.run ∷ h.rest) = rising-split 0 cells c.before (h.run ∷ h.rest) (subst (AreRising 0 cells) whole (rising bytes marks cells head s)) in
    let clear : AreClear bytes.set h.run.first (h.run.first + h.run.cells) (marked 0 marks.set) = clear-run bytes.set cells 0 (marked 0 marks.set) c.before h.run h.rest s.laid.apart b in
    record {
      run = h.run;
      rest = h.rest;
      first = h.first;
      cells_is = k;
      set = omega (arith, i.1, h.first);
      linked = subst (λ (j : ℕ). AreLinked bytes.set cells head (link bytes.set cells head j) h.rest) (sym h.first) h.linked;
      between = b;
      clear = subst (λ (n : ℕ). AreClear bytes.set at (at + n) (marked 0 marks.set)) k (subst (λ (j : ℕ). AreClear bytes.set j (j + h.run.cells) (marked 0 marks.set)) (sym h.first) clear);
      within = omega (arith, h.first, k, rising-le (h.run.first + h.run.cells) cells h.rest r.right.2);
      rising = r;
    }

-- the run passed last lies before the one come to
pub record Lower (bytes : List ℕ) (cells : ℕ) (starts : List ℕ) (last at : ℕ) : Type 0 where
  pub below : last < at
  pub set : 32 * last + 16 ≤ length bytes
  pub clear : AreClear bytes last (last + 1) starts

pub lower : (bytes : List ℕ) (cells : ℕ) (starts : List ℕ) (last at middle limit : ℕ) (before : List FreeRun) → ((before ≡ []) × (last ≡ cells)) ⊎ Passed bytes cells starts before last → AreRising 0 middle before → middle ≤ at → last < cells →
    Lower bytes cells starts last at
lower bytes cells starts last at middle limit before p a m l =
    elim p [
      | inl z ↦ absurd (omega (arith, z.1))
      | inr z ↦
          let r : RisesInTwo 0 middle z.front (z.run ∷ []) = rising-split 0 middle z.front (z.run ∷ []) (subst (AreRising 0 middle) z.is a) in
          let i : IsRun bytes z.run = z.run_is in
          record { below = omega (arith, r.right.2, z.first, z.some); set = omega (arith, i.1, z.first); clear = z.clear }
    ]

pub last_within : (bytes : List ℕ) (cells : ℕ) (starts : List ℕ) (last : ℕ) (before : List FreeRun) → ((before ≡ []) × (last ≡ cells)) ⊎ Passed bytes cells starts before last → last ≤ cells
last_within bytes cells starts last before p = elim p [ inl z ↦ omega (arith, z.1) | inr z ↦ omega (arith, z.first, z.some, z.within) ]

pub link-same : (old new : List ℕ) (cells head last : ℕ) → last ≤ cells → (last < cells → part new (32 * last + 8) 8 ≡ part old (32 * last + 8) 8) → link new cells head last ≡ link old cells head last
link-same old new cells head last h e =
    elim (cases_lt last cells) [
      | inl l ↦ link-run new cells head last l ∙ word-same old new (32 * last + 8) (e l) ∙ sym (link-run old cells head last l)
      | inr g ↦ let z : last ≡ cells = omega arith in link-head new cells head last z ∙ sym (link-head old cells head last z)
    ]

pub block-is : (bytes : List ℕ) (at size : ℕ) → word bytes (32 * at) ≡ size → part bytes (32 * at + 8) size ≡ replicate size 0 → block_in bytes at ≡ new_block at size
unfolding block_in
block-is bytes at size e f =
    ap (λ (n : ℕ). record { first = at; size = n; bytes = part bytes (32 * at + 8) n }) e ∙ ap (λ (bs : List ℕ). record { first = at; size = size; bytes = bs }) f

-- the bytes once the block is there: the cells are cut off, the list goes on behind them, and the header is written
pub record Written (old new : List ℕ) (cells head' head : ℕ) (starts : List ℕ) (last at size need rest : ℕ) : Type 0 where
  pub changes : Changes old new cells last at (at + word old (32 * at))
  pub same : AreSame old new starts
  pub block : block_in new at ≡ new_block at size
  pub leads : link new cells head' last ≡ rest
  pub kept : last < cells → head' ≡ head
  pub set : 32 * (at + need) ≤ length new
  pub whole : word old (32 * at) ≤ need → rest ≡ link old cells head at
  pub left : need < word old (32 * at) → (rest ≡ at + need) × (word new (32 * (at + need)) ≡ word old (32 * at) - need) × (word new (32 * (at + need) + 8) ≡ link old cells head at) × (32 * (at + need) + 16 ≤ length new)

pub written : (old two : List ℕ) (cells head : ℕ) (starts : List ℕ) (last at size need rest : ℕ) → last ≤ cells → (last < cells → Lower old cells starts last at) → AreClear old at (at + word old (32 * at)) starts → need ≡ cells_for size → need ≤ word old (32 * at) →
    size < 2 ^ 64 → rest < 2 ^ 64 → IsCut old two cells head at need rest →
    Written old (put (cond (last == cells) two (put two (32 * last + 8) (little_bytes 8 rest))) (32 * at) (little_bytes 8 size)) cells (cond (last == cells) rest head) head starts last at size need rest
written old two cells head starts last at size need rest w low clear n f small next cut =
    let k : ℕ = word old (32 * at) in
    let three : List ℕ = cond (last == cells) two (put two (32 * last + 8) (little_bytes 8 rest)) in
    let four : List ℕ = put three (32 * at) (little_bytes 8 size) in
    let head' : ℕ = cond (last == cells) rest head in
    let c2 : Changes old two cells last at (at + k) = record { longer = cut.longer; parts = λ off m x y. cut.parts off m x } in
    let i : LinkIsSet two three cells head' head last rest = link_set two cells head last rest w (λ h. omega (arith, (low h).set, cut.longer)) next in
    let c3 : Changes old three cells last at (at + k) = changes-then old two three cells last at (at + k) c2 i.changes in
    let n3 : 32 * at ≤ length three = omega (arith, cut.set, i.changes.longer) in
    let c4 : Changes old four cells last at (at + k) = changes-cells old three (little_bytes 8 size) cells last at (at + k) (32 * at) c3 n3 (omega arith) (omega arith) in
    let n4 : length three ≤ length four = omega (arith, length-put three (little_bytes 8 size) (32 * at) n3) in
    let above : (off m : ℕ) → 32 * at + 8 ≤ off → part four off m ≡ part two off m =
    λ off m h. put_behind three (little_bytes 8 size) (32 * at) off m n3 h ∙ i.changes.parts off m (inr (omega arith)) (λ l. inr (omega (arith, (low l).below))) in
    let content : part four (32 * at + 8) size ≡ replicate size 0 = above (32 * at + 8) size (omega arith) ∙ cut.zeros (32 * at + 8) size (omega arith) (omega arith) in
    record {
      changes = c4;
      same = same-blocks old four cells last at (at + k) starts c4 clear (λ h. (low h).clear);
      block = block-is four at size (word-put three (32 * at) size n3 small) content;
      leads = link-same three four cells head' last w (λ h. put_before three (little_bytes 8 size) (32 * at) (32 * last + 8) 8 n3 (omega (arith, (low h).below))) ∙ i.leads;
      kept = i.kept;
      set = omega (arith, cut.set, i.changes.longer);
      whole = cut.whole;
      left = λ h. (
        (cut.left h).0,
        word-same two four (32 * (at + need)) (above (32 * (at + need)) 8 (omega arith)) ∙ (cut.left h).1,
        word-same two four (32 * (at + need) + 8) (above (32 * (at + need) + 8) 8 (omega arith)) ∙ (cut.left h).2,
        omega (arith, (cut.left h).3, i.changes.longer),
      );
    }

-- the list behind the block
listed : (old new : List ℕ) (cells head' head : ℕ) (starts : List ℕ) (last at size need rest : ℕ) (before after : List FreeRun) → Written old new cells head' head starts last at size need rest → (q : Fit old cells head starts last at before after) →
    (last < cells → last < at) → need ≤ word old (32 * at) → AreLinked new cells head' rest (gap (at + need) (at + word old (32 * at)) ++ q.rest)
listed old new cells head' head starts last at size need rest before after w q low f =
    let k : ℕ = word old (32 * at) in
    let up : AreRising (at + k) cells q.rest = rising-lower (at + k) (q.run.first + q.run.cells) cells q.rest (omega (arith, q.first, q.cells_is)) q.rising.right.2 in
    let kept : AreLinked new cells head' (link old cells head at) q.rest =
    linked-kept old new cells head' head (link old cells head at) (at + k) q.rest up (keeps-above old new cells last at (at + k) w.changes (λ h. omega (arith, low h))) q.linked in
    elim (cases_lt need k) [
      | inl l ↦
          let same_rest : k - need ≡ at + k - (at + need) = omega arith in
          rw (gap-some (at + need) (at + k) (omega arith)) (
            (w.left l).0,
            ((w.left l).1 ∙ same_rest, (w.left l).3),
            subst (λ (j : ℕ). AreLinked new cells head' j q.rest) (sym (link-run new cells head' (at + need) (omega (arith, q.within)) ∙ (w.left l).2)) kept,
          )
      | inr g ↦
          rw (gap-none (at + need) (at + k) (omega arith)) (subst (λ (j : ℕ). AreLinked new cells head' j q.rest) (sym (w.whole g)) kept)
    ]

pub record TakenAt (old new marks marks' : List ℕ) (cells head' at size : ℕ) : Type 0 where
  pub laid : IsLaidOut new marks' cells head'
  pub blocks : blocks_in new marks' ≡ with_block (new_block at size) (blocks_in old marks)

pub taken_at : (bytes marks : Bytes) (new : List ℕ) (cells head' head last at size need rest end : ℕ) → IsStore bytes marks cells head → (c : Scan (λ (r : FreeRun). r.cells < need) bytes.set cells head (runs_of bytes marks cells) last at) → at < cells → at ≤ end →
    need ≡ cells_for size → need ≤ word bytes.set (32 * at) → Written bytes.set new cells head' head (marked 0 marks.set) last at size need rest →
    TakenAt bytes.set new marks.set (put (extended marks.set end) at (1 ∷ [])) cells head' at size
taken_at bytes marks new cells head' head last at size need rest end s c l le n f w =
    let old : List ℕ = bytes.set in
    let k : ℕ = word old (32 * at) in
    let q : Fit old cells head (marked 0 marks.set) last at c.before c.after = fit (λ (r : FreeRun). r.cells < need) bytes marks cells head last at s c l in
    let p = passed old cells head (marked 0 marks.set) c.before c.after last s.laid.apart c.is c.path in
    let ls : List ℕ = q.between.left in
    let rs : List ℕ = q.between.right in
    let e : marked 0 marks.set ≡ ls ++ rs = q.between.is in
    let b : behind old 0 ls ≡ at = sym q.between.first ∙ sym q.first in
    let stop : next_start cells rs ≡ at + k = sym q.between.end ∙ omega (arith, q.first, q.cells_is) in
    let same : AreSame old new (ls ++ rs) = subst (AreSame old new) e w.same in
    let sl : AreSame old new ls = same-left old new ls rs same in
    let sr : AreSame old new rs = same-right old new ls rs same in
    let b' : behind new 0 ls ≡ at = behind-same old new ls 0 sl ∙ b in
    let a : AreApart old cells 0 (ls ++ rs) = subst (AreApart old cells 0) e s.laid.apart in
    let a' : AreApart new cells 0 (ls ++ rs) = apart-same old new (ls ++ rs) cells 0 same w.changes.longer a in
    let n' : cells_in new at ≡ need = ap (λ (x : Block). cells_for x.size) w.block ∙ sym n in
    let tail : AreApart new cells (at + cells_in new at) rs = apart-raise new cells (behind new 0 ls) (at + cells_in new at) rs (omega arith) (apart-right new cells 0 ls rs a') in
    let whole : AreApart new cells 0 (ls ++ at ∷ rs) = apart-join new cells 0 ls rs (at ∷ rs) a' (omega arith, omega (arith, w.set), tail) in
    let low : AllByRecursion (λ x. x < at) ls = all-starts-low old cells 0 at ls rs a (omega arith) in
    let high : AllByRecursion (λ x. at + 1 ≤ x) rs = all-starts-high old cells (behind old 0 ls) (at + 1) rs (apart-right old cells 0 ls rs a) (omega arith) in
    let m : marked 0 (put (extended marks.set end) at (1 ∷ [])) ≡ ls ++ at ∷ rs = mark_set marks.set ls rs at end le e low high in
    let runs : free_runs new cells 0 (ls ++ at ∷ rs) ≡ c.before ++ (gap (at + need) (at + k) ++ q.rest) =
    free_runs-append new cells 0 ls (at ∷ rs)
    ∙ ap (λ (j : ℕ). gaps new 0 ls ++ free_runs new cells j (at ∷ rs)) b'
    ∙ ap (λ (xs : List FreeRun). xs ++ free_runs new cells at (at ∷ rs)) (gaps-same old new ls 0 sl ∙ sym q.between.before_is)
    ∙ ap (λ (xs : List FreeRun). c.before ++ xs)
    (free_runs-first new cells at (at ∷ rs)
    ∙ ap (λ (xs : List FreeRun). xs ++ free_runs new cells (at + cells_in new at) rs) (gap-none at at (omega arith))
    ∙ ap (λ (j : ℕ). free_runs new cells (at + j) rs) n'
    ∙ free_runs-first new cells (at + need) rs
    ∙ ap (λ (j : ℕ). gap (at + need) j ++ beyond new cells rs) stop
    ∙ ap (λ (xs : List FreeRun). gap (at + need) (at + k) ++ xs) (beyond-same old new rs cells sr ∙ sym q.between.after_is)) in
    let lows : last < cells → last < at = λ h. (lower old cells (marked 0 marks.set) last at q.rising.middle cells c.before p q.rising.left (omega (arith, q.rising.right.0, q.first)) h).below in
    let linked : AreLinked new cells head' head' (c.before ++ (gap (at + need) (at + k) ++ q.rest)) =
    relinked old new cells head' head 0 q.rising.middle last c.before (gap (at + need) (at + k) ++ q.rest) q.rising.left (omega (arith, q.rising.right.0, q.first))
    (λ h. keeps-below old new cells head' head last at (at + k) w.changes h (lows h) (w.kept h)) c.path
    (subst (λ (j : ℕ). AreLinked new cells head' j (gap (at + need) (at + k) ++ q.rest)) (sym w.leads) (listed old new cells head' head (marked 0 marks.set) last at size need rest c.before c.after w q lows f)) in
    record {
      laid = record {
        apart = subst (AreApart new cells 0) (sym m) whole;
        linked = subst (λ (xs : List ℕ). AreLinked new cells head' head' (free_runs new cells 0 xs)) (sym m) (subst (AreLinked new cells head' head') (sym runs) linked);
      };
      blocks =
          ap (map (block_in new)) m ∙ map-append (block_in new) ls (at ∷ rs)
          ∙ ap (λ (x : Block). map (block_in new) ls ++ x ∷ map (block_in new) rs) w.block
          ∙ ap (λ (xs : List Block). xs ++ new_block at size ∷ map (block_in new) rs) (map-same old new ls sl)
          ∙ ap (λ (xs : List Block). map (block_in old) ls ++ new_block at size ∷ xs) (map-same old new rs sr)
          ∙ sym (with-between old (new_block at size) ls rs low (all-low at (at + 1) rs (omega arith) high))
          ∙ ap (λ (xs : List ℕ). with_block (new_block at size) (map (block_in old) xs)) (sym e);
    }

-- the store once all of it is written
pub placed : (bytes marks two three four marks' : Bytes) (cells head cells2 head2 head3 last at size need rest end : ℕ) → IsStore bytes marks cells head → Scan (λ (r : FreeRun). r.cells < need) bytes.set cells head (runs_of bytes marks cells) last at → at < cells → at ≤ end →
    need ≡ cells_for size → need ≤ word bytes.set (32 * at) → size < 2 ^ 64 → rest < 2 ^ 64 → IsCut bytes.set two.set cells head at need rest → two.room ≡ bytes.room → cells2 ≡ cells → head2 ≡ head →
    three ≡ record { set = cond (last == cells2) two.set (put two.set (32 * last + 8) (little_bytes 8 rest)); room = two.room } → head3 ≡ cond (last == cells2) rest head2 →
    four ≡ record { set = put three.set (32 * at) (little_bytes 8 size); room = three.room } → marks' ≡ record { set = put (extended marks.set end) at (1 ∷ []); room = marks.room } →
    (pool_of four marks' cells ≡ taken (pool_of bytes marks cells) size (Some at)) × IsStore four marks' cells head3
placed bytes marks two three four marks' cells head cells2 head2 head3 last at size need rest end s c l le n f small next cut r e2 h2 e3 h3 e4 em =
    let q : Fit bytes.set cells head (marked 0 marks.set) last at c.before c.after = fit (λ (r : FreeRun). r.cells < need) bytes marks cells head last at s c l in
    let p = passed bytes.set cells head (marked 0 marks.set) c.before c.after last s.laid.apart c.is c.path in
    let w : Written bytes.set (put (cond (last == cells) two.set (put two.set (32 * last + 8) (little_bytes 8 rest))) (32 * at) (little_bytes 8 size)) cells (cond (last == cells) rest head) head (marked 0 marks.set) last at size need rest =
    written bytes.set two.set cells head (marked 0 marks.set) last at size need rest (last_within bytes.set cells (marked 0 marks.set) last c.before p)
    (λ h. lower bytes.set cells (marked 0 marks.set) last at q.rising.middle cells c.before p q.rising.left (omega (arith, q.rising.right.0, q.first)) h) q.clear n f small next cut in
    let new : List ℕ = put (cond (last == cells) two.set (put two.set (32 * last + 8) (little_bytes 8 rest))) (32 * at) (little_bytes 8 size) in
    let t : TakenAt bytes.set new marks.set (put (extended marks.set end) at (1 ∷ [])) cells (cond (last == cells) rest head) at size = taken_at bytes marks new cells (cond (last == cells) rest head) head last at size need rest end s c l le n f w in
    let g3 : three ≡ record { set = cond (last == cells) two.set (put two.set (32 * last + 8) (little_bytes 8 rest)); room = two.room } =
    e3 ∙ ap (λ (k : ℕ). record { set = cond (last == k) two.set (put two.set (32 * last + 8) (little_bytes 8 rest)); room = two.room }) e2 in
    let g4 : four ≡ record { set = new; room = two.room } = e4 ∙ ap (λ (b : Bytes). record { set = put b.set (32 * at) (little_bytes 8 size); room = b.room }) g3 in
    let gh : head3 ≡ cond (last == cells) rest head = h3 ∙ ap (λ (k : ℕ). cond (last == k) rest head2) e2 ∙ ap (λ (k : ℕ). cond (last == cells) rest k) h2 in (
      ap (λ (b : Bytes). pool_of b marks' cells) g4 ∙ ap (λ (m : Bytes). pool_of (record { set = new; room = two.room }) m cells) em ∙ ap (λ (bs : List Block). record { cells = cells; blocks = bs; lies = None }) t.blocks,
      subst (λ (k : ℕ). IsStore four marks' cells k) (sym gh)
          (subst (λ (b : Bytes). IsStore b marks' cells (cond (last == cells) rest head)) (sym g4)
          (subst (λ (m : Bytes). IsStore (record { set = new; room = two.room }) m cells (cond (last == cells) rest head)) (sym em)
          (record { laid = t.laid; room = r ∙ s.room; marks_room = s.marks_room; some = s.some; few = s.few }))),
    )

-- ---- what each step of it needs

pub lead_within : (bytes marks : Bytes) (cells head last at need : ℕ) → IsStore bytes marks cells head → Scan (λ (r : FreeRun). r.cells < need) bytes.set cells head (runs_of bytes marks cells) last at → last ≤ cells
lead_within bytes marks cells head last at need s c = last_within bytes.set cells (marked 0 marks.set) last c.before (passed bytes.set cells head (marked 0 marks.set) c.before c.after last s.laid.apart c.is c.path)

pub lead_set : (bytes marks : Bytes) (cells head last at need : ℕ) → IsStore bytes marks cells head → Scan (λ (r : FreeRun). r.cells < need) bytes.set cells head (runs_of bytes marks cells) last at → at < cells → last < cells → 32 * last + 16 ≤ length bytes.set
lead_set bytes marks cells head last at need s c l h =
    let q : Fit bytes.set cells head (marked 0 marks.set) last at c.before c.after = fit (λ (r : FreeRun). r.cells < need) bytes marks cells head last at s c l in
    (lower bytes.set cells (marked 0 marks.set) last at q.rising.middle cells c.before (passed bytes.set cells head (marked 0 marks.set) c.before c.after last s.laid.apart c.is c.path) q.rising.left (omega (arith, q.rising.right.0, q.first)) h).set

pub run_set : (bytes marks : Bytes) (cells head last at need : ℕ) → IsStore bytes marks cells head → Scan (λ (r : FreeRun). r.cells < need) bytes.set cells head (runs_of bytes marks cells) last at → at < cells → 32 * at + 16 ≤ length bytes.set
run_set bytes marks cells head last at need s c l = (fit (λ (r : FreeRun). r.cells < need) bytes marks cells head last at s c l).set

pub run_within : (bytes marks : Bytes) (cells head last at need : ℕ) → IsStore bytes marks cells head → Scan (λ (r : FreeRun). r.cells < need) bytes.set cells head (runs_of bytes marks cells) last at → at < cells → at + word bytes.set (32 * at) ≤ cells
run_within bytes marks cells head last at need s c l = (fit (λ (r : FreeRun). r.cells < need) bytes marks cells head last at s c l).within

pub header_set : (two : List ℕ) (cells last to at : ℕ) → (last < cells → 32 * last + 16 ≤ length two) → last ≤ cells → at ≤ length two → at ≤ length (cond (last == cells) two (put two (32 * last + 8) (little_bytes 8 to)))
header_set two cells last to at s w h =
    elim (cases_eq last cells) [
      | inl e ↦ rw (eq-eqb last cells e) h
      | inr e ↦ rw (ne_eqb last cells e) (omega (arith, length-put two (little_bytes 8 to) (32 * last + 8) (let n : 32 * last + 8 ≤ length two = omega (arith, s (omega (arith, e))) in n)))
    ]

-- ---- where the block is

pub lowest_place : (bytes marks : Bytes) (cells head last at size need : ℕ) → IsStore bytes marks cells head → (c : Scan (λ (r : FreeRun). r.cells < need) bytes.set cells head (runs_of bytes marks cells) last at) → at < cells → need ≡ cells_for size →
    need ≤ word bytes.set (32 * at) → Some at ≡ lowest_fit cells (cells_for size) 0 (blocks_in bytes.set marks.set)
lowest_place bytes marks cells head last at size need s c l n f =
    let q : Fit bytes.set cells head (marked 0 marks.set) last at c.before c.after = fit (λ (r : FreeRun). r.cells < need) bytes marks cells head last at s c l in
    let b : behind bytes.set 0 q.between.left ≡ at = sym q.between.first ∙ sym q.first in
    let end : next_start cells q.between.right ≡ at + word bytes.set (32 * at) = sym q.between.end ∙ omega (arith, q.first, q.cells_is) in
    sym (ap (λ (k : ℕ). lowest_fit cells k 0 (blocks_in bytes.set marks.set)) (sym n)
    ∙ ap (λ (xs : List ℕ). lowest_fit cells need 0 (map (block_in bytes.set) xs)) q.between.is
    ∙ fit-behind bytes.set cells need 0 q.between.left q.between.right (omega (arith, n)) (subst (AllByRecursion (λ (r : FreeRun). r.cells < need)) q.between.before_is c.passed) (omega arith)
    ∙ ap Some b)
