-- A block that is given back: its cells join the free runs beside them.
use Rattle.std.proofs.Common.{◌≡◌, ℕ, ◌+◌, ◌-◌, ◌*◌, ◌^◌, ◌<◌, ◌≤◌, ◌==◌, ◌⊎◌, inl, inr, cond, None, List, [], ◌∷◌, ◌++◌, length, map, refl, sym, ap, ◌∙◌, append_assoc, arith, subst, take, drop, get_or}
use Rattle.std.specs.List.{AllByRecursion}
use Rattle.std.proofs.lemmas.Bool.{cases_lt, cases_eq}
use Rattle.std.proofs.lemmas.List.{same_from_push, append-nil, length-take-le}
use Rattle.byteorder.specs.Endian.{little_bytes}
use Rattle.raw_pool.specs.Bytes.{Bytes, put, word}
use Rattle.raw_pool.specs.Blocks.{Block, without_block}
use Rattle.raw_pool.specs.FreeList.{FreeRun, IsRun, AreApart, AreLinked, IsLaidOut, block_in, cells_in, blocks_in, gap, gaps, behind, free_runs, link, marked}
use Rattle.raw_pool.specs.Searches.{IsPath, IsStore, Scan, pool_of, runs_of, with_link}
use Rattle.raw_pool.proofs.Runs.{AreRising, AreSame, RisesInTwo, rising-split, rising-le, rising-lower, rising-runs, rising-gap, AreClear, clear-append, clear-left, clear-right, clear-without, gap-some, gap-none, gaps-same, behind-same, behind-le, free_runs-append, free_runs-first, beyond, beyond-same, next_start, same-left, same-right, apart-same, apart-right, apart-join, apart-lower, apart-le, apart-next}
use Rattle.raw_pool.proofs.Links.{EndsWith, path-last, path-end, relinked, linked-kept, link-run, next_rises}
use Rattle.raw_pool.proofs.Puts.{put_before, length-put, word-same, word-put}
use Rattle.raw_pool.proofs.Places.{Passed, passed, LinkIsSet, link_set, changes-then}
use Rattle.raw_pool.proofs.Marks.{marked_cell, mark_removed, marked-high}
use Rattle.raw_pool.proofs.Listed.{map-same, without-between}
use Rattle.raw_pool.proofs.Takes.{link-same}
use Rattle.raw_pool.proofs.Changes.{Changes, no_changes, changes-cells, same-blocks, keeps-below, keeps-above}

-- ---- the runs behind the block

-- What lies behind the block once it is free: the free cells behind it end where the next block begins, and the list goes on there.
pub record Merged (bytes : List ℕ) (cells head : ℕ) (rs : List ℕ) (end after : ℕ) : Type 0 where
  pub ends : end ≡ next_start cells rs
  pub linked : AreLinked bytes cells head after (beyond bytes cells rs)

past : (bytes : List ℕ) (cells head from next : ℕ) (rs : List ℕ) → AreApart bytes cells from rs → AreLinked bytes cells head next (beyond bytes cells rs) → next_start cells rs ≤ from → next ≡ from → next < cells → ⊥
past bytes cells head from next [] a m g e h = omega arith
past bytes cells head from next (c ∷ rs) a m g e h =
    let n = next_rises bytes cells head (c + cells_in bytes c) next (free_runs bytes cells (c + cells_in bytes c) rs) (rising-runs bytes cells (c + cells_in bytes c) rs a.2) m in
    omega (arith, n.0)

-- a run that begins just behind the block
pub merged-run : (bytes : List ℕ) (cells head from next : ℕ) (rs : List ℕ) → AreApart bytes cells from rs → AreLinked bytes cells head next (free_runs bytes cells from rs) → next ≡ from → next < cells →
    Merged bytes cells head rs (next + word bytes (32 * next)) (link bytes cells head next)
merged-run bytes cells head from next rs a l e h =
    elim (cases_lt from (next_start cells rs)) [
      | inl s ↦
          let m : AreLinked bytes cells head next (record { first = from; cells = next_start cells rs - from } ∷ beyond bytes cells rs) =
          subst (AreLinked bytes cells head next) (free_runs-first bytes cells from rs ∙ ap (λ (xs : List FreeRun). xs ++ beyond bytes cells rs) (gap-some from (next_start cells rs) s)) l in
          let w : word bytes (32 * next) ≡ next_start cells rs - from = ap (λ (k : ℕ). word bytes (32 * k)) e ∙ m.1.0 in
          record { ends = omega arith; linked = subst (λ (k : ℕ). AreLinked bytes cells head (link bytes cells head k) (beyond bytes cells rs)) (sym e) m.2 }
      | inr g ↦
          let m : AreLinked bytes cells head next (beyond bytes cells rs) =
          subst (AreLinked bytes cells head next) (free_runs-first bytes cells from rs ∙ ap (λ (xs : List FreeRun). xs ++ beyond bytes cells rs) (gap-none from (next_start cells rs) g)) l in
          absurd (past bytes cells head from next rs a m g e h)
    ]

-- no run begins just behind the block
pub merged-none : (bytes : List ℕ) (cells head from next : ℕ) (rs : List ℕ) → AreApart bytes cells from rs → AreLinked bytes cells head next (free_runs bytes cells from rs) → (next ≡ from → next < cells → ⊥) → Merged bytes cells head rs from next
merged-none bytes cells head from next rs a l never =
    elim (cases_lt from (next_start cells rs)) [
      | inl s ↦
          let m : AreLinked bytes cells head next (record { first = from; cells = next_start cells rs - from } ∷ beyond bytes cells rs) =
          subst (AreLinked bytes cells head next) (free_runs-first bytes cells from rs ∙ ap (λ (xs : List FreeRun). xs ++ beyond bytes cells rs) (gap-some from (next_start cells rs) s)) l in
          absurd (never m.0 (omega (arith, m.0, s, (apart-next bytes cells from rs a).1)))
      | inr g ↦
          let n = apart-next bytes cells from rs a in
          record {
            ends = omega (arith, n.0);
            linked = subst (AreLinked bytes cells head next) (free_runs-first bytes cells from rs ∙ ap (λ (xs : List FreeRun). xs ++ beyond bytes cells rs) (gap-none from (next_start cells rs) g)) l;
          }
    ]

-- ---- where the walk has come to

same-runs : (at : ℕ) (xs ys zs ws : List FreeRun) → xs ++ ys ≡ zs ++ ws → AllByRecursion (λ (r : FreeRun). r.first < at) xs → AllByRecursion (λ (r : FreeRun). r.first < at) zs →
    AllByRecursion (λ (r : FreeRun). at ≤ r.first) ys → AllByRecursion (λ (r : FreeRun). at ≤ r.first) ws → (xs ≡ zs) × (ys ≡ ws)
same-runs at [] ys [] ws e a b c d = (refl, e)
same-runs at [] [] (z ∷ zs) ws e a b c d = absurd (let f : [] ≡ z ∷ (zs ++ ws) = e in cc)
same-runs at [] (y ∷ ys) (z ∷ zs) ws e a b c d = let f : y ≡ z = cc in let k : y.first ≡ z.first = ap (λ (r : FreeRun). r.first) f in absurd (omega (arith, b.0, c.0))
same-runs at (x ∷ xs) ys [] [] e a b c d = absurd (let f : x ∷ (xs ++ ys) ≡ [] = e in cc)
same-runs at (x ∷ xs) ys [] (w ∷ ws) e a b c d = let f : x ≡ w = cc in let k : x.first ≡ w.first = ap (λ (r : FreeRun). r.first) f in absurd (omega (arith, a.0, d.0))
same-runs at (x ∷ xs) ys (z ∷ zs) ws e a b c d =
    let f : x ≡ z = cc in
    let g : xs ++ ys ≡ zs ++ ws = cc in
    let i = same-runs at xs ys zs ws g a.1 b.1 c d in
    (ap (λ (k : FreeRun). k ∷ xs) f ∙ ap (λ (cs : List FreeRun). z ∷ cs) i.0, i.1)

rising-high : (from limit at : ℕ) (rs : List FreeRun) → AreRising from limit rs → at ≤ from → AllByRecursion (λ (r : FreeRun). at ≤ r.first) rs
rising-high from limit at [] a h = tt
rising-high from limit at (r ∷ rs) a h = (omega (arith, a.0), rising-high (r.first + r.cells) limit at rs a.2 (omega (arith, a.0)))

rising-below : (from limit : ℕ) (rs : List FreeRun) → AreRising from limit rs → AllByRecursion (λ (r : FreeRun). r.first < limit) rs
rising-below from limit [] a = tt
rising-below from limit (r ∷ rs) a = (omega (arith, a.1, rising-le (r.first + r.cells) limit rs a.2), rising-below (r.first + r.cells) limit rs a.2)

-- the runs before the blocks, and behind the last of them up to a cell
pub rising-gaps : (bytes : List ℕ) (cells from to : ℕ) (ls bs : List ℕ) → AreApart bytes cells from (ls ++ bs) → behind bytes from ls ≤ to → AreRising from to (gaps bytes from ls ++ gap (behind bytes from ls) to)
rising-gaps bytes cells from to [] bs a h = rw (← (append-nil (gap from to))) (rising-gap from to to [] h (omega arith))
rising-gaps bytes cells from to (c ∷ ls) bs a h =
    rw (append_assoc (gap from c) (gaps bytes (c + cells_in bytes c) ls) (gap (behind bytes (c + cells_in bytes c) ls) to))
    (rising-gap from c to (gaps bytes (c + cells_in bytes c) ls ++ gap (behind bytes (c + cells_in bytes c) ls) to) a.0
    (rising-lower c (c + cells_in bytes c) to (gaps bytes (c + cells_in bytes c) ls ++ gap (behind bytes (c + cells_in bytes c) ls) to) (omega arith) (rising-gaps bytes cells (c + cells_in bytes c) to ls bs a.2 h)))

-- each of the runs before the blocks ends before the last of them does
gaps-end : (bytes : List ℕ) (cells from : ℕ) (ls bs : List ℕ) → AreApart bytes cells from (ls ++ bs) → AllByRecursion (λ (r : FreeRun). r.first + r.cells < behind bytes from ls) (gaps bytes from ls)
gaps-end bytes cells from [] bs a = tt
gaps-end bytes cells from (c ∷ ls) bs a =
    let n = behind-le bytes cells (c + cells_in bytes c) ls bs a.2 in
    let i = gaps-end bytes cells (c + cells_in bytes c) ls bs a.2 in
    elim (cases_lt from c) [
      | inl l ↦ rw (gap-some from c l) (omega (arith, n), i)
      | inr g ↦ rw (gap-none from c g) i
    ]

after-high : (bytes : List ℕ) (cells head next cell low : ℕ) (rs : List FreeRun) → AreLinked bytes cells head next rs → cell ≤ next → AreRising low cells rs → AllByRecursion (λ (r : FreeRun). cell ≤ r.first) rs
after-high bytes cells head next cell low [] l h a = tt
after-high bytes cells head next cell low (r ∷ rs) l h a = (omega (arith, l.0), rising-high (r.first + r.cells) cells cell rs a.2 (omega (arith, l.0)))

pub record Parted (bytes : List ℕ) (cells : ℕ) (ls : List ℕ) (cell : ℕ) (rs : List ℕ) (before after : List FreeRun) : Type 0 where
  pub left : before ≡ gaps bytes 0 ls ++ gap (behind bytes 0 ls) cell
  pub right : after ≡ free_runs bytes cells (cell + cells_in bytes cell) rs

pub parted : (bytes : List ℕ) (cells head : ℕ) (ls : List ℕ) (cell : ℕ) (rs : List ℕ) (before after : List FreeRun) (next : ℕ) → AreApart bytes cells 0 (ls ++ cell ∷ rs) → free_runs bytes cells 0 (ls ++ cell ∷ rs) ≡ before ++ after →
    AllByRecursion (λ (r : FreeRun). r.first < cell) before → AreLinked bytes cells head next after → cell ≤ next → Parted bytes cells ls cell rs before after
parted bytes cells head ls cell rs before after next a e p l h =
    let n : ℕ = cell + cells_in bytes cell in
    let b : AreApart bytes cells (behind bytes 0 ls) (cell ∷ rs) = apart-right bytes cells 0 ls (cell ∷ rs) a in
    let f : before ++ after ≡ (gaps bytes 0 ls ++ gap (behind bytes 0 ls) cell) ++ free_runs bytes cells n rs =
    sym e ∙ free_runs-append bytes cells 0 ls (cell ∷ rs) ∙ ap (λ (xs : List FreeRun). gaps bytes 0 ls ++ xs) (free_runs-first bytes cells (behind bytes 0 ls) (cell ∷ rs))
    ∙ sym (append_assoc (gaps bytes 0 ls) (gap (behind bytes 0 ls) cell) (free_runs bytes cells n rs)) in
    let r : RisesInTwo 0 cells before after = rising-split 0 cells before after (subst (AreRising 0 cells) e (rising-runs bytes cells 0 (ls ++ cell ∷ rs) a)) in
    let s = same-runs cell before after (gaps bytes 0 ls ++ gap (behind bytes 0 ls) cell) (free_runs bytes cells n rs) f p
    (rising-below 0 cell (gaps bytes 0 ls ++ gap (behind bytes 0 ls) cell) (rising-gaps bytes cells 0 cell ls (cell ∷ rs) a b.0))
    (after-high bytes cells head next cell r.middle after l h r.right)
    (rising-high n cells cell (free_runs bytes cells n rs) (rising-runs bytes cells n rs b.2) (omega arith)) in
    record { left = s.0; right = s.1 }

-- ---- the list once the cells are free

rising-beyond : (bytes : List ℕ) (cells place : ℕ) (rs : List ℕ) → place < next_start cells rs → AreApart bytes cells place rs → AreRising (place + 1) cells (beyond bytes cells rs)
rising-beyond bytes cells place [] h a = omega arith
rising-beyond bytes cells place (c ∷ rs) h a =
    rising-lower (place + 1) (c + cells_in bytes c) cells (free_runs bytes cells (c + cells_in bytes c) rs) (omega arith) (rising-runs bytes cells (c + cells_in bytes c) rs a.2)

pub freed : (old new : List ℕ) (cells head' head lead place end after : ℕ) (ls rs : List ℕ) → AreApart old cells 0 (ls ++ rs) → AreSame old new (ls ++ rs) → behind old 0 ls ≡ place → place < end → place < cells →
    IsPath old cells head cells (gaps old 0 ls) lead → Changes old new cells lead place (place + 1) → (lead < cells → head' ≡ head) → link new cells head' lead ≡ place →
    word new (32 * place) ≡ end - place → word new (32 * place + 8) ≡ after → 32 * place + 16 ≤ length new → Merged old cells head rs end after →
    AreApart new cells 0 (ls ++ rs) × AreLinked new cells head' head' (free_runs new cells 0 (ls ++ rs))
freed old new cells head' head lead place end after ls rs a same b up within p c hd leads w1 w2 set m =
    let sl : AreSame old new ls = same-left old new ls rs same in
    let sr : AreSame old new rs = same-right old new ls rs same in
    let a' : AreApart new cells 0 (ls ++ rs) = apart-same old new (ls ++ rs) cells 0 same c.longer a in
    let ar : AreApart old cells place rs = subst (λ (k : ℕ). AreApart old cells k rs) b (apart-right old cells 0 ls rs a) in
    let runs : free_runs new cells 0 (ls ++ rs) ≡ gaps old 0 ls ++ record { first = place; cells = end - place } ∷ beyond old cells rs =
    free_runs-append new cells 0 ls rs
    ∙ ap (λ (xs : List FreeRun). xs ++ free_runs new cells (behind new 0 ls) rs) (gaps-same old new ls 0 sl)
    ∙ ap (λ (xs : List FreeRun). gaps old 0 ls ++ xs)
    (ap (λ (k : ℕ). free_runs new cells k rs) (behind-same old new ls 0 sl ∙ b)
    ∙ free_runs-first new cells place rs
    ∙ ap (λ (k : ℕ). gap place k ++ beyond new cells rs) (sym m.ends)
    ∙ ap (λ (xs : List FreeRun). xs ++ beyond new cells rs) (gap-some place end up)
    ∙ ap (λ (xs : List FreeRun). record { first = place; cells = end - place } ∷ xs) (beyond-same old new rs cells sr)) in
    let rising : AreRising 0 place (gaps old 0 ls ++ gap (behind old 0 ls) place) = rising-gaps old cells 0 place ls rs a (omega arith) in
    let rising' : AreRising 0 place (gaps old 0 ls) = subst (AreRising 0 place) (ap (λ (xs : List FreeRun). gaps old 0 ls ++ xs) (gap-none (behind old 0 ls) place (omega arith)) ∙ append-nil (gaps old 0 ls)) rising in
    let low : lead < cells → lead < place = λ h. elim (path-end old cells head cells 0 place (gaps old 0 ls) lead rising' (omega arith) p) [ inl z ↦ absurd (omega (arith, z.1)) | inr z ↦ z.1 ] in
    let rest : AreLinked new cells head' after (beyond old cells rs) =
    linked-kept old new cells head' head after (place + 1) (beyond old cells rs) (rising-beyond old cells place rs (omega (arith, m.ends)) ar)
    (keeps-above old new cells lead place (place + 1) c (λ h. omega (arith, low h))) m.linked in (
      a',
      subst (AreLinked new cells head' head') (sym runs)
          (relinked old new cells head' head 0 place lead (gaps old 0 ls) (record { first = place; cells = end - place } ∷ beyond old cells rs) rising' (omega arith)
          (λ h. keeps-below old new cells head' head lead place (place + 1) c h (low h) (hd h)) p
          (leads, (w1, set), subst (λ (k : ℕ). AreLinked new cells head' k (beyond old cells rs)) (sym (link-run new cells head' place within ∙ w2)) rest)),
    )

-- ---- whether the run before the block touches it

pub record Touching (bytes : List ℕ) (cells head : ℕ) (ls : List ℕ) (cell last : ℕ) : Type 0 where
  pub lead : ℕ
  pub path : IsPath bytes cells head cells (gaps bytes 0 ls) lead
  pub leads : link bytes cells head lead ≡ last
  pub behind_is : behind bytes 0 ls ≡ last

last-of : (P : FreeRun → Type 0) (xs : List FreeRun) (r : FreeRun) → AllByRecursion P (xs ++ r ∷ []) → P r
last-of P [] r a = a.0
last-of P (x ∷ xs) r a = last-of P xs r a.1

-- the run passed last is the one that ends at the block, if there is one
pub touching : (bytes : List ℕ) (cells head : ℕ) (ls : List ℕ) (cell : ℕ) (bs : List ℕ) (before front : List FreeRun) (run : FreeRun) (last : ℕ) → AreApart bytes cells 0 (ls ++ bs) → behind bytes 0 ls ≤ cell →
    before ≡ gaps bytes 0 ls ++ gap (behind bytes 0 ls) cell → before ≡ front ++ run ∷ [] → last ≡ run.first → IsRun bytes run → last + word bytes (32 * last) ≡ cell → IsPath bytes cells head cells before last → Touching bytes cells head ls cell last
touching bytes cells head ls cell bs before front run last a h e f i r t p =
    elim (cases_lt (behind bytes 0 ls) cell) [
      | inl l ↦
          let g : gap (behind bytes 0 ls) cell ≡ record { first = behind bytes 0 ls; cells = cell - behind bytes 0 ls } ∷ [] = gap-some (behind bytes 0 ls) cell l in
          let s = same_from_push front (gaps bytes 0 ls) run (record { first = behind bytes 0 ls; cells = cell - behind bytes 0 ls }) (sym f ∙ e ∙ ap (λ (xs : List FreeRun). gaps bytes 0 ls ++ xs) g) in
          let q : EndsWith bytes cells head cells front last run = path-last bytes cells head cells front run last (subst (λ (xs : List FreeRun). IsPath bytes cells head cells xs last) f p) in
          record { lead = q.middle; path = subst (λ (xs : List FreeRun). IsPath bytes cells head cells xs q.middle) s.0 q.path; leads = q.leads ∙ sym i; behind_is = sym (i ∙ ap (λ (x : FreeRun). x.first) s.1) }
      | inr g ↦
          let n : before ≡ gaps bytes 0 ls = e ∙ ap (λ (xs : List FreeRun). gaps bytes 0 ls ++ xs) (gap-none (behind bytes 0 ls) cell g) ∙ append-nil (gaps bytes 0 ls) in
          let k : AllByRecursion (λ (x : FreeRun). x.first + x.cells < behind bytes 0 ls) (front ++ run ∷ []) = subst (AllByRecursion (λ (x : FreeRun). x.first + x.cells < behind bytes 0 ls)) (sym n ∙ f) (gaps-end bytes cells 0 ls bs a) in
          let z : run.first + run.cells < behind bytes 0 ls = last-of (λ (x : FreeRun). x.first + x.cells < behind bytes 0 ls) front run k in
          let w : word bytes (32 * last) ≡ run.cells = ap (λ (j : ℕ). word bytes (32 * j)) i ∙ r.0 in
          absurd (omega arith)
    ]

-- no run ends at the block
pub untouched : (bytes : List ℕ) (cells head : ℕ) (ls : List ℕ) (cell : ℕ) (before : List FreeRun) (last : ℕ) → behind bytes 0 ls ≤ cell → cell < cells → before ≡ gaps bytes 0 ls ++ gap (behind bytes 0 ls) cell → IsPath bytes cells head cells before last →
    (last < cells → last + word bytes (32 * last) ≡ cell → ⊥) → (behind bytes 0 ls ≡ cell) × (before ≡ gaps bytes 0 ls)
untouched bytes cells head ls cell before last h k e p never =
    elim (cases_lt (behind bytes 0 ls) cell) [
      | inl l ↦
          let g : gap (behind bytes 0 ls) cell ≡ record { first = behind bytes 0 ls; cells = cell - behind bytes 0 ls } ∷ [] = gap-some (behind bytes 0 ls) cell l in
          let q : EndsWith bytes cells head cells (gaps bytes 0 ls) last (record { first = behind bytes 0 ls; cells = cell - behind bytes 0 ls }) =
          path-last bytes cells head cells (gaps bytes 0 ls) (record { first = behind bytes 0 ls; cells = cell - behind bytes 0 ls }) last (subst (λ (xs : List FreeRun). IsPath bytes cells head cells xs last) (e ∙ ap (λ (xs : List FreeRun). gaps bytes 0 ls ++ xs) g) p) in
          let w : word bytes (32 * last) ≡ cell - behind bytes 0 ls = ap (λ (j : ℕ). word bytes (32 * j)) q.end ∙ q.run.0 in
          absurd (never (omega (arith, q.end)) (omega (arith, q.end)))
      | inr g ↦ (omega arith, e ∙ ap (λ (xs : List FreeRun). gaps bytes 0 ls ++ xs) (gap-none (behind bytes 0 ls) cell g) ∙ append-nil (gaps bytes 0 ls))
    ]

-- ---- the store once the block is free

pub record Freed (old new marks : List ℕ) (cells head' cell : ℕ) : Type 0 where
  pub laid : IsLaidOut new (put marks cell (0 ∷ [])) cells head'
  pub blocks : blocks_in new (put marks cell (0 ∷ [])) ≡ without_block cell (blocks_in old marks)

freed_marks : (old new marks : List ℕ) (cells head' cell : ℕ) → cell < length marks → (get_or marks cell 0 ≡ 0 → ⊥) → AreSame old new (marked 0 (take cell marks) ++ marked (cell + 1) (drop (cell + 1) marks)) →
    AreApart new cells 0 (marked 0 (take cell marks) ++ marked (cell + 1) (drop (cell + 1) marks)) × AreLinked new cells head' head' (free_runs new cells 0 (marked 0 (take cell marks) ++ marked (cell + 1) (drop (cell + 1) marks))) →
    Freed old new marks cells head' cell
freed_marks old new marks cells head' cell h z same f =
    let ls : List ℕ = marked 0 (take cell marks) in
    let rs : List ℕ = marked (cell + 1) (drop (cell + 1) marks) in
    let m : marked 0 (put marks cell (0 ∷ [])) ≡ ls ++ rs = mark_removed marks cell h in
    let low : AllByRecursion (λ c. c < cell) ls = marked-high 0 cell (take cell marks) (omega (arith, length-take-le cell marks (omega arith))) in
    record {
      laid = record {
        apart = subst (AreApart new cells 0) (sym m) f.0;
        linked = subst (λ (xs : List ℕ). AreLinked new cells head' head' (free_runs new cells 0 xs)) (sym m) f.1;
      };
      blocks = ap (map (block_in new)) m ∙ map-same old new (ls ++ rs) same ∙ sym (without-between old cell ls rs low) ∙ ap (λ (xs : List ℕ). without_block cell (map (block_in old) xs)) (sym (marked_cell marks cell h z));
    }

gaps-rising : (bytes : List ℕ) (cells to : ℕ) (ls bs : List ℕ) → AreApart bytes cells 0 (ls ++ bs) → behind bytes 0 ls ≡ to → AreRising 0 to (gaps bytes 0 ls)
gaps-rising bytes cells to ls bs a b =
    subst (AreRising 0 to) (ap (λ (xs : List FreeRun). gaps bytes 0 ls ++ xs) (gap-none (behind bytes 0 ls) to (omega arith)) ∙ append-nil (gaps bytes 0 ls)) (rising-gaps bytes cells 0 to ls bs a (omega arith))

-- what is known before anything is written
pub record Freeing (bytes marks : List ℕ) (cells head cell last end after : ℕ) (before : List FreeRun) : Type 0 where
  pub whole : AreApart bytes cells 0 (marked 0 (take cell marks) ++ cell ∷ marked (cell + 1) (drop (cell + 1) marks))
  pub rest : AreApart bytes cells 0 (marked 0 (take cell marks) ++ marked (cell + 1) (drop (cell + 1) marks))
  pub low : behind bytes 0 (marked 0 (take cell marks)) ≤ cell
  pub left : before ≡ gaps bytes 0 (marked 0 (take cell marks)) ++ gap (behind bytes 0 (marked 0 (take cell marks))) cell
  pub merged : Merged bytes cells head (marked (cell + 1) (drop (cell + 1) marks)) end after
  pub set : 32 * (cell + cells_in bytes cell) ≤ length bytes
  pub up : cell + cells_in bytes cell ≤ end
  pub within : end ≤ cells
  pub path : IsPath bytes cells head cells before last
  pub passed_run : ((before ≡ []) × (last ≡ cells)) ⊎ Passed bytes cells (marked 0 (take cell marks) ++ cell ∷ marked (cell + 1) (drop (cell + 1) marks)) before last
  pub clear : AreClear bytes cell (cell + 1) (marked 0 (take cell marks) ++ marked (cell + 1) (drop (cell + 1) marks))

pub freeing : (bytes marks : Bytes) (cells head cell last next end after : ℕ) → IsStore bytes marks cells head → cell < length marks.set → (get_or marks.set cell 0 ≡ 0 → ⊥) →
    (c : Scan (λ (r : FreeRun). r.first < cell) bytes.set cells head (runs_of bytes marks cells) last next) → cell ≤ next →
    (next ≡ cell + cells_in bytes.set cell → next < cells → (end ≡ next + word bytes.set (32 * next)) × (after ≡ link bytes.set cells head next)) →
    ((next ≡ cell + cells_in bytes.set cell → next < cells → ⊥) → (end ≡ cell + cells_in bytes.set cell) × (after ≡ next)) →
    Freeing bytes.set marks.set cells head cell last end after c.before
freeing bytes marks cells head cell last next end after s h z c g here_is never =
    let old : List ℕ = bytes.set in
    let n : ℕ = cell + cells_in old cell in
    let ls : List ℕ = marked 0 (take cell marks.set) in
    let rs : List ℕ = marked (cell + 1) (drop (cell + 1) marks.set) in
    let f : marked 0 marks.set ≡ ls ++ cell ∷ rs = marked_cell marks.set cell h z in
    let a : AreApart old cells 0 (ls ++ cell ∷ rs) = subst (AreApart old cells 0) f s.laid.apart in
    let is : free_runs old cells 0 (ls ++ cell ∷ rs) ≡ c.before ++ c.after = ap (free_runs old cells 0) (sym f) ∙ c.is in
    let b : AreApart old cells (behind old 0 ls) (cell ∷ rs) = apart-right old cells 0 ls (cell ∷ rs) a in
    let p : Parted old cells ls cell rs c.before c.after = parted old cells head ls cell rs c.before c.after next a is c.passed c.linked g in
    let l : AreLinked old cells head next (free_runs old cells n rs) = subst (AreLinked old cells head next) p.right c.linked in
    let here : (next ≡ n) × (next < cells) → Merged old cells head rs end after =
    λ q. let y = here_is q.0 q.1 in subst (λ (k : ℕ). Merged old cells head rs k after) (sym y.0) (subst (λ (k : ℕ). Merged old cells head rs (next + word old (32 * next)) k) (sym y.1) (merged-run old cells head n next rs b.2 l q.0 q.1)) in
    let none : (next ≡ n → next < cells → ⊥) → Merged old cells head rs end after =
    λ q. let y = never q in subst (λ (k : ℕ). Merged old cells head rs k after) (sym y.0) (subst (λ (k : ℕ). Merged old cells head rs n k) (sym y.1) (merged-none old cells head n next rs b.2 l q)) in
    let m : Merged old cells head rs end after =
    elim (cases_eq next n) [
      | inl e ↦ elim (cases_lt next cells) [ inl u ↦ here (e, u) | inr u ↦ none (λ x y. omega arith) ]
      | inr e ↦ none (λ x y. e x)
    ] in
    let t = apart-next old cells n rs b.2 in
    record {
      whole = a;
      rest = apart-join old cells 0 ls (cell ∷ rs) rs a (apart-lower old cells (behind old 0 ls) n rs (omega (arith, b.0)) b.2);
      low = b.0;
      left = p.left;
      merged = m;
      set = b.1;
      up = omega (arith, t.0, m.ends);
      within = omega (arith, t.1, m.ends);
      path = c.path;
      passed_run = passed old cells head (ls ++ cell ∷ rs) c.before c.after last a is c.path;
      clear = clear-append old cell (cell + 1) ls rs (clear-left old cells 0 cell (cell + 1) ls (cell ∷ rs) a b.0) (clear-right old cells n cell (cell + 1) rs b.2 (omega arith));
    }

-- a run touches the block: it grows
pub freed-touching : (old marks : List ℕ) (cells head cell last end after : ℕ) (before : List FreeRun) → Freeing old marks cells head cell last end after before → cell < length marks → (get_or marks cell 0 ≡ 0 → ⊥) → last < cells →
    last + word old (32 * last) ≡ cell → end < 2 ^ 64 → after < 2 ^ 64 → Freed old (put (put old (32 * last) (little_bytes 8 (end - last))) (32 * last + 8) (little_bytes 8 after)) marks cells head cell
freed-touching old marks cells head cell last end after before f h z l t small next =
    let ls : List ℕ = marked 0 (take cell marks) in
    let rs : List ℕ = marked (cell + 1) (drop (cell + 1) marks) in
    elim f.passed_run [
      | inl p ↦ absurd (omega (arith, p.1))
      | inr p ↦
          let i : IsRun old p.run = p.run_is in
          let w : Touching old cells head ls cell last = touching old cells head ls cell (cell ∷ rs) before p.front p.run last f.whole f.low f.left p.is p.first p.run_is t f.path in
          let one : List ℕ = put old (32 * last) (little_bytes 8 (end - last)) in
          let two : List ℕ = put one (32 * last + 8) (little_bytes 8 after) in
          let s0 : 32 * last + 16 ≤ length old = omega (arith, i.1, p.first) in
          let n1 : 32 * last + 8 ≤ length one = omega (arith, length-put old (little_bytes 8 (end - last)) (32 * last) (let y : 32 * last ≤ length old = omega arith in y)) in
          let n2 : 32 * last + 16 ≤ length two = omega (arith, length-put one (little_bytes 8 after) (32 * last + 8) n1) in
          let c1 : Changes old one cells cells last (last + 1) = changes-cells old old (little_bytes 8 (end - last)) cells cells last (last + 1) (32 * last) (no_changes old cells cells last (last + 1)) (omega arith) (omega arith) (omega arith) in
          let c2 : Changes old two cells cells last (last + 1) = changes-cells old one (little_bytes 8 after) cells cells last (last + 1) (32 * last + 8) c1 n1 (omega arith) (omega arith) in
          let c3 : Changes old two cells w.lead last (last + 1) = record { longer = c2.longer; parts = λ off m x y. c2.parts off m x (λ r. absurd (omega arith)) } in
          let same : AreSame old two (ls ++ rs) = same-blocks old two cells cells last (last + 1) (ls ++ rs) c2 (clear-without old last (last + 1) ls cell rs p.clear) (λ r. absurd (omega arith)) in
          let rising : AreRising 0 last (gaps old 0 ls) = gaps-rising old cells last ls (cell ∷ rs) f.whole w.behind_is in
          let lead : (w.lead ≡ cells) ⊎ (w.lead < last) = elim (path-end old cells head cells 0 last (gaps old 0 ls) w.lead rising (omega arith) w.path) [ inl y ↦ inl y.1 | inr y ↦ inr y.1 ] in
          let lead_within : w.lead ≤ cells = elim lead [ inl y ↦ omega arith | inr y ↦ omega arith ] in
          let leads : link two cells head w.lead ≡ last =
          link-same old two cells head w.lead lead_within (λ r. c2.parts (32 * w.lead + 8) 8 (inl (elim lead [ inl y ↦ absurd (omega arith) | inr y ↦ omega arith ])) (λ k. absurd (omega arith))) ∙ w.leads in
          freed_marks old two marks cells head cell h z same
          (freed old two cells head head w.lead last end after ls rs f.rest same w.behind_is (omega (arith, f.up, p.some, p.first, i.0, t)) l w.path c3 (λ r. refl) leads
          (word-same one two (32 * last) (put_before one (little_bytes 8 after) (32 * last + 8) (32 * last) 8 n1 (omega arith)) ∙ word-put old (32 * last) (end - last) (omega arith) (omega arith))
          (word-put one (32 * last + 8) after n1 next) n2 f.merged)
    ]

-- no run touches the block: it becomes a run of its own
pub freed-apart : (old marks : List ℕ) (cells head cell last end after : ℕ) (before : List FreeRun) → Freeing old marks cells head cell last end after before → cell < length marks → (get_or marks cell 0 ≡ 0 → ⊥) → last ≤ cells → cells ≤ 2 ^ 28 →
    (last < cells → last + word old (32 * last) ≡ cell → ⊥) → after < 2 ^ 64 →
    Freed old (with_link (put (put old (32 * cell) (little_bytes 8 (end - cell))) (32 * cell + 8) (little_bytes 8 after)) cells last cell) marks cells (cond (last == cells) cell head) cell
freed-apart old marks cells head cell last end after before f h z l few never next =
    let ls : List ℕ = marked 0 (take cell marks) in
    let rs : List ℕ = marked (cell + 1) (drop (cell + 1) marks) in
    let in_cells : cell < cells = omega (arith, f.up, f.within) in
    let u = untouched old cells head ls cell before last f.low in_cells f.left f.path never in
    let one : List ℕ = put old (32 * cell) (little_bytes 8 (end - cell)) in
    let two : List ℕ = put one (32 * cell + 8) (little_bytes 8 after) in
    let head' : ℕ = cond (last == cells) cell head in
    let new : List ℕ = with_link two cells last cell in
    let n0 : 32 * cell + 32 ≤ length old = omega (arith, f.set) in
    let n1 : 32 * cell + 8 ≤ length one = omega (arith, length-put old (little_bytes 8 (end - cell)) (32 * cell) (let y : 32 * cell ≤ length old = omega arith in y)) in
    let n2 : 32 * cell + 16 ≤ length two = omega (arith, length-put one (little_bytes 8 after) (32 * cell + 8) n1) in
    let c1 : Changes old one cells last cell (cell + 1) = changes-cells old old (little_bytes 8 (end - cell)) cells last cell (cell + 1) (32 * cell) (no_changes old cells last cell (cell + 1)) (omega arith) (omega arith) (omega arith) in
    let c2 : Changes old two cells last cell (cell + 1) = changes-cells old one (little_bytes 8 after) cells last cell (cell + 1) (32 * cell + 8) c1 n1 (omega arith) (omega arith) in
    let last_set : last < cells → 32 * last + 16 ≤ length old = λ r. elim f.passed_run [ inl p ↦ absurd (omega (arith, p.1)) | inr p ↦ let i : IsRun old p.run = p.run_is in omega (arith, i.1, p.first) ] in
    let last_clear : last < cells → AreClear old last (last + 1) (ls ++ rs) = λ r. elim f.passed_run [ inl p ↦ absurd (omega (arith, p.1)) | inr p ↦ clear-without old last (last + 1) ls cell rs p.clear ] in
    let i : LinkIsSet two new cells head' head last cell = link_set two cells head last cell l (λ r. omega (arith, last_set r, c2.longer)) (omega arith) in
    let c3 : Changes old new cells last cell (cell + 1) = changes-then old two new cells last cell (cell + 1) c2 i.changes in
    let same : AreSame old new (ls ++ rs) = same-blocks old new cells last cell (cell + 1) (ls ++ rs) c3 f.clear last_clear in
    let path : IsPath old cells head cells (gaps old 0 ls) last = subst (λ (xs : List FreeRun). IsPath old cells head cells xs last) u.1 f.path in
    let rising : AreRising 0 cell (gaps old 0 ls) = gaps-rising old cells cell ls (cell ∷ rs) f.whole u.0 in
    let low : last < cells → last < cell = λ r. elim (path-end old cells head cells 0 cell (gaps old 0 ls) last rising (omega arith) path) [ inl y ↦ absurd (omega (arith, y.1)) | inr y ↦ y.1 ] in
    freed_marks old new marks cells head' cell h z same
    (freed old new cells head' head last cell end after ls rs f.rest same u.0 (omega (arith, f.up)) in_cells path c3 i.kept i.leads
    (word-same two new (32 * cell) (i.changes.parts (32 * cell) 8 (inr (omega arith)) (λ r. inr (omega (arith, low r))))
    ∙ word-same one two (32 * cell) (put_before one (little_bytes 8 after) (32 * cell + 8) (32 * cell) 8 n1 (omega arith)) ∙ word-put old (32 * cell) (end - cell) (omega arith) (omega (arith, f.within)))
    (word-same two new (32 * cell + 8) (i.changes.parts (32 * cell + 8) 8 (inr (omega arith)) (λ r. inr (omega (arith, low r)))) ∙ word-put one (32 * cell + 8) after n1 next)
    (omega (arith, i.changes.longer)) f.merged)

-- ---- what each step of it needs

pub record Held (bytes : List ℕ) (cells cell : ℕ) : Type 0 where
  pub within : cell + cells_in bytes cell ≤ cells
  pub set : 32 * (cell + cells_in bytes cell) ≤ length bytes
  pub size : word bytes (32 * cell) ≡ (block_in bytes cell).size

word-size : (bytes : List ℕ) (cell : ℕ) → word bytes (32 * cell) ≡ (block_in bytes cell).size
unfolding block_in
word-size bytes cell = refl

pub held : (bytes marks : Bytes) (cells head cell : ℕ) → IsStore bytes marks cells head → cell < length marks.set → (get_or marks.set cell 0 ≡ 0 → ⊥) → Held bytes.set cells cell
held bytes marks cells head cell s h z =
    let ls : List ℕ = marked 0 (take cell marks.set) in
    let rs : List ℕ = marked (cell + 1) (drop (cell + 1) marks.set) in
    let a : AreApart bytes.set cells 0 (ls ++ cell ∷ rs) = subst (AreApart bytes.set cells 0) (marked_cell marks.set cell h z) s.laid.apart in
    let b : AreApart bytes.set cells (behind bytes.set 0 ls) (cell ∷ rs) = apart-right bytes.set cells 0 ls (cell ∷ rs) a in
    record { within = apart-le bytes.set cells (cell + cells_in bytes.set cell) rs b.2; set = b.1; size = word-size bytes.set cell }

pub next_within : (P : FreeRun → Type 0) (bytes marks : Bytes) (cells head last next : ℕ) → IsStore bytes marks cells head → Scan P bytes.set cells head (runs_of bytes marks cells) last next → next ≤ cells
next_within P bytes marks cells head last next s c =
    let r : RisesInTwo 0 cells c.before c.after = rising-split 0 cells c.before c.after (subst (AreRising 0 cells) c.is (rising-runs bytes.set cells 0 (marked 0 marks.set) s.laid.apart)) in
    (next_rises bytes.set cells head r.middle next c.after r.right c.linked).1

pub last_ready : (bytes marks : List ℕ) (cells head cell last end after : ℕ) (before : List FreeRun) → Freeing bytes marks cells head cell last end after before → AllByRecursion (λ (r : FreeRun). r.first < cell) before → last < cells →
    (32 * last + 16 ≤ length bytes) × (last + word bytes (32 * last) ≤ cells) × (last < cell)
last_ready bytes marks cells head cell last end after before f a l =
    elim f.passed_run [
      | inl p ↦ absurd (omega (arith, p.1))
      | inr p ↦
          let i : IsRun bytes p.run = p.run_is in
          let w : word bytes (32 * last) ≡ p.run.cells = ap (λ (k : ℕ). word bytes (32 * k)) p.first ∙ i.0 in
          let b : p.run.first < cell = last-of (λ (r : FreeRun). r.first < cell) p.front p.run (subst (AllByRecursion (λ (r : FreeRun). r.first < cell)) p.is a) in
          (omega (arith, i.1, p.first), omega (arith, p.within, p.first), omega (arith, p.first))
    ]

pub given : (bytes marks new : Bytes) (cells head head' cell last end after count : ℕ) (before : List FreeRun) → Freeing bytes.set marks.set cells head cell last end after before → cell < length marks.set → (get_or marks.set cell 0 ≡ 0 → ⊥) → last ≤ cells → cells ≤ 2 ^ 28 → after < 2 ^ 64 →
    (last < cells → last + word bytes.set (32 * last) ≡ cell → (new ≡ record { set = put (put bytes.set (32 * last) (little_bytes 8 (end - last))) (32 * last + 8) (little_bytes 8 after); room = bytes.room }) × (head' ≡ head) × (count ≡ end - last)) →
    ((last < cells → last + word bytes.set (32 * last) ≡ cell → ⊥) → (new ≡ record { set = with_link (put (put bytes.set (32 * cell) (little_bytes 8 (end - cell))) (32 * cell + 8) (little_bytes 8 after)) cells last cell; room = bytes.room }) × (head' ≡ cond (last == cells) cell head) × (count ≡ end - cell)) →
    Freed bytes.set new.set marks.set cells head' cell × (new.room ≡ bytes.room)
given bytes marks new cells head head' cell last end after count before f h z w few n touch apart =
    let here : (last < cells) × (last + word bytes.set (32 * last) ≡ cell) → Freed bytes.set new.set marks.set cells head' cell × (new.room ≡ bytes.room) =
    λ q. let t = touch q.0 q.1 in
    rw (t.0, t.1) (freed-touching bytes.set marks.set cells head cell last end after before f h z q.0 q.1 (omega (arith, f.within)) n, refl) in
    let none : (last < cells → last + word bytes.set (32 * last) ≡ cell → ⊥) → Freed bytes.set new.set marks.set cells head' cell × (new.room ≡ bytes.room) =
    λ q. let t = apart q in
    rw (t.0, t.1) (freed-apart bytes.set marks.set cells head cell last end after before f h z w few q n, refl) in
    elim (cases_lt last cells) [
      | inl l ↦ elim (cases_eq (last + word bytes.set (32 * last)) cell) [ inl e ↦ here (l, e) | inr e ↦ none (λ x y. e y) ]
      | inr g ↦ none (λ x y. omega arith)
    ]

pub given_store : (bytes marks new marks' : Bytes) (cells cells' head head' cell : ℕ) → IsStore bytes marks cells head → Freed bytes.set new.set marks.set cells head' cell × (new.room ≡ bytes.room) → marks' ≡ record { set = put marks.set cell (0 ∷ []); room = marks.room } → cells' ≡ cells →
    (pool_of new marks' cells' ≡ record { cells = cells; blocks = without_block cell (blocks_in bytes.set marks.set); lies = None }) × IsStore new marks' cells' head'
given_store bytes marks new marks' cells cells' head head' cell s f em ec =
    rw (em, ec) (ap (λ (bs : List Block). record { cells = cells; blocks = bs; lies = None }) f.0.blocks, record { laid = f.0.laid; room = f.1 ∙ s.room; marks_room = s.marks_room; some = s.some; few = s.few })

pub freeing_by : (bytes marks : Bytes) (cells head cell last next end after count : ℕ) → IsStore bytes marks cells head → cell < length marks.set → (get_or marks.set cell 0 ≡ 0 → ⊥) →
    (c : Scan (λ (r : FreeRun). r.first < cell) bytes.set cells head (runs_of bytes marks cells) last next) → cell ≤ next → count ≡ cells_in bytes.set cell →
    (next ≡ cell + count → next < cells → (end ≡ next + word bytes.set (32 * next)) × (after ≡ link bytes.set cells head next)) →
    ((next ≡ cell + count → next < cells → ⊥) → (end ≡ cell + count) × (after ≡ next)) →
    Freeing bytes.set marks.set cells head cell last end after c.before
freeing_by bytes marks cells head cell last next end after count s h z c g n run none =
    freeing bytes marks cells head cell last next end after s h z c g
    (λ x y. run (x ∙ ap (λ (k : ℕ). cell + k) (sym n)) y)
    (λ x. let e = none (λ u v. x (u ∙ ap (λ (k : ℕ). cell + k) n) v) in (e.0 ∙ ap (λ (k : ℕ). cell + k) n, e.1))
