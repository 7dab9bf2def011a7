-- Regions: fresh ones, and what a block's cell says.
use Rattle.std.proofs.Common.{◌≡◌, ℕ, ◌+◌, ◌-◌, ◌*◌, ◌^◌, ◌<◌, ◌≤◌, inl, inr, List, [], ◌∷◌, ◌++◌, length, map, max, Option, Some, None, refl, sym, ap, ap₂, ◌∙◌, append_assoc, arith, subst, get_or, Bool, cond, eq-eqb, ne_eqb}
use Rattle.std.specs.Option.{option_map}
use Rattle.std.proofs.lemmas.List.{append-nil}
use Rattle.std.proofs.lemmas.Bool.{cases_lt, cases_eq}
use Rattle.byteorder.specs.Endian.{little_bytes}
use Rattle.raw_pool.specs.Bytes.{Bytes, put, word}
use Rattle.raw_pool.specs.Blocks.{Block, block_at, longest_run, without_block}
use Rattle.raw_pool.specs.FreeList.{FreeRun, IsRun, AreApart, AreLinked, block_in, cells_in, blocks_in, gap, gaps, behind, free_runs, link, marked}
use Rattle.raw_pool.specs.Searches.{IsFresh, IsRegion, IsStore, pool_of, runs_of}
use Rattle.raw_pool.proofs.Puts.{put_before, length-put, word-same, word-put}
use Rattle.raw_pool.proofs.Runs.{AreRising, apart-le, gap-some, gap-none, rising-runs}
use Rattle.raw_pool.proofs.Scans.{rising}
use Rattle.raw_pool.proofs.Links.{Here, here, RunHere, next_rises, no_runs, link-run}
use Rattle.raw_pool.proofs.Listed.{first-in, block_marked, block_unmarked, block_past}

-- a region with a marked cell is laid out
pub region_store : (bytes marks : Bytes) (cells head cell : ℕ) → IsRegion bytes marks cells head → cell < length marks.set → IsStore bytes marks cells head
region_store bytes marks cells head cell r h = elim r [ inl f ↦ absurd (let n : length marks.set ≡ 0 = ap (λ (b : Bytes). length b.set) f.marks_is in omega arith) | inr s ↦ s ]

some_set : (bytes : List ℕ) (cells head : ℕ) (cs : List ℕ) → 0 < cells → AreApart bytes cells 0 cs → AreLinked bytes cells head head (free_runs bytes cells 0 cs) → 0 < length bytes
some_set bytes cells head [] n a l =
    let m : AreLinked bytes cells head head (record { first = 0; cells = cells - 0 } ∷ []) = subst (AreLinked bytes cells head head) (gap-some 0 cells n) l in
    omega (arith, m.1.1)
some_set bytes cells head (c ∷ cs) n a l = omega (arith, a.1)

-- some byte of a store is set
pub store_set : (bytes marks : Bytes) (cells head : ℕ) → IsStore bytes marks cells head → 0 < length bytes.set
store_set bytes marks cells head s = some_set bytes.set cells head (marked 0 marks.set) s.some s.laid.apart s.laid.linked

-- a fresh region, or one whose bytes are set in part
pub fresh_of : (bytes marks : Bytes) (cells head : ℕ) → IsRegion bytes marks cells head → length bytes.set ≡ 0 → IsFresh bytes marks cells
fresh_of bytes marks cells head r e = elim r [ inl f ↦ f | inr s ↦ absurd (omega (arith, store_set bytes marks cells head s)) ]

pub store_of : (bytes marks : Bytes) (cells head : ℕ) → IsRegion bytes marks cells head → (length bytes.set ≡ 0 → ⊥) → IsStore bytes marks cells head
store_of bytes marks cells head r n = elim r [ inl f ↦ absurd (n (ap (λ (b : Bytes). length b.set) f.bytes_is)) | inr s ↦ s ]

-- the one run of a fresh region, once its header is written
pub prepared : (bytes marks new : Bytes) (cells : ℕ) → IsFresh bytes marks cells → new ≡ record { set = put (put bytes.set (32 * 0) (little_bytes 8 cells)) (32 * 0 + 8) (little_bytes 8 cells); room = bytes.room } →
    (pool_of new marks cells ≡ pool_of bytes marks cells) × IsStore new marks cells 0
prepared bytes marks new cells f e =
    let one : List ℕ = put [] 0 (little_bytes 8 cells) in
    let two : List ℕ = put one 8 (little_bytes 8 cells) in
    let g : new ≡ record { set = two; room = 32 * cells } = e ∙ ap (λ (b : Bytes). record { set = put (put b.set (32 * 0) (little_bytes 8 cells)) (32 * 0 + 8) (little_bytes 8 cells); room = b.room }) f.bytes_is in
    let n1 : length one ≡ 8 = length-put [] (little_bytes 8 cells) 0 (omega arith) ∙ omega arith in
    let n2 : length two ≡ 16 = length-put one (little_bytes 8 cells) 8 (omega arith) ∙ omega arith in
    let w1 : word two 0 ≡ cells = word-same one two 0 (put_before one (little_bytes 8 cells) 8 0 8 (omega arith) (omega arith)) ∙ word-put [] 0 cells (omega arith) (omega (arith, f.few)) in
    let w2 : word two 8 ≡ cells = word-put one 8 cells (omega arith) (omega (arith, f.few)) in
    let runs : gap 0 cells ≡ record { first = 0; cells = cells - 0 } ∷ [] = gap-some 0 cells f.some in
    let z : cells ≡ cells - 0 = omega arith in
    let linked : AreLinked two cells 0 0 (gap 0 cells) = subst (AreLinked two cells 0 0) (sym runs) (refl, (w1 ∙ z, omega arith), link-run two cells 0 0 f.some ∙ w2) in
    rw (g, f.bytes_is, f.marks_is) (refl, record { laid = record { apart = omega arith; linked = linked }; room = refl; marks_room = refl; some = f.some; few = f.few })

-- ---- a block by its cell

pub record Found (bytes marks : List ℕ) (cell size : ℕ) : Type 0 where
  pub marked_in : cell < length marks
  pub mark : get_or marks cell 0 ≡ 0 → ⊥
  pub block : block_at cell (blocks_in bytes marks) ≡ Some (block_in bytes cell)
  pub size_is : word bytes (32 * cell) ≡ size

size-word : (bytes : List ℕ) (cell : ℕ) → (block_in bytes cell).size ≡ word bytes (32 * cell)
unfolding block_in
size-word bytes cell = refl

some_is : (x y : ℕ) (o : Option ℕ) → Some x ≡ o → o ≡ Some y → x ≡ y
some_is x y o e f = cc

pub found : (bytes marks : List ℕ) (cell size : ℕ) → Some size ≡ option_map (λ (b : Block). b.size) (block_at cell (blocks_in bytes marks)) → Found bytes marks cell size
found bytes marks cell size e =
    elim (cases_lt cell (length marks)) [
      | inl l ↦ elim (cases_eq (get_or marks cell 0) 0) [
        | inl z ↦ absurd (let f : Some size ≡ None = e ∙ ap (option_map (λ (b : Block). b.size)) (block_unmarked bytes marks cell l z) in cc)
        | inr z ↦
            let b : block_at cell (blocks_in bytes marks) ≡ Some (block_in bytes cell) = block_marked bytes marks cell l z in
            record { marked_in = l; mark = z; block = b; size_is = sym (size-word bytes cell) ∙ sym (some_is size (block_in bytes cell).size (option_map (λ (x : Block). x.size) (block_at cell (blocks_in bytes marks))) e (ap (option_map (λ (x : Block). x.size)) b)) }
      ]
      | inr g ↦ absurd (let f : Some size ≡ None = e ∙ ap (option_map (λ (b : Block). b.size)) (block_past bytes marks cell g) in cc)
    ]

pub without-none : (cell : ℕ) (bs : List Block) → block_at cell bs ≡ None → without_block cell bs ≡ bs
without-none cell [] e = refl
without-none cell (b ∷ bs) e =
    elim (cases_eq b.first cell) [
      | inl f ↦ absurd (let g : Some b ≡ None = subst (λ (t : Bool). cond t (Some b) (block_at cell bs) ≡ None) (eq-eqb b.first cell f) e in cc)
      | inr f ↦
          let g : block_at cell bs ≡ None = subst (λ (t : Bool). cond t (Some b) (block_at cell bs) ≡ None) (ne_eqb b.first cell f) e in
          rw (ne_eqb b.first cell f) (ap (λ (xs : List Block). b ∷ xs) (without-none cell bs g))
    ]

-- ---- the longest run

abbrev pub most : List FreeRun → ℕ
most [] = 0
most (r ∷ rs) = max r.cells (most rs)

pub most-gap : (from to : ℕ) (rs : List FreeRun) → most (gap from to ++ rs) ≡ max (to - from) (most rs)
most-gap from to rs =
    elim (cases_lt from to) [
      | inl l ↦ rw (gap-some from to l) refl
      | inr g ↦ rw (gap-none from to g) (omega arith)
    ]

pub longest-most : (bytes : List ℕ) (cells from : ℕ) (cs : List ℕ) → longest_run cells from (map (block_in bytes) cs) ≡ most (free_runs bytes cells from cs)
longest-most bytes cells from [] = sym (ap most (sym (append-nil (gap from cells))) ∙ most-gap from cells [] ∙ omega arith)
longest-most bytes cells from (c ∷ cs) =
    rw (first-in bytes c)
    (ap (max (c - from)) (longest-most bytes cells (c + cells_in bytes c) cs) ∙ sym (ap most (append_assoc (gap from c) (gaps bytes (c + cells_in bytes c) cs) (gap (behind bytes (c + cells_in bytes c) cs) cells)) ∙ most-gap from c (free_runs bytes cells (c + cells_in bytes c) cs)))

-- the runs that a walk has before it, and the most cells that one of those behind it has
pub record Left (bytes : List ℕ) (cells head next longest total : ℕ) : Type 0 where
  pub runs : List FreeRun
  pub low : ℕ
  pub linked : AreLinked bytes cells head next runs
  pub rising : AreRising low cells runs
  pub most_is : max longest (most runs) ≡ total

pub left_start : (bytes marks : Bytes) (cells head : ℕ) → IsStore bytes marks cells head → Left bytes.set cells head head 0 (longest_run cells 0 (blocks_in bytes.set marks.set))
left_start bytes marks cells head s =
    record {
      runs = runs_of bytes marks cells;
      low = 0;
      linked = s.laid.linked;
      rising = rising bytes marks cells head s;
      most_is = (let m : max 0 (most (runs_of bytes marks cells)) ≡ most (runs_of bytes marks cells) = omega arith in m) ∙ sym (longest-most bytes.set cells 0 (marked 0 marks.set));
    }

pub left_here : (bytes : List ℕ) (cells head next longest total : ℕ) → Left bytes cells head next longest total → next < cells → RunHere bytes cells head next
left_here bytes cells head next longest total l h =
    let r : Here bytes cells head l.runs next = here bytes cells head l.runs next h l.linked in
    let a : AreRising l.low cells (r.run ∷ r.rest) = subst (AreRising l.low cells) r.is l.rising in
    let i : IsRun bytes r.run = r.run_is in
    let n = next_rises bytes cells head (r.run.first + r.run.cells) (link bytes cells head r.run.first) r.rest a.2 r.linked in
    let e : link bytes cells head next ≡ link bytes cells head r.run.first = ap (link bytes cells head) r.first in
    record { set = omega (arith, i.1, r.first); rises = omega (arith, n.0, a.1, e, r.first); within = omega (arith, n.1, e) }

pub left_next : (bytes : List ℕ) (cells head next longest total count to : ℕ) → Left bytes cells head next longest total → next < cells → count ≡ word bytes (32 * next) → to ≡ link bytes cells head next → Left bytes cells head to (max longest count) total
left_next bytes cells head next longest total count to l h c e =
    let r : Here bytes cells head l.runs next = here bytes cells head l.runs next h l.linked in
    let a : AreRising l.low cells (r.run ∷ r.rest) = subst (AreRising l.low cells) r.is l.rising in
    let i : IsRun bytes r.run = r.run_is in
    let k : count ≡ r.run.cells = c ∙ ap (λ (j : ℕ). word bytes (32 * j)) r.first ∙ i.0 in
    let m : most l.runs ≡ max r.run.cells (most r.rest) = ap most r.is in
    let t = l.most_is in
    record {
      runs = r.rest;
      low = r.run.first + r.run.cells;
      linked = subst (λ (j : ℕ). AreLinked bytes cells head j r.rest) (sym (e ∙ ap (link bytes cells head) r.first)) r.linked;
      rising = a.2;
      most_is = omega arith;
    }

pub left_done : (bytes : List ℕ) (cells head next longest total : ℕ) → Left bytes cells head next longest total → cells ≤ next → longest ≡ total
left_done bytes cells head next longest total l h =
    let e : l.runs ≡ [] = no_runs bytes cells head l.low next l.runs h l.rising l.linked in
    let m : most l.runs ≡ 0 = ap most e in
    let t = l.most_is in
    omega arith

-- ---- no blocks

whole-empty : (bytes : List ℕ) (cells head : ℕ) (cs : List ℕ) → AreApart bytes cells 0 cs → AreLinked bytes cells head head (free_runs bytes cells 0 cs) → head ≡ 0 → word bytes (32 * 0) ≡ cells → cs ≡ []
whole-empty bytes cells head [] a l h w = refl
whole-empty bytes cells head (c ∷ cs) a l h w =
    let up : c + cells_in bytes c ≤ cells = apart-le bytes cells (c + cells_in bytes c) cs a.2 in
    let split : free_runs bytes cells 0 (c ∷ cs) ≡ gap 0 c ++ free_runs bytes cells (c + cells_in bytes c) cs = append_assoc (gap 0 c) (gaps bytes (c + cells_in bytes c) cs) (gap (behind bytes (c + cells_in bytes c) cs) cells) in
    elim (cases_lt 0 c) [
      | inl p ↦
          let m : AreLinked bytes cells head head (record { first = 0; cells = c - 0 } ∷ free_runs bytes cells (c + cells_in bytes c) cs) =
          subst (AreLinked bytes cells head head) (split ∙ ap (λ (rs : List FreeRun). rs ++ free_runs bytes cells (c + cells_in bytes c) cs) (gap-some 0 c p)) l in
          absurd (omega (arith, m.1.0))
      | inr g ↦
          let m : AreLinked bytes cells head head (free_runs bytes cells (c + cells_in bytes c) cs) =
          subst (AreLinked bytes cells head head) (split ∙ ap (λ (rs : List FreeRun). rs ++ free_runs bytes cells (c + cells_in bytes c) cs) (gap-none 0 c g)) l in
          let n = next_rises bytes cells head (c + cells_in bytes c) head (free_runs bytes cells (c + cells_in bytes c) cs) (rising-runs bytes cells (c + cells_in bytes c) cs a.2) m in
          absurd (omega (arith, n.0))
    ]

pub whole_empty : (bytes marks : Bytes) (cells head : ℕ) → IsStore bytes marks cells head → head ≡ 0 → word bytes.set (32 * 0) ≡ cells → blocks_in bytes.set marks.set ≡ []
whole_empty bytes marks cells head s h w = ap (map (block_in bytes.set)) (whole-empty bytes.set cells head (marked 0 marks.set) s.laid.apart s.laid.linked h w)

no-starts : (bytes : List ℕ) (cs : List ℕ) → map (block_in bytes) cs ≡ [] → cs ≡ []
no-starts bytes [] e = refl
no-starts bytes (c ∷ cs) e = absurd (let f : block_in bytes c ∷ map (block_in bytes) cs ≡ [] = e in cc)

pub empty_whole : (bytes marks : Bytes) (cells head : ℕ) → IsStore bytes marks cells head → blocks_in bytes.set marks.set ≡ [] → (head ≡ 0) × (word bytes.set (32 * 0) ≡ cells)
empty_whole bytes marks cells head s e =
    let l : AreLinked bytes.set cells head head (record { first = 0; cells = cells - 0 } ∷ []) =
    subst (AreLinked bytes.set cells head head) (ap (free_runs bytes.set cells 0) (no-starts bytes.set (marked 0 marks.set) e) ∙ gap-some 0 cells s.some) s.laid.linked in
    (l.0, l.1.0 ∙ (let z : cells - 0 ≡ cells = omega arith in z))

pub head_set : (bytes marks : Bytes) (cells head : ℕ) → IsStore bytes marks cells head → head < cells → 32 * head + 16 ≤ length bytes.set
head_set bytes marks cells head s h =
    let r : Here bytes.set cells head (runs_of bytes marks cells) head = here bytes.set cells head (runs_of bytes marks cells) head h s.laid.linked in
    let i : IsRun bytes.set r.run = r.run_is in
    omega (arith, i.1, r.first)

pub fresh_empty : (bytes marks : Bytes) (cells : ℕ) → IsFresh bytes marks cells → blocks_in bytes.set marks.set ≡ []
fresh_empty bytes marks cells f = rw f.marks_is refl

pub fresh_region : (bytes marks : Bytes) (cells : ℕ) → bytes.set ≡ [] → bytes.room ≡ 32 * cells → marks.set ≡ [] → marks.room ≡ cells → 0 < cells → cells ≤ 2 ^ 28 → IsFresh bytes marks cells
fresh_region bytes marks cells b r m q n f =
    record { bytes_is = ap₂ (λ (xs : List ℕ) (k : ℕ). record { set = xs; room = k }) b r; marks_is = ap₂ (λ (xs : List ℕ) (k : ℕ). record { set = xs; room = k }) m q; some = n; few = f }
