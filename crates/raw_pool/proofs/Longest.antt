-- The longest free run: what a block that is taken or given back makes of it.
use Rattle.std.proofs.Common.{eq-eqb, inl, inr, ne_eqb, ◌≡◌, ℕ, ◌+◌, ◌-◌, ◌*◌, ◌<◌, ◌≤◌, ◌∷◌, ◌++◌, [], List, length, map, max, drop, take, get_or, refl, sym, ap, ◌∙◌, arith, subst}
use Rattle.std.specs.List.{AllByRecursion}
use Rattle.std.proofs.lemmas.List.{map-append, length-take-le}
use Rattle.std.proofs.lemmas.Bool.{cases_eq, cases_lt}
use Rattle.raw_pool.specs.Bytes.{Bytes, word}
use Rattle.raw_pool.specs.Blocks.{Block, cells_for, end_of, longest_run, new_block, with_block, with_bytes, without_block}
use Rattle.raw_pool.specs.FreeList.{FreeRun, AreApart, block_in, blocks_in, cells_in, gaps, behind, link, marked}
use Rattle.raw_pool.specs.Searches.{IsStore, Scan, runs_of}
use Rattle.raw_pool.proofs.Runs.{apart-right, all-starts-low, all-starts-high, beyond, free_runs-first, next_start}
use Rattle.raw_pool.proofs.Listed.{first-in, with-between, without-between}
use Rattle.raw_pool.proofs.Links.{no_runs}
use Rattle.raw_pool.proofs.Marks.{all-low, marked-high, marked_cell}
use Rattle.raw_pool.proofs.Regions.{longest-most, most, most-gap}
use Rattle.raw_pool.proofs.Takes.{Fit, fit}
use Rattle.raw_pool.proofs.Gives.{Freeing, touching, untouched}

-- the longest run is before some blocks or behind them
longest-behind : (bytes : List ℕ) (cells from : ℕ) (ls : List ℕ) (bs : List Block) → longest_run cells from (map (block_in bytes) ls ++ bs) ≡ max (most (gaps bytes from ls)) (longest_run cells (behind bytes from ls) bs)
longest-behind bytes cells from [] bs = omega arith
longest-behind bytes cells from (c ∷ ls) bs =
    let i = longest-behind bytes cells (c + cells_in bytes c) ls bs in
    let m = most-gap from c (gaps bytes (c + cells_in bytes c) ls) in
    rw (first-in bytes c) (ap (max (c - from)) i ∙ omega (arith, m))

-- the longest run is before the first of some blocks or behind it
longest-first : (bytes : List ℕ) (cells from : ℕ) (rs : List ℕ) → longest_run cells from (map (block_in bytes) rs) ≡ max (next_start cells rs - from) (most (beyond bytes cells rs))
longest-first bytes cells from rs = longest-most bytes cells from rs ∙ ap most (free_runs-first bytes cells from rs) ∙ most-gap from (next_start cells rs) (beyond bytes cells rs)

-- blocks on both sides of a free run, and a block more between them
longest-without : (bytes : List ℕ) (cells : ℕ) (ls rs : List ℕ) → longest_run cells 0 (map (block_in bytes) (ls ++ rs)) ≡ max (most (gaps bytes 0 ls)) (max (next_start cells rs - behind bytes 0 ls) (most (beyond bytes cells rs)))
longest-without bytes cells ls rs =
    ap (longest_run cells 0) (map-append (block_in bytes) ls rs) ∙ longest-behind bytes cells 0 ls (map (block_in bytes) rs)
    ∙ ap (max (most (gaps bytes 0 ls))) (longest-first bytes cells (behind bytes 0 ls) rs)

longest-with : (bytes : List ℕ) (cells : ℕ) (ls rs : List ℕ) (b : Block) → longest_run cells 0 (map (block_in bytes) ls ++ b ∷ map (block_in bytes) rs)
    ≡ max (most (gaps bytes 0 ls)) (max (b.first - behind bytes 0 ls) (max (next_start cells rs - end_of b) (most (beyond bytes cells rs))))
longest-with bytes cells ls rs b =
    longest-behind bytes cells 0 ls (b ∷ map (block_in bytes) rs)
    ∙ ap (λ (k : ℕ). max (most (gaps bytes 0 ls)) (max (b.first - behind bytes 0 ls) k)) (longest-first bytes cells (end_of b) rs)

-- the longest run once a block is off the front of a run, and before: the runs on both sides stay
off_front : (bytes marks : Bytes) (cells head last at size need : ℕ) (s : IsStore bytes marks cells head) (c : Scan (λ (r : FreeRun). r.cells < need) bytes.set cells head (runs_of bytes marks cells) last at) (l : at < cells) → need ≡ cells_for size →
    (longest_run cells 0 (with_block (new_block at size) (blocks_in bytes.set marks.set)) ≡ max (most c.before) (max (word bytes.set (32 * at) - need) (most (fit (λ (r : FreeRun). r.cells < need) bytes marks cells head last at s c l).rest)))
    × (longest_run cells 0 (blocks_in bytes.set marks.set) ≡ max (most c.before) (max (word bytes.set (32 * at)) (most (fit (λ (r : FreeRun). r.cells < need) bytes marks cells head last at s c l).rest)))
off_front bytes marks cells head last at size need s c l n =
    let old : List ℕ = bytes.set in
    let q : Fit old cells head (marked 0 marks.set) last at c.before c.after = fit (λ (r : FreeRun). r.cells < need) bytes marks cells head last at s c l in
    let ls : List ℕ = q.between.left in
    let rs : List ℕ = q.between.right in
    let e : marked 0 marks.set ≡ ls ++ rs = q.between.is in
    let b : behind old 0 ls ≡ at = sym q.between.first ∙ sym q.first in
    let end : next_start cells rs ≡ at + word old (32 * at) = sym q.between.end ∙ omega (arith, q.first, q.cells_is) in
    let a : AreApart old cells 0 (ls ++ rs) = subst (AreApart old cells 0) e s.laid.apart in
    let low : AllByRecursion (λ x. x < at) ls = all-starts-low old cells 0 at ls rs a (omega arith) in
    let some : 0 < q.run.cells = q.between.some in
    let high : AllByRecursion (λ x. at + 1 ≤ x) rs = all-starts-high old cells (behind old 0 ls) (at + 1) rs (apart-right old cells 0 ls rs a) (omega (arith, end, some, q.cells_is)) in
    let w : longest_run cells 0 (with_block (new_block at size) (blocks_in old marks.set)) ≡ longest_run cells 0 (map (block_in old) ls ++ new_block at size ∷ map (block_in old) rs) =
    ap (λ (xs : List ℕ). longest_run cells 0 (with_block (new_block at size) (map (block_in old) xs))) e
    ∙ ap (longest_run cells 0) (with-between old (new_block at size) ls rs low (all-low at (at + 1) rs (omega arith) high)) in
    let o = ap (λ (xs : List ℕ). longest_run cells 0 (map (block_in old) xs)) e ∙ longest-without old cells ls rs in
    let t = longest-with old cells ls rs (new_block at size) in
    let before = ap most q.between.before_is in
    let after = ap most q.between.after_is in
    (omega (arith, w, t, b, end, before, after), omega (arith, o, b, end, before, after))

-- a block off the front of a run that is not the longest
pub longest_taken : (bytes marks : Bytes) (cells head last at size need : ℕ) → IsStore bytes marks cells head → Scan (λ (r : FreeRun). r.cells < need) bytes.set cells head (runs_of bytes marks cells) last at → at < cells →
    need ≡ cells_for size → word bytes.set (32 * at) < longest_run cells 0 (blocks_in bytes.set marks.set) →
    longest_run cells 0 (with_block (new_block at size) (blocks_in bytes.set marks.set)) ≡ longest_run cells 0 (blocks_in bytes.set marks.set)
longest_taken bytes marks cells head last at size need s c l n less =
    let p = off_front bytes marks cells head last at size need s c l n in
    omega (arith, p.0, p.1, less)

most-below : (need : ℕ) (rs : List FreeRun) → 0 < need → AllByRecursion (λ (r : FreeRun). r.cells < need) rs → most rs < need
most-below need [] n a = n
most-below need (r ∷ rs) n a = omega (arith, a.0, most-below need rs n a.1)

-- a block off the front of the last run, of which as many cells are left: those before it are shorter
pub longest_last : (bytes marks : Bytes) (cells head last at size need : ℕ) → IsStore bytes marks cells head → Scan (λ (r : FreeRun). r.cells < need) bytes.set cells head (runs_of bytes marks cells) last at → at < cells →
    need ≡ cells_for size → cells ≤ link bytes.set cells head at → 2 * need ≤ word bytes.set (32 * at) →
    longest_run cells 0 (with_block (new_block at size) (blocks_in bytes.set marks.set)) ≡ word bytes.set (32 * at) - need
longest_last bytes marks cells head last at size need s c l n none half =
    let q : Fit bytes.set cells head (marked 0 marks.set) last at c.before c.after = fit (λ (r : FreeRun). r.cells < need) bytes marks cells head last at s c l in
    let p = off_front bytes marks cells head last at size need s c l n in
    let low : most c.before < need = most-below need c.before (omega arith) c.passed in
    let e : most q.rest ≡ 0 = ap most (no_runs bytes.set cells head (q.run.first + q.run.cells) (link bytes.set cells head at) q.rest none q.rising.right.2 q.linked) in
    omega (arith, p.0, low, e)

-- where the run that a block joins begins
joined : (bytes marks : List ℕ) (cells head cell last end after count : ℕ) (before : List FreeRun) → Freeing bytes marks cells head cell last end after before →
    (last < cells → last + word bytes (32 * last) ≡ cell → count ≡ end - last) → ((last < cells → last + word bytes (32 * last) ≡ cell → ⊥) → count ≡ end - cell) → count ≡ end - behind bytes 0 (marked 0 (take cell marks))
joined bytes marks cells head cell last end after count before f touch apart =
    let ls : List ℕ = marked 0 (take cell marks) in
    let rs : List ℕ = marked (cell + 1) (drop (cell + 1) marks) in
    let here : last < cells → last + word bytes (32 * last) ≡ cell → count ≡ end - behind bytes 0 ls =
    λ l t. elim f.passed_run [
      | inl p ↦ absurd (omega (arith, p.1))
      | inr p ↦ touch l t ∙ ap (λ (k : ℕ). end - k) (sym (touching bytes cells head ls cell (cell ∷ rs) before p.front p.run last f.whole f.low f.left p.is p.first p.run_is t f.path).behind_is)
    ] in
    let none : (last < cells → last + word bytes (32 * last) ≡ cell → ⊥) → count ≡ end - behind bytes 0 ls =
    λ never. apart never ∙ ap (λ (k : ℕ). end - k) (sym (untouched bytes cells head ls cell before last f.low (omega (arith, f.up, f.within)) f.left f.path never).0) in
    elim (cases_lt last cells) [
      | inl l ↦ elim (cases_eq (last + word bytes (32 * last)) cell) [ inl e ↦ here l e | inr e ↦ none (λ x y. e y) ]
      | inr g ↦ none (λ x y. omega arith)
    ]

-- a block given back makes one run of its cells and the free cells beside them
pub longest_given : (bytes marks : List ℕ) (cells head cell last end after count : ℕ) (before : List FreeRun) → Freeing bytes marks cells head cell last end after before → cell < length marks → (get_or marks cell 0 ≡ 0 → ⊥) →
    (last < cells → last + word bytes (32 * last) ≡ cell → count ≡ end - last) → ((last < cells → last + word bytes (32 * last) ≡ cell → ⊥) → count ≡ end - cell) →
    longest_run cells 0 (without_block cell (blocks_in bytes marks)) ≡ max (longest_run cells 0 (blocks_in bytes marks)) count
longest_given bytes marks cells head cell last end after count before f h z touch apart =
    let ls : List ℕ = marked 0 (take cell marks) in
    let rs : List ℕ = marked (cell + 1) (drop (cell + 1) marks) in
    let m : marked 0 marks ≡ ls ++ cell ∷ rs = marked_cell marks cell h z in
    let low : AllByRecursion (λ c. c < cell) ls = marked-high 0 cell (take cell marks) (omega (arith, length-take-le cell marks (omega arith))) in
    let g = ap (λ (xs : List ℕ). longest_run cells 0 (without_block cell (map (block_in bytes) xs))) m ∙ ap (longest_run cells 0) (without-between bytes cell ls rs low) ∙ longest-without bytes cells ls rs in
    let o = ap (λ (xs : List ℕ). longest_run cells 0 (map (block_in bytes) xs)) m ∙ ap (longest_run cells 0) (map-append (block_in bytes) ls (cell ∷ rs)) ∙ longest-with bytes cells ls rs (block_in bytes cell) in
    omega (arith, g, o, joined bytes marks cells head cell last end after count before f touch apart, first-in bytes cell, f.low, f.up, f.merged.ends)

-- bytes that are written move no block
pub longest_written : (cells cell at from : ℕ) (bytes : List ℕ) (bs : List Block) → longest_run cells from (with_bytes cell at bytes bs) ≡ longest_run cells from bs
longest_written cells cell at from bytes [] = refl
longest_written cells cell at from bytes (b ∷ bs) =
    elim (cases_eq b.first cell) [
      | inl e ↦ rw (eq-eqb b.first cell e) refl
      | inr e ↦ rw (ne_eqb b.first cell e) (ap (max (b.first - from)) (longest_written cells cell at (end_of b) bytes bs))
    ]
