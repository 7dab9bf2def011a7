-- Lists of blocks by their first cells.
use Rattle.std.proofs.Common.{◌≡◌, ℕ, ◌+◌, ◌-◌, ◌<◌, ◌≤◌, inl, inr, List, [], ◌∷◌, ◌++◌, length, map, take, drop, get_or, Some, None, refl, sym, ap, ◌∙◌, append_assoc, arith, subst, eq-eqb, ne_eqb, lt-ltb, le-ltb, le-leb}
use Rattle.std.specs.List.{AllByRecursion}
use Rattle.std.proofs.lemmas.Bool.{cases_lt, lt-leb}
use Rattle.raw_pool.specs.Blocks.{Block, end_of, block_at, lowest_fit, with_block, without_block}
use Rattle.std.proofs.lemmas.List.{append-nil, length-take-le}
use Rattle.raw_pool.specs.FreeList.{FreeRun, block_in, blocks_in, cells_in, gap, gaps, behind, free_runs, marked, AreApart}
use Rattle.raw_pool.proofs.Marks.{marked_cell, unmarked_cell, marked-high, marked-low}
use Rattle.raw_pool.proofs.Runs.{AreSame, gap-some, next_start, apart-le}

pub first-in : (bytes : List ℕ) (c : ℕ) → (block_in bytes c).first ≡ c
unfolding block_in
first-in bytes c = refl

pub map-same : (old new cs : List ℕ) → AreSame old new cs → map (block_in new) cs ≡ map (block_in old) cs
map-same old new [] s = refl
map-same old new (c ∷ cs) s = ap (λ (b : Block). b ∷ map (block_in new) cs) s.0 ∙ ap (λ (bs : List Block). block_in old c ∷ bs) (map-same old new cs s.1)

-- ---- a block more

with-first : (bytes : List ℕ) (b : Block) (rs : List ℕ) → AllByRecursion (λ c. b.first ≤ c) rs → with_block b (map (block_in bytes) rs) ≡ b ∷ map (block_in bytes) rs
with-first bytes b [] a = refl
with-first bytes b (r ∷ rs) a = rw (first-in bytes r, le-ltb r b.first a.0) refl

pub with-between : (bytes : List ℕ) (b : Block) (ls rs : List ℕ) → AllByRecursion (λ c. c < b.first) ls → AllByRecursion (λ c. b.first ≤ c) rs →
    with_block b (map (block_in bytes) (ls ++ rs)) ≡ map (block_in bytes) ls ++ b ∷ map (block_in bytes) rs
unfolding block_in
with-between bytes b [] rs low high = with-first bytes b rs high
with-between bytes b (l ∷ ls) rs low high = rw (first-in bytes l, lt-ltb l b.first low.0) (ap (λ (bs : List Block). block_in bytes l ∷ bs) (with-between bytes b ls rs low.1 high))

-- ---- the lowest fit

unfit : (cells need from to : ℕ) → 0 < need → AllByRecursion (λ (r : FreeRun). r.cells < need) (gap from to) → to < from + need
unfit cells need from to n a =
    elim (cases_lt from to) [
      | inl l ↦ let b : AllByRecursion (λ (r : FreeRun). r.cells < need) (record { first = from; cells = to - from } ∷ []) = subst (AllByRecursion (λ (r : FreeRun). r.cells < need)) (gap-some from to l) a in omega (arith, b.0)
      | inr g ↦ omega arith
    ]

all-left : (P : FreeRun → Type 0) (xs ys : List FreeRun) → AllByRecursion P (xs ++ ys) → AllByRecursion P xs
all-left P [] ys a = tt
all-left P (x ∷ xs) ys a = (a.0, all-left P xs ys a.1)

all-right : (P : FreeRun → Type 0) (xs ys : List FreeRun) → AllByRecursion P (xs ++ ys) → AllByRecursion P ys
all-right P [] ys a = a
all-right P (x ∷ xs) ys a = all-right P xs ys a.1

end-in : (bytes : List ℕ) (c : ℕ) → end_of (block_in bytes c) ≡ c + cells_in bytes c
end-in bytes c = ap (λ (k : ℕ). k + cells_in bytes c) (first-in bytes c)

pub no-fit : (bytes : List ℕ) (cells need from : ℕ) (cs : List ℕ) → 0 < need → AllByRecursion (λ (r : FreeRun). r.cells < need) (free_runs bytes cells from cs) → lowest_fit cells need from (map (block_in bytes) cs) ≡ None
no-fit bytes cells need from [] n a = rw (lt-leb (from + need) cells (unfit cells need from cells n a)) refl
no-fit bytes cells need from (c ∷ cs) n a =
    let b : AllByRecursion (λ (r : FreeRun). r.cells < need) (gap from c ++ free_runs bytes cells (c + cells_in bytes c) cs) =
    subst (AllByRecursion (λ (r : FreeRun). r.cells < need)) (append_assoc (gap from c) (gaps bytes (c + cells_in bytes c) cs) (gap (behind bytes (c + cells_in bytes c) cs) cells)) a in
    let u : c < from + need = unfit cells need from c n (all-left (λ (r : FreeRun). r.cells < need) (gap from c) (free_runs bytes cells (c + cells_in bytes c) cs) b) in
    let i = no-fit bytes cells need (c + cells_in bytes c) cs n (all-right (λ (r : FreeRun). r.cells < need) (gap from c) (free_runs bytes cells (c + cells_in bytes c) cs) b) in
    rw (first-in bytes c, lt-leb (from + need) c u) i

pub no-room : (bytes : List ℕ) (cells need from : ℕ) (cs : List ℕ) → AreApart bytes cells from cs → cells < need → lowest_fit cells need from (map (block_in bytes) cs) ≡ None
no-room bytes cells need from [] a n = rw (lt-leb (from + need) cells (omega arith)) refl
no-room bytes cells need from (c ∷ cs) a n =
    rw (first-in bytes c, lt-leb (from + need) c (omega (arith, apart-le bytes cells (c + cells_in bytes c) cs a.2))) (no-room bytes cells need (c + cells_in bytes c) cs a.2 n)

pub fit-here : (bytes : List ℕ) (cells need from : ℕ) (rs : List ℕ) → from + need ≤ next_start cells rs → lowest_fit cells need from (map (block_in bytes) rs) ≡ Some from
fit-here bytes cells need from [] h = rw (le-leb (from + need) cells h) refl
fit-here bytes cells need from (c ∷ cs) h = rw (first-in bytes c, le-leb (from + need) c h) refl

pub fit-behind : (bytes : List ℕ) (cells need from : ℕ) (ls rs : List ℕ) → 0 < need → AllByRecursion (λ (r : FreeRun). r.cells < need) (gaps bytes from ls) → behind bytes from ls + need ≤ next_start cells rs →
    lowest_fit cells need from (map (block_in bytes) (ls ++ rs)) ≡ Some (behind bytes from ls)
fit-behind bytes cells need from [] rs n a h = fit-here bytes cells need from rs h
fit-behind bytes cells need from (c ∷ ls) rs n a h =
    let u : c < from + need = unfit cells need from c n (all-left (λ (r : FreeRun). r.cells < need) (gap from c) (gaps bytes (c + cells_in bytes c) ls) a) in
    let i = fit-behind bytes cells need (c + cells_in bytes c) ls rs n (all-right (λ (r : FreeRun). r.cells < need) (gap from c) (gaps bytes (c + cells_in bytes c) ls) a) h in
    rw (first-in bytes c, lt-leb (from + need) c u) i

-- ---- a block by its first cell

pub found-block : (bytes : List ℕ) (cell : ℕ) (ls rs : List ℕ) → AllByRecursion (λ c. c < cell) ls → block_at cell (map (block_in bytes) (ls ++ cell ∷ rs)) ≡ Some (block_in bytes cell)
found-block bytes cell [] rs low = rw (first-in bytes cell, eq-eqb cell cell refl) refl
found-block bytes cell (l ∷ ls) rs low = rw (first-in bytes l, ne_eqb l cell (λ e. omega (arith, low.0))) (found-block bytes cell ls rs low.1)

pub no-block : (bytes : List ℕ) (cell : ℕ) (ls rs : List ℕ) → AllByRecursion (λ c. c < cell) ls → AllByRecursion (λ c. cell + 1 ≤ c) rs → block_at cell (map (block_in bytes) (ls ++ rs)) ≡ None
no-block bytes cell [] [] low high = refl
no-block bytes cell [] (r ∷ rs) low high = rw (first-in bytes r, ne_eqb r cell (λ e. omega (arith, high.0))) (no-block bytes cell [] rs low high.1)
no-block bytes cell (l ∷ ls) rs low high = rw (first-in bytes l, ne_eqb l cell (λ e. omega (arith, low.0))) (no-block bytes cell ls rs low.1 high)

pub without-between : (bytes : List ℕ) (cell : ℕ) (ls rs : List ℕ) → AllByRecursion (λ c. c < cell) ls → without_block cell (map (block_in bytes) (ls ++ cell ∷ rs)) ≡ map (block_in bytes) (ls ++ rs)
unfolding block_in
without-between bytes cell [] rs low = rw (first-in bytes cell, eq-eqb cell cell refl) refl
without-between bytes cell (l ∷ ls) rs low = rw (first-in bytes l, ne_eqb l cell (λ e. omega (arith, low.0))) (ap (λ (bs : List Block). block_in bytes l ∷ bs) (without-between bytes cell ls rs low.1))

-- ---- a block by its mark

pub block_marked : (bytes marks : List ℕ) (cell : ℕ) → cell < length marks → (get_or marks cell 0 ≡ 0 → ⊥) → block_at cell (blocks_in bytes marks) ≡ Some (block_in bytes cell)
block_marked bytes marks cell h z =
    ap (λ (xs : List ℕ). block_at cell (map (block_in bytes) xs)) (marked_cell marks cell h z)
    ∙ found-block bytes cell (marked 0 (take cell marks)) (marked (cell + 1) (drop (cell + 1) marks)) (marked-high 0 cell (take cell marks) (omega (arith, length-take-le cell marks (omega arith))))

pub block_unmarked : (bytes marks : List ℕ) (cell : ℕ) → cell < length marks → get_or marks cell 0 ≡ 0 → block_at cell (blocks_in bytes marks) ≡ None
block_unmarked bytes marks cell h z =
    ap (λ (xs : List ℕ). block_at cell (map (block_in bytes) xs)) (unmarked_cell marks cell h z)
    ∙ no-block bytes cell (marked 0 (take cell marks)) (marked (cell + 1) (drop (cell + 1) marks)) (marked-high 0 cell (take cell marks) (omega (arith, length-take-le cell marks (omega arith)))) (marked-low (cell + 1) (cell + 1) (drop (cell + 1) marks) (omega arith))

pub block_past : (bytes marks : List ℕ) (cell : ℕ) → length marks ≤ cell → block_at cell (blocks_in bytes marks) ≡ None
block_past bytes marks cell h =
    ap (λ (xs : List ℕ). block_at cell (map (block_in bytes) xs)) (sym (append-nil (marked 0 marks)))
    ∙ no-block bytes cell (marked 0 marks) [] (marked-high 0 cell marks (omega arith)) tt
