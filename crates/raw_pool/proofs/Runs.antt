-- The free runs of a region: where they lie between the blocks.
use Rattle.std.proofs.Common.{◌≡◌, ℕ, ◌+◌, ◌-◌, ◌<◌, ◌≤◌, ◌⊎◌, inl, inr, List, [], ◌∷◌, ◌++◌, length, refl, sym, ap, ◌∙◌, append_assoc, arith, subst, lt-ltb, le-ltb}
use Rattle.std.specs.List.{AllByRecursion}
use Rattle.std.proofs.lemmas.Bool.{cases_lt}
use Rattle.std.proofs.lemmas.List.{append-nil}
use Rattle.raw_pool.specs.Blocks.{Block, cells_for}
use Rattle.raw_pool.specs.FreeList.{FreeRun, block_in, cells_in, gap, gaps, behind, free_runs, AreApart}

-- ---- a gap, and what has the same blocks

pub gap-some : (from to : ℕ) → from < to → gap from to ≡ record { first = from; cells = to - from } ∷ []
gap-some from to h = rw (lt-ltb from to h) refl

pub gap-none : (from to : ℕ) → to ≤ from → gap from to ≡ []
gap-none from to h = rw (le-ltb from to h) refl

-- the blocks at some cells are the same in both
abbrev pub AreSame : List ℕ → List ℕ → List ℕ → Type 0
AreSame old new cs = AllByRecursion (λ c. block_in new c ≡ block_in old c) cs

pub size-same : (old new : List ℕ) (c : ℕ) → block_in new c ≡ block_in old c → cells_in new c ≡ cells_in old c
size-same old new c e = ap (λ (b : Block). cells_for b.size) e

pub gaps-same : (old new cs : List ℕ) (from : ℕ) → AreSame old new cs → gaps new from cs ≡ gaps old from cs
gaps-same old new [] from s = refl
gaps-same old new (c ∷ cs) from s =
    ap (λ (k : ℕ). gap from c ++ gaps new (c + k) cs) (size-same old new c s.0) ∙ ap (λ (rs : List FreeRun). gap from c ++ rs) (gaps-same old new cs (c + cells_in old c) s.1)

pub behind-same : (old new cs : List ℕ) (from : ℕ) → AreSame old new cs → behind new from cs ≡ behind old from cs
behind-same old new [] from s = refl
behind-same old new (c ∷ cs) from s =
    ap (λ (k : ℕ). behind new (c + k) cs) (size-same old new c s.0) ∙ behind-same old new cs (c + cells_in old c) s.1

pub free_runs-same : (old new cs : List ℕ) (cells from : ℕ) → AreSame old new cs → free_runs new cells from cs ≡ free_runs old cells from cs
free_runs-same old new cs cells from s =
    ap (λ (rs : List FreeRun). rs ++ gap (behind new from cs) cells) (gaps-same old new cs from s)
    ∙ ap (λ (k : ℕ). gaps old from cs ++ gap k cells) (behind-same old new cs from s)

pub apart-same : (old new cs : List ℕ) (cells from : ℕ) → AreSame old new cs → length old ≤ length new → AreApart old cells from cs → AreApart new cells from cs
apart-same old new [] cells from s l a = a
apart-same old new (c ∷ cs) cells from s l a =
    let e : cells_in new c ≡ cells_in old c = size-same old new c s.0 in
    let rest : AreApart new cells (c + cells_in old c) cs = apart-same old new cs cells (c + cells_in old c) s.1 l a.2 in
    (a.0, omega arith, subst (λ (k : ℕ). AreApart new cells (c + k) cs) (sym e) rest)

-- ---- lists of blocks joined and split

pub gaps-append : (bytes : List ℕ) (from : ℕ) (ls bs : List ℕ) → gaps bytes from (ls ++ bs) ≡ gaps bytes from ls ++ gaps bytes (behind bytes from ls) bs
gaps-append bytes from [] bs = refl
gaps-append bytes from (c ∷ ls) bs =
    ap (λ (rs : List FreeRun). gap from c ++ rs) (gaps-append bytes (c + cells_in bytes c) ls bs) ∙ sym (append_assoc (gap from c) (gaps bytes (c + cells_in bytes c) ls) (gaps bytes (behind bytes (c + cells_in bytes c) ls) bs))

pub behind-append : (bytes : List ℕ) (from : ℕ) (ls bs : List ℕ) → behind bytes from (ls ++ bs) ≡ behind bytes (behind bytes from ls) bs
behind-append bytes from [] bs = refl
behind-append bytes from (c ∷ ls) bs = behind-append bytes (c + cells_in bytes c) ls bs

pub free_runs-append : (bytes : List ℕ) (cells from : ℕ) (ls bs : List ℕ) → free_runs bytes cells from (ls ++ bs) ≡ gaps bytes from ls ++ free_runs bytes cells (behind bytes from ls) bs
free_runs-append bytes cells from ls bs =
    ap (λ (rs : List FreeRun). rs ++ gap (behind bytes from (ls ++ bs)) cells) (gaps-append bytes from ls bs)
    ∙ ap (λ (k : ℕ). (gaps bytes from ls ++ gaps bytes (behind bytes from ls) bs) ++ gap k cells) (behind-append bytes from ls bs)
    ∙ append_assoc (gaps bytes from ls) (gaps bytes (behind bytes from ls) bs) (gap (behind bytes (behind bytes from ls) bs) cells)

-- where the first of some blocks begins, or the region ends
abbrev pub next_start : ℕ → List ℕ → ℕ
next_start cells [] = cells
next_start cells (c ∷ cs) = c

-- the free runs behind the first of some blocks
abbrev pub beyond : List ℕ → ℕ → List ℕ → List FreeRun
beyond bytes cells [] = []
beyond bytes cells (c ∷ cs) = free_runs bytes cells (c + cells_in bytes c) cs

pub free_runs-first : (bytes : List ℕ) (cells from : ℕ) (bs : List ℕ) → free_runs bytes cells from bs ≡ gap from (next_start cells bs) ++ beyond bytes cells bs
free_runs-first bytes cells from [] = sym (append-nil (gap from cells))
free_runs-first bytes cells from (c ∷ cs) = append_assoc (gap from c) (gaps bytes (c + cells_in bytes c) cs) (gap (behind bytes (c + cells_in bytes c) cs) cells)

pub apart-right : (bytes : List ℕ) (cells from : ℕ) (ls bs : List ℕ) → AreApart bytes cells from (ls ++ bs) → AreApart bytes cells (behind bytes from ls) bs
apart-right bytes cells from [] bs a = a
apart-right bytes cells from (c ∷ ls) bs a = apart-right bytes cells (c + cells_in bytes c) ls bs a.2

-- the front of some blocks, with others behind it
pub apart-join : (bytes : List ℕ) (cells from : ℕ) (ls bs cs : List ℕ) → AreApart bytes cells from (ls ++ bs) → AreApart bytes cells (behind bytes from ls) cs → AreApart bytes cells from (ls ++ cs)
apart-join bytes cells from [] bs cs a h = h
apart-join bytes cells from (c ∷ ls) bs cs a h = (a.0, a.1, apart-join bytes cells (c + cells_in bytes c) ls bs cs a.2 h)

pub apart-lower : (bytes : List ℕ) (cells low from : ℕ) (bs : List ℕ) → low ≤ from → AreApart bytes cells from bs → AreApart bytes cells low bs
apart-lower bytes cells low from [] h a = omega arith
apart-lower bytes cells low from (c ∷ bs) h a = (omega arith, a.1, a.2)

pub apart-le : (bytes : List ℕ) (cells from : ℕ) (bs : List ℕ) → AreApart bytes cells from bs → from ≤ cells
apart-le bytes cells from [] a = a
apart-le bytes cells from (c ∷ bs) a = omega (arith, apart-le bytes cells (c + cells_in bytes c) bs a.2)

pub apart-next : (bytes : List ℕ) (cells from : ℕ) (bs : List ℕ) → AreApart bytes cells from bs → (from ≤ next_start cells bs) × (next_start cells bs ≤ cells)
apart-next bytes cells from [] a = (a, omega arith)
apart-next bytes cells from (c ∷ bs) a = (a.0, omega (arith, apart-le bytes cells (c + cells_in bytes c) bs a.2))

pub apart-raise : (bytes : List ℕ) (cells from high : ℕ) (bs : List ℕ) → high ≤ next_start cells bs → AreApart bytes cells from bs → AreApart bytes cells high bs
apart-raise bytes cells from high [] h a = h
apart-raise bytes cells from high (c ∷ bs) h a = (h, a.1, a.2)

pub beyond-same : (old new cs : List ℕ) (cells : ℕ) → AreSame old new cs → beyond new cells cs ≡ beyond old cells cs
beyond-same old new [] cells s = refl
beyond-same old new (c ∷ cs) cells s =
    ap (λ (k : ℕ). free_runs new cells (c + k) cs) (size-same old new c s.0) ∙ free_runs-same old new cs cells (c + cells_in old c) s.1

pub same-left : (old new ls bs : List ℕ) → AreSame old new (ls ++ bs) → AreSame old new ls
same-left old new [] bs s = tt
same-left old new (c ∷ ls) bs s = (s.0, same-left old new ls bs s.1)

pub same-right : (old new ls bs : List ℕ) → AreSame old new (ls ++ bs) → AreSame old new bs
same-right old new [] bs s = s
same-right old new (c ∷ ls) bs s = same-right old new ls bs s.1

-- ---- free runs rise

-- runs of some cells each, one behind the other, from a cell up to a limit
abbrev pub AreRising : ℕ → ℕ → List FreeRun → Type 0
AreRising from limit [] = from ≤ limit
AreRising from limit (r ∷ rs) = (from ≤ r.first) × (0 < r.cells) × AreRising (r.first + r.cells) limit rs

pub rising-lower : (low from limit : ℕ) (rs : List FreeRun) → low ≤ from → AreRising from limit rs → AreRising low limit rs
rising-lower low from limit [] h a = omega arith
rising-lower low from limit (r ∷ rs) h a = (omega arith, a.1, a.2)

pub rising-le : (from limit : ℕ) (rs : List FreeRun) → AreRising from limit rs → from ≤ limit
rising-le from limit [] a = a
rising-le from limit (r ∷ rs) a = omega (arith, rising-le (r.first + r.cells) limit rs a.2)

-- a gap and the runs behind it
pub rising-gap : (from to limit : ℕ) (rs : List FreeRun) → from ≤ to → AreRising to limit rs → AreRising from limit (gap from to ++ rs)
rising-gap from to limit rs h a =
    elim (cases_lt from to) [
      | inl l ↦ rw (gap-some from to l) (omega arith, omega arith, rising-lower (from + (to - from)) to limit rs (omega arith) a)
      | inr g ↦ rw (gap-none from to g) (rising-lower from to limit rs h a)
    ]

pub rising-runs : (bytes : List ℕ) (cells from : ℕ) (cs : List ℕ) → AreApart bytes cells from cs → AreRising from cells (free_runs bytes cells from cs)
rising-runs bytes cells from [] a = rw (← (append-nil (gap from cells))) (rising-gap from cells cells [] a (omega arith))
rising-runs bytes cells from (c ∷ cs) a =
    rw (append_assoc (gap from c) (gaps bytes (c + cells_in bytes c) cs) (gap (behind bytes (c + cells_in bytes c) cs) cells))
    (rising-gap from c cells (free_runs bytes cells (c + cells_in bytes c) cs) a.0 (rising-lower c (c + cells_in bytes c) cells (free_runs bytes cells (c + cells_in bytes c) cs) (omega arith) (rising-runs bytes cells (c + cells_in bytes c) cs a.2)))

pub record RisesInTwo (from limit : ℕ) (xs ys : List FreeRun) : Type 0 where
  pub middle : ℕ
  pub low : from ≤ middle
  pub left : AreRising from middle xs
  pub right : AreRising middle limit ys

pub rising-split : (from limit : ℕ) (xs ys : List FreeRun) → AreRising from limit (xs ++ ys) → RisesInTwo from limit xs ys
rising-split from limit [] ys a = record { middle = from; low = omega arith; left = omega arith; right = a }
rising-split from limit (x ∷ xs) ys a =
    let i : RisesInTwo (x.first + x.cells) limit xs ys = rising-split (x.first + x.cells) limit xs ys a.2 in
    record { middle = i.middle; low = omega (arith, i.low, a.0); left = (a.0, a.1, i.left); right = i.right }

-- ---- where a free run lies

pub record LiesBetween (bytes : List ℕ) (cells from : ℕ) (cs : List ℕ) (before : List FreeRun) (run : FreeRun) (after : List FreeRun) : Type 0 where
  pub left : List ℕ
  pub right : List ℕ
  pub is : cs ≡ left ++ right
  pub before_is : before ≡ gaps bytes from left
  pub first : run.first ≡ behind bytes from left
  pub end : run.first + run.cells ≡ next_start cells right
  pub some : 0 < run.cells
  pub after_is : after ≡ beyond bytes cells right

same_run : (a b : FreeRun) (ls bs : List FreeRun) → a ∷ ls ≡ b ∷ bs → (a ≡ b) × (ls ≡ bs)
same_run a b ls bs e = (cc, cc)

-- the first run, or one of those behind it
lies_first : (bytes : List ℕ) (cells from to : ℕ) (bs before : List FreeRun) (run : FreeRun) (after cs : List FreeRun) → from < to → gap from to ++ bs ≡ before ++ run ∷ after →
    ((before ≡ []) × (run ≡ record { first = from; cells = to - from }) × (after ≡ bs)) ⊎ ((rest : List FreeRun) × (before ≡ record { first = from; cells = to - from } ∷ rest) × (bs ≡ rest ++ run ∷ after))
lies_first bytes cells from to bs [] run after cs h e =
    let s = same_run (record { first = from; cells = to - from }) run bs after (sym (ap (λ (rs : List FreeRun). rs ++ bs) (gap-some from to h)) ∙ e) in
    inl (refl, sym s.0, sym s.1)
lies_first bytes cells from to bs (x ∷ xs) run after cs h e =
    let s = same_run (record { first = from; cells = to - from }) x bs (xs ++ run ∷ after) (sym (ap (λ (rs : List FreeRun). rs ++ bs) (gap-some from to h)) ∙ e) in
    inr (xs, ap (λ (r : FreeRun). r ∷ xs) (sym s.0), s.1)

no_run : (xs : List FreeRun) (r : FreeRun) (ys : List FreeRun) → [] ≡ xs ++ r ∷ ys → ⊥
no_run [] r ys e = cc
no_run (x ∷ xs) r ys e = cc

pub lies_between : (bytes : List ℕ) (cells from : ℕ) (cs : List ℕ) (before : List FreeRun) (run : FreeRun) (after : List FreeRun) → AreApart bytes cells from cs →
    free_runs bytes cells from cs ≡ before ++ run ∷ after → LiesBetween bytes cells from cs before run after
lies_between bytes cells from [] before run after a e =
    elim (cases_lt from cells) [
      | inl l ↦ elim (lies_first bytes cells from cells [] before run after [] l (append-nil (gap from cells) ∙ e)) [
        | inl s ↦ record {
          left = [];
          right = [];
          is = refl;
          before_is = s.0;
          first = ap (λ (r : FreeRun). r.first) s.1;
          end = ap (λ (r : FreeRun). r.first + r.cells) s.1 ∙ omega arith;
          some = rw s.1 (omega arith);
          after_is = s.2;
        }
        | inr s ↦ absurd (no_run s.0 run after s.2)
      ]
      | inr g ↦ absurd (no_run before run after (sym (gap-none from cells g) ∙ e))
    ]
lies_between bytes cells from (c ∷ cs) before run after a e =
    let bs : List FreeRun = free_runs bytes cells (c + cells_in bytes c) cs in
    let f : gap from c ++ bs ≡ before ++ run ∷ after = sym (append_assoc (gap from c) (gaps bytes (c + cells_in bytes c) cs) (gap (behind bytes (c + cells_in bytes c) cs) cells)) ∙ e in
    elim (cases_lt from c) [
      | inl l ↦ elim (lies_first bytes cells from c bs before run after [] l f) [
        | inl s ↦ record {
          left = [];
          right = c ∷ cs;
          is = refl;
          before_is = s.0;
          first = ap (λ (r : FreeRun). r.first) s.1;
          end = ap (λ (r : FreeRun). r.first + r.cells) s.1 ∙ omega arith;
          some = rw s.1 (omega arith);
          after_is = s.2;
        }
        | inr s ↦
            let i : LiesBetween bytes cells (c + cells_in bytes c) cs s.0 run after = lies_between bytes cells (c + cells_in bytes c) cs s.0 run after a.2 s.2 in
            record {
              left = c ∷ i.left;
              right = i.right;
              is = ap (λ (xs : List ℕ). c ∷ xs) i.is;
              before_is = s.1 ∙ ap (λ (rs : List FreeRun). record { first = from; cells = c - from } ∷ rs) i.before_is ∙ sym (ap (λ (rs : List FreeRun). rs ++ gaps bytes (c + cells_in bytes c) i.left) (gap-some from c l));
              first = i.first;
              end = i.end;
              some = i.some;
              after_is = i.after_is;
            }
      ]
      | inr g ↦
          let i : LiesBetween bytes cells (c + cells_in bytes c) cs before run after = lies_between bytes cells (c + cells_in bytes c) cs before run after a.2 (sym (ap (λ (rs : List FreeRun). rs ++ bs) (gap-none from c g)) ∙ f) in
          record {
            left = c ∷ i.left;
            right = i.right;
            is = ap (λ (xs : List ℕ). c ∷ xs) i.is;
            before_is = i.before_is ∙ sym (ap (λ (rs : List FreeRun). rs ++ gaps bytes (c + cells_in bytes c) i.left) (gap-none from c g));
            first = i.first;
            end = i.end;
            some = i.some;
            after_is = i.after_is;
          }
    ]

-- ---- blocks beside a run of cells

-- the blocks at some cells lie before a cell, or from another one on
abbrev pub AreClear : List ℕ → ℕ → ℕ → List ℕ → Type 0
AreClear bytes low high cs = AllByRecursion (λ c. (c + cells_in bytes c ≤ low) ⊎ (high ≤ c)) cs

pub clear-append : (bytes : List ℕ) (low high : ℕ) (ls bs : List ℕ) → AreClear bytes low high ls → AreClear bytes low high bs → AreClear bytes low high (ls ++ bs)
clear-append bytes low high [] bs a b = b
clear-append bytes low high (c ∷ ls) bs a b = (a.0, clear-append bytes low high ls bs a.1 b)

pub behind-le : (bytes : List ℕ) (cells from : ℕ) (ls bs : List ℕ) → AreApart bytes cells from (ls ++ bs) → from ≤ behind bytes from ls
behind-le bytes cells from [] bs a = omega arith
behind-le bytes cells from (c ∷ ls) bs a = omega (arith, a.0, behind-le bytes cells (c + cells_in bytes c) ls bs a.2)

pub clear-left : (bytes : List ℕ) (cells from low high : ℕ) (ls bs : List ℕ) → AreApart bytes cells from (ls ++ bs) → behind bytes from ls ≤ low → AreClear bytes low high ls
clear-left bytes cells from low high [] bs a h = tt
clear-left bytes cells from low high (c ∷ ls) bs a h =
    (inl (omega (arith, h, behind-le bytes cells (c + cells_in bytes c) ls bs a.2)), clear-left bytes cells (c + cells_in bytes c) low high ls bs a.2 h)

pub clear-right : (bytes : List ℕ) (cells from low high : ℕ) (bs : List ℕ) → AreApart bytes cells from bs → high ≤ from → AreClear bytes low high bs
clear-right bytes cells from low high [] a h = tt
clear-right bytes cells from low high (c ∷ bs) a h = (inr (omega (arith, a.0)), clear-right bytes cells (c + cells_in bytes c) low high bs a.2 (omega (arith, a.0)))

-- the blocks behind a gap
pub clear-next : (bytes : List ℕ) (cells from low high : ℕ) (bs : List ℕ) → AreApart bytes cells from bs → high ≤ next_start cells bs → AreClear bytes low high bs
clear-next bytes cells from low high [] a h = tt
clear-next bytes cells from low high (c ∷ bs) a h = (inr h, clear-right bytes cells (c + cells_in bytes c) low high bs a.2 (omega arith))

-- no block has a cell of a free run
pub clear-run : (bytes : List ℕ) (cells from : ℕ) (cs : List ℕ) (before : List FreeRun) (run : FreeRun) (after : List FreeRun) → AreApart bytes cells from cs → LiesBetween bytes cells from cs before run after →
    AreClear bytes run.first (run.first + run.cells) cs
clear-run bytes cells from cs before run after a b =
    let c : AreApart bytes cells from (b.left ++ b.right) = subst (AreApart bytes cells from) b.is a in
    let low : behind bytes from b.left ≤ run.first = omega (arith, b.first) in
    let high : run.first + run.cells ≤ next_start cells b.right = omega (arith, b.end) in
    subst (AreClear bytes run.first (run.first + run.cells)) (sym b.is)
    (clear-append bytes run.first (run.first + run.cells) b.left b.right
    (clear-left bytes cells from run.first (run.first + run.cells) b.left b.right c low)
    (clear-next bytes cells (behind bytes from b.left) run.first (run.first + run.cells) b.right (apart-right bytes cells from b.left b.right c) high))

pub clear-less : (bytes : List ℕ) (low high top : ℕ) (cs : List ℕ) → top ≤ high → AreClear bytes low high cs → AreClear bytes low top cs
clear-less bytes low high top [] h c = tt
clear-less bytes low high top (x ∷ cs) h c = (elim c.0 [ inl l ↦ inl l | inr l ↦ inr (omega arith) ], clear-less bytes low high top cs h c.1)

high-from : (bytes : List ℕ) (cells from at : ℕ) (bs : List ℕ) → AreApart bytes cells from bs → at ≤ from → AllByRecursion (λ c. at ≤ c) bs
high-from bytes cells from at [] a h = tt
high-from bytes cells from at (c ∷ bs) a h = (omega (arith, a.0), high-from bytes cells (c + cells_in bytes c) at bs a.2 (omega (arith, a.0)))

-- blocks before and behind a cell, by their first cells
pub all-starts-low : (bytes : List ℕ) (cells from at : ℕ) (ls bs : List ℕ) → AreApart bytes cells from (ls ++ bs) → behind bytes from ls ≤ at → AllByRecursion (λ c. c < at) ls
all-starts-low bytes cells from at [] bs a h = tt
all-starts-low bytes cells from at (c ∷ ls) bs a h =
    (omega (arith, h, behind-le bytes cells (c + cells_in bytes c) ls bs a.2), all-starts-low bytes cells (c + cells_in bytes c) at ls bs a.2 h)

pub all-starts-high : (bytes : List ℕ) (cells from at : ℕ) (bs : List ℕ) → AreApart bytes cells from bs → at ≤ next_start cells bs → AllByRecursion (λ c. at ≤ c) bs
all-starts-high bytes cells from at [] a h = tt
all-starts-high bytes cells from at (c ∷ bs) a h = (h, high-from bytes cells (c + cells_in bytes c) at bs a.2 (omega arith))

pub clear-without : (bytes : List ℕ) (low high : ℕ) (ls : List ℕ) (c : ℕ) (rs : List ℕ) → AreClear bytes low high (ls ++ c ∷ rs) → AreClear bytes low high (ls ++ rs)
clear-without bytes low high [] c rs a = a.1
clear-without bytes low high (x ∷ ls) c rs a = (a.0, clear-without bytes low high ls c rs a.1)
