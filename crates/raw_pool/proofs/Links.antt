-- The free list: its parts, and what leaves them as they are.
use Rattle.std.proofs.Common.{◌≡◌, ℕ, ◌+◌, ◌*◌, ◌<◌, ◌≤◌, ◌⊎◌, inl, inr, List, [], ◌∷◌, ◌++◌, length, refl, sym, ap, ◌∙◌, append_assoc, arith, subst, eq-eqb, ne_eqb}
use Rattle.std.specs.List.{AllByRecursion}
use Rattle.std.proofs.lemmas.List.{append-nil}
use Rattle.raw_pool.specs.Bytes.{word}
use Rattle.raw_pool.specs.FreeList.{FreeRun, IsRun, AreLinked, link}
use Rattle.raw_pool.specs.Searches.{IsPath, Scan}
use Rattle.raw_pool.proofs.Runs.{AreRising, RisesInTwo, rising-split, rising-le}

pub link-head : (bytes : List ℕ) (cells head run : ℕ) → run ≡ cells → link bytes cells head run ≡ head
unfolding link
link-head bytes cells head run e = rw (eq-eqb run cells e) refl

pub link-run : (bytes : List ℕ) (cells head run : ℕ) → run < cells → link bytes cells head run ≡ word bytes (32 * run + 8)
unfolding link
link-run bytes cells head run h = rw (ne_eqb run cells (λ e. omega arith)) refl

-- ---- parts of the list

pub path-join : (bytes : List ℕ) (cells head from : ℕ) (xs ys : List FreeRun) (to : ℕ) → IsPath bytes cells head from xs to → AreLinked bytes cells head (link bytes cells head to) ys →
    AreLinked bytes cells head (link bytes cells head from) (xs ++ ys)
path-join bytes cells head from [] ys to p l = subst (λ (k : ℕ). AreLinked bytes cells head (link bytes cells head k) ys) p l
path-join bytes cells head from (x ∷ xs) ys to p l = (p.0, p.1, path-join bytes cells head x.first xs ys to p.2 l)

pub path-more : (bytes : List ℕ) (cells head from : ℕ) (xs : List FreeRun) (to : ℕ) (r : FreeRun) → IsPath bytes cells head from xs to → link bytes cells head to ≡ r.first → IsRun bytes r →
    IsPath bytes cells head from (xs ++ r ∷ []) r.first
path-more bytes cells head from [] to r p e i = (ap (link bytes cells head) (sym p) ∙ e, i, refl)
path-more bytes cells head from (x ∷ xs) to r p e i = (p.0, p.1, path-more bytes cells head x.first xs to r p.2 e i)

pub record EndsWith (bytes : List ℕ) (cells head from : ℕ) (xs : List FreeRun) (to : ℕ) (r : FreeRun) : Type 0 where
  pub middle : ℕ
  pub path : IsPath bytes cells head from xs middle
  pub leads : link bytes cells head middle ≡ r.first
  pub run : IsRun bytes r
  pub end : to ≡ r.first

pub path-last : (bytes : List ℕ) (cells head from : ℕ) (xs : List FreeRun) (r : FreeRun) (to : ℕ) → IsPath bytes cells head from (xs ++ r ∷ []) to → EndsWith bytes cells head from xs to r
path-last bytes cells head from [] r to p = record { middle = from; path = refl; leads = p.0; run = p.1; end = p.2 }
path-last bytes cells head from (x ∷ xs) r to p =
    let i : EndsWith bytes cells head x.first xs to r = path-last bytes cells head x.first xs r to p.2 in
    record { middle = i.middle; path = (p.0, p.1, i.path); leads = i.leads; run = i.run; end = i.end }

-- a path ends at the head, with no run, or at a run of it
pub path-end : (bytes : List ℕ) (cells head from low limit : ℕ) (xs : List FreeRun) (to : ℕ) → AreRising low limit xs → limit ≤ cells → IsPath bytes cells head from xs to → ((xs ≡ []) × (to ≡ from)) ⊎ ((low ≤ to) × (to < limit))
path-end bytes cells head from low limit [] to a h p = inl (refl, p)
path-end bytes cells head from low limit (x ∷ xs) to a h p =
    elim (path-end bytes cells head x.first (x.first + x.cells) limit xs to a.2 h p.2) [
      | inl s ↦ inr (omega (arith, a.0, s.1), omega (arith, a.1, s.1, rising-le (x.first + x.cells) limit xs a.2))
      | inr s ↦ inr (omega (arith, a.0, s.0), s.1)
    ]

-- ---- bytes that change elsewhere

-- All that lies below a cell is as it was: words and links that runs below it have.
pub record KeepsBelow (old new : List ℕ) (cells head' head : ℕ) (top : ℕ) : Type 0 where
  pub longer : length old ≤ length new
  pub words : (run : ℕ) → run ≤ top → word new (32 * run) ≡ word old (32 * run)
  pub links : (run : ℕ) → (run ≡ cells) ⊎ (run < top) → link new cells head' run ≡ link old cells head run

pub path-kept : (old new : List ℕ) (cells head' head from low limit : ℕ) (xs : List FreeRun) (to : ℕ) → AreRising low limit xs → limit ≤ cells → (from ≡ cells) ⊎ (from < low) →
    KeepsBelow old new cells head' head to → IsPath old cells head from xs to → IsPath new cells head' from xs to
path-kept old new cells head' head from low limit [] to a h f k p = p
path-kept old new cells head' head from low limit (x ∷ xs) to a h f k p =
    let up : x.first ≤ to = elim (path-end old cells head x.first (x.first + x.cells) limit xs to a.2 h p.2) [ inl s ↦ omega (arith, s.1) | inr s ↦ omega (arith, s.0) ] in
    let below : (from ≡ cells) ⊎ (from < to) = elim f [ inl e ↦ inl e | inr l ↦ inr (omega (arith, a.0)) ] in
    let i : IsRun old x = p.1 in
    (k.links from below ∙ p.0, (k.words x.first up ∙ i.0, omega (arith, k.longer, i.1)), path-kept old new cells head' head x.first (x.first + x.cells) limit xs to a.2 h (inr (omega (arith, a.1))) k p.2)

-- All that lies from a cell on is as it was.
pub record KeepsAbove (old new : List ℕ) (low : ℕ) : Type 0 where
  pub longer : length old ≤ length new
  pub words : (at : ℕ) → 32 * low ≤ at → word new at ≡ word old at

pub linked-kept : (old new : List ℕ) (cells head' head to low : ℕ) (xs : List FreeRun) → AreRising low cells xs → KeepsAbove old new low → AreLinked old cells head to xs → AreLinked new cells head' to xs
linked-kept old new cells head' head to low [] a k l = l
linked-kept old new cells head' head to low (x ∷ xs) a k l =
    let i : IsRun old x = l.1 in
    let up : x.first + x.cells ≤ cells = rising-le (x.first + x.cells) cells xs a.2 in
    let below : x.first < cells = omega (arith, a.1) in
    let e : link new cells head' x.first ≡ link old cells head x.first =
    link-run new cells head' x.first below ∙ k.words (32 * x.first + 8) (omega (arith, a.0)) ∙ sym (link-run old cells head x.first below) in
    let above : KeepsAbove old new (x.first + x.cells) = record { longer = k.longer; words = λ at h. k.words at (omega (arith, a.0)) } in (
      l.0,
      (k.words (32 * x.first) (omega (arith, a.0)) ∙ i.0, omega (arith, k.longer, i.1)),
      subst (λ (j : ℕ). AreLinked new cells head' j xs) (sym e) (linked-kept old new cells head' head (link old cells head x.first) (x.first + x.cells) xs a.2 above l.2),
    )

-- the list, from its head, once what follows a place of it has changed
pub relinked : (old new : List ℕ) (cells head' head low limit last : ℕ) (xs ys : List FreeRun) → AreRising low limit xs → limit ≤ cells → (last < cells → KeepsBelow old new cells head' head last) → IsPath old cells head cells xs last →
    AreLinked new cells head' (link new cells head' last) ys → AreLinked new cells head' head' (xs ++ ys)
relinked old new cells head' head low limit last xs ys a h k p l =
    let kept : IsPath new cells head' cells xs last = elim (path-end old cells head cells low limit xs last a h p) [
      | inl s ↦ subst (λ (zs : List FreeRun). IsPath new cells head' cells zs last) (sym s.0) s.1
      | inr s ↦ path-kept old new cells head' head cells low limit xs last a h (inl refl) (k (omega arith)) p
    ] in
    subst (λ (j : ℕ). AreLinked new cells head' j (xs ++ ys)) (link-head new cells head' cells refl) (path-join new cells head' cells xs ys last kept l)

-- the run at which a path ends
pub record LastRun (xs : List FreeRun) (to : ℕ) : Type 0 where
  pub front : List FreeRun
  pub run : FreeRun
  pub is : xs ≡ front ++ run ∷ []
  pub first : to ≡ run.first

pub last_run : (bytes : List ℕ) (cells head from : ℕ) (xs : List FreeRun) (to : ℕ) → IsPath bytes cells head from xs to → ((xs ≡ []) × (to ≡ from)) ⊎ LastRun xs to
last_run bytes cells head from [] to p = inl (refl, p)
last_run bytes cells head from (x ∷ xs) to p =
    elim (last_run bytes cells head x.first xs to p.2) [
      | inl s ↦ inr (record { front = []; run = x; is = ap (λ (zs : List FreeRun). x ∷ zs) s.0; first = s.1 })
      | inr s ↦ inr (record { front = x ∷ s.front; run = s.run; is = ap (λ (zs : List FreeRun). x ∷ zs) s.is; first = s.first })
    ]

-- ---- a walk

pub record Here (bytes : List ℕ) (cells head : ℕ) (after : List FreeRun) (next : ℕ) : Type 0 where
  pub run : FreeRun
  pub rest : List FreeRun
  pub is : after ≡ run ∷ rest
  pub first : next ≡ run.first
  pub run_is : IsRun bytes run
  pub linked : AreLinked bytes cells head (link bytes cells head run.first) rest

pub here : (bytes : List ℕ) (cells head : ℕ) (after : List FreeRun) (next : ℕ) → next < cells → AreLinked bytes cells head next after → Here bytes cells head after next
here bytes cells head [] next h l = absurd (omega arith)
here bytes cells head (r ∷ rs) next h l = record { run = r; rest = rs; is = refl; first = l.0; run_is = l.1; linked = l.2 }

-- where the next run begins is behind this one
pub next_rises : (bytes : List ℕ) (cells head low next : ℕ) (rs : List FreeRun) → AreRising low cells rs → AreLinked bytes cells head next rs → (low ≤ next) × (next ≤ cells)
next_rises bytes cells head low next [] a l = (omega (arith, a), omega arith)
next_rises bytes cells head low next (r ∷ rs) a l = (omega (arith, a.0, l.0), omega (arith, l.0, a.1, rising-le (r.first + r.cells) cells rs a.2))

all-push : (P : FreeRun → Type 0) (xs : List FreeRun) (r : FreeRun) → AllByRecursion P xs → P r → AllByRecursion P (xs ++ r ∷ [])
all-push P [] r a p = (p, tt)
all-push P (x ∷ xs) r a p = (a.0, all-push P xs r a.1 p)

pub scan-start : (P : FreeRun → Type 0) (bytes : List ℕ) (cells head : ℕ) (runs : List FreeRun) → AreLinked bytes cells head head runs → Scan P bytes cells head runs cells head
scan-start P bytes cells head runs l =
    record { before = []; after = runs; is = refl; passed = tt; path = refl; linked = l; next_is = sym (link-head bytes cells head cells refl) }

pub scan-more : (P : FreeRun → Type 0) (bytes : List ℕ) (cells head : ℕ) (runs : List FreeRun) (last next : ℕ) (s : Scan P bytes cells head runs last next) (h : Here bytes cells head s.after next) → P h.run →
    Scan P bytes cells head runs next (link bytes cells head next)
scan-more P bytes cells head runs last next s h p =
    record {
      before = s.before ++ h.run ∷ [];
      after = h.rest;
      is = s.is ∙ ap (λ (rs : List FreeRun). s.before ++ rs) h.is ∙ sym (append_assoc s.before (h.run ∷ []) h.rest);
      passed = all-push P s.before h.run s.passed p;
      path = subst (λ (k : ℕ). IsPath bytes cells head cells (s.before ++ h.run ∷ []) k) (sym h.first) (path-more bytes cells head cells s.before last h.run s.path (sym s.next_is ∙ h.first) h.run_is);
      linked = subst (λ (k : ℕ). AreLinked bytes cells head (link bytes cells head k) h.rest) (sym h.first) h.linked;
      next_is = refl;
    }

-- the run behind the place: set, behind those passed, and below the region's end
pub record RunHere (bytes : List ℕ) (cells head next : ℕ) : Type 0 where
  pub set : 32 * next + 16 ≤ length bytes
  pub rises : next < link bytes cells head next
  pub within : link bytes cells head next ≤ cells

pub run_here : (P : FreeRun → Type 0) (bytes : List ℕ) (cells head low : ℕ) (runs : List FreeRun) (last next : ℕ) (s : Scan P bytes cells head runs last next) → next < cells → AreRising low cells runs → RunHere bytes cells head next
run_here P bytes cells head low runs last next s l a =
    let h : Here bytes cells head s.after next = here bytes cells head s.after next l s.linked in
    let t : RisesInTwo low cells s.before s.after = rising-split low cells s.before s.after (subst (AreRising low cells) s.is a) in
    let u : AreRising t.middle cells (h.run ∷ h.rest) = subst (AreRising t.middle cells) h.is t.right in
    let i : IsRun bytes h.run = h.run_is in
    let n = next_rises bytes cells head (h.run.first + h.run.cells) (link bytes cells head h.run.first) h.rest u.2 h.linked in
    let e : link bytes cells head next ≡ link bytes cells head h.run.first = ap (link bytes cells head) h.first in
    record { set = omega (arith, i.1, h.first); rises = omega (arith, n.0, u.1, e, h.first); within = omega (arith, n.1, e) }

pub no_runs : (bytes : List ℕ) (cells head low next : ℕ) (rs : List FreeRun) → cells ≤ next → AreRising low cells rs → AreLinked bytes cells head next rs → rs ≡ []
no_runs bytes cells head low next [] h a l = refl
no_runs bytes cells head low next (r ∷ rs) h a l = absurd (omega (arith, l.0, a.1, rising-le (r.first + r.cells) cells rs a.2))

-- all runs were passed
pub scan_done : (P : FreeRun → Type 0) (bytes : List ℕ) (cells head low : ℕ) (runs : List FreeRun) (last next : ℕ) → Scan P bytes cells head runs last next → cells ≤ next → AreRising low cells runs → AllByRecursion P runs
scan_done P bytes cells head low runs last next s h a =
    let t : RisesInTwo low cells s.before s.after = rising-split low cells s.before s.after (subst (AreRising low cells) s.is a) in
    let e : runs ≡ s.before = s.is ∙ ap (λ (rs : List FreeRun). s.before ++ rs) (no_runs bytes cells head t.middle next s.after h t.right s.linked) ∙ append-nil s.before in
    subst (AllByRecursion P) (sym e) s.passed
