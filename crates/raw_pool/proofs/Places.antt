-- The place that a walk has reached: what is known of the run that it passed last, and of the one that it has come to.
use Rattle.std.proofs.Common.{◌≡◌, ℕ, ◌+◌, ◌*◌, ◌<◌, ◌≤◌, ◌==◌, ◌⊎◌, inl, inr, cond, List, [], ◌∷◌, ◌++◌, length, refl, sym, ap, ◌∙◌, append_assoc, arith, subst, eq-eqb, ne_eqb, ◌^◌}
use Rattle.std.proofs.lemmas.Bool.{cases_eq}
use Rattle.byteorder.specs.Endian.{little_bytes}
use Rattle.raw_pool.specs.Bytes.{put}
use Rattle.raw_pool.specs.FreeList.{FreeRun, IsRun, AreApart, free_runs, link}
use Rattle.raw_pool.specs.Searches.{IsPath}
use Rattle.raw_pool.proofs.Puts.{word-put}
use Rattle.raw_pool.proofs.Runs.{AreRising, RisesInTwo, rising-split, rising-le, rising-runs, LiesBetween, lies_between, AreClear, clear-run, clear-less}
use Rattle.raw_pool.proofs.Links.{EndsWith, path-last, last_run, link-head, link-run}
use Rattle.raw_pool.proofs.Changes.{Changes, no_changes, changes-link}

-- the run that was passed last
pub record Passed (bytes : List ℕ) (cells : ℕ) (starts : List ℕ) (before : List FreeRun) (last : ℕ) : Type 0 where
  pub front : List FreeRun
  pub run : FreeRun
  pub is : before ≡ front ++ run ∷ []
  pub first : last ≡ run.first
  pub run_is : IsRun bytes run
  pub some : 0 < run.cells
  pub within : run.first + run.cells ≤ cells
  pub clear : AreClear bytes last (last + 1) starts

pub passed : (bytes : List ℕ) (cells head : ℕ) (starts : List ℕ) (before after : List FreeRun) (last : ℕ) → AreApart bytes cells 0 starts → free_runs bytes cells 0 starts ≡ before ++ after → IsPath bytes cells head cells before last →
    ((before ≡ []) × (last ≡ cells)) ⊎ Passed bytes cells starts before last
passed bytes cells head starts before after last a e p =
    elim (last_run bytes cells head cells before last p) [
      | inl s ↦ inl s
      | inr s ↦
          let whole : free_runs bytes cells 0 starts ≡ s.front ++ s.run ∷ after = e ∙ ap (λ (rs : List FreeRun). rs ++ after) s.is ∙ append_assoc s.front (s.run ∷ []) after in
          let b : LiesBetween bytes cells 0 starts s.front s.run after = lies_between bytes cells 0 starts s.front s.run after a whole in
          let r : RisesInTwo 0 cells s.front (s.run ∷ after) = rising-split 0 cells s.front (s.run ∷ after) (subst (AreRising 0 cells) whole (rising-runs bytes cells 0 starts a)) in
          let q : EndsWith bytes cells head cells s.front last s.run = path-last bytes cells head cells s.front s.run last (subst (λ (rs : List FreeRun). IsPath bytes cells head cells rs last) s.is p) in
          inr (record {
            front = s.front;
            run = s.run;
            is = s.is;
            first = s.first;
            run_is = q.run;
            some = b.some;
            within = rising-le (s.run.first + s.run.cells) cells after r.right.2;
            clear = subst (λ (k : ℕ). AreClear bytes k (k + 1) starts) (sym s.first) (clear-less bytes s.run.first (s.run.first + s.run.cells) (s.run.first + 1) starts (omega (arith, b.some)) (clear-run bytes cells 0 starts s.front s.run after a b));
          })
    ]

-- ---- a link is set

pub record LinkIsSet (old new : List ℕ) (cells head' head last to : ℕ) : Type 0 where
  pub changes : Changes old new cells last 0 0
  pub leads : link new cells head' last ≡ to
  pub kept : last < cells → head' ≡ head

pub link_set : (old : List ℕ) (cells head last to : ℕ) → last ≤ cells → (last < cells → 32 * last + 16 ≤ length old) → to < 2 ^ 64 →
    LinkIsSet old (cond (last == cells) old (put old (32 * last + 8) (little_bytes 8 to))) cells (cond (last == cells) to head) head last to
link_set old cells head last to h s f =
    elim (cases_eq last cells) [
      | inl e ↦ rw (eq-eqb last cells e) (record { changes = no_changes old cells last 0 0; leads = link-head old cells to last e; kept = λ l. absurd (omega arith) })
      | inr e ↦
          let l : last < cells = omega (arith, e) in
          let n : 32 * last + 8 ≤ length old = omega (arith, s l) in
          rw (ne_eqb last cells e) (record {
            changes = changes-link old old (little_bytes 8 to) cells last 0 0 (no_changes old cells last 0 0) l n refl;
            leads = link-run (put old (32 * last + 8) (little_bytes 8 to)) cells head last l ∙ word-put old (32 * last + 8) to n f;
            kept = λ k. refl;
          })
    ]

pub changes-then : (old now new : List ℕ) (cells last low high : ℕ) → Changes old now cells last low high → Changes now new cells last 0 0 → Changes old new cells last low high
changes-then old now new cells last low high c d =
    record { longer = omega (arith, c.longer, d.longer); parts = λ off n x y. d.parts off n (inr (omega arith)) y ∙ c.parts off n x y }
