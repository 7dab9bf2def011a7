-- Bytes that change in some cells, and in the link of one free run.
use Rattle.std.proofs.Common.{◌≡◌, ℕ, ◌+◌, ◌*◌, ◌<◌, ◌≤◌, ◌⊎◌, inl, inr, List, [], ◌∷◌, length, refl, sym, ap, ◌∙◌, arith}
use Rattle.raw_pool.specs.Bytes.{part, put, word}
use Rattle.raw_pool.specs.FreeList.{block_in, cells_in}
use Rattle.raw_pool.proofs.Puts.{put_before, put_behind, length-put, word-same}
use Rattle.raw_pool.proofs.Runs.{AreSame, AreClear}
use Rattle.raw_pool.proofs.Links.{KeepsBelow, KeepsAbove, link-head, link-run}

-- Only bytes of the cells from `low` up to `high` change, and the link of the run `last`, if there is one.
pub record Changes (old new : List ℕ) (cells last low high : ℕ) : Type 0 where
  pub longer : length old ≤ length new
  pub parts : (off n : ℕ) → (off + n ≤ 32 * low) ⊎ (32 * high ≤ off) → (last < cells → (off + n ≤ 32 * last + 8) ⊎ (32 * last + 16 ≤ off)) → part new off n ≡ part old off n

pub no_changes : (old : List ℕ) (cells last low high : ℕ) → Changes old old cells last low high
no_changes old cells last low high = record { longer = omega arith; parts = λ off n u v. refl }

-- a write into the cells
pub changes-cells : (old now new : List ℕ) (cells last low high at : ℕ) → Changes old now cells last low high → at ≤ length now → 32 * low ≤ at → at + length new ≤ 32 * high → Changes old (put now at new) cells last low high
changes-cells old now new cells last low high at c h l u =
    record {
      longer = omega (arith, c.longer, length-put now new at h);
      parts = λ off n x y.
          elim x [ inl b ↦ put_before now new at off n h (omega arith) | inr a ↦ put_behind now new at off n h (omega arith) ] ∙ c.parts off n x y;
    }

-- a write into the link of the run
pub changes-link : (old now new : List ℕ) (cells last low high : ℕ) → Changes old now cells last low high → last < cells → 32 * last + 8 ≤ length now → length new ≡ 8 → Changes old (put now (32 * last + 8) new) cells last low high
changes-link old now new cells last low high c l h n =
    record {
      longer = omega (arith, c.longer, length-put now new (32 * last + 8) h);
      parts = λ off m x y.
          elim (y l) [ inl b ↦ put_before now new (32 * last + 8) off m h (omega arith) | inr a ↦ put_behind now new (32 * last + 8) off m h (omega arith) ] ∙ c.parts off m x y;
    }

block-same : (old new : List ℕ) (x : ℕ) → part new (32 * x) 8 ≡ part old (32 * x) 8 → part new (32 * x + 8) (word old (32 * x)) ≡ part old (32 * x + 8) (word old (32 * x)) → block_in new x ≡ block_in old x
unfolding block_in
block-same old new x e f =
    let w : word new (32 * x) ≡ word old (32 * x) = word-same old new (32 * x) e in
    ap (λ (n : ℕ). record { first = x; size = n; bytes = part new (32 * x + 8) n }) w ∙ ap (λ (bs : List ℕ). record { first = x; size = word old (32 * x); bytes = bs }) f

size-word : (bytes : List ℕ) (x : ℕ) → (block_in bytes x).size ≡ word bytes (32 * x)
unfolding block_in
size-word bytes x = refl

pub same-blocks : (old new : List ℕ) (cells last low high : ℕ) (cs : List ℕ) → Changes old new cells last low high → AreClear old low high cs → (last < cells → AreClear old last (last + 1) cs) → AreSame old new cs
same-blocks old new cells last low high [] c k l = tt
same-blocks old new cells last low high (x ∷ cs) c k l =
    let z : (block_in old x).size ≡ word old (32 * x) = size-word old x in
    let w : ℕ = word old (32 * x) in
    let n : 8 + w ≤ 32 * cells_in old x = omega arith in
    let cells_at : (off m : ℕ) → 32 * x ≤ off → off + m ≤ 32 * (x + cells_in old x) → part new off m ≡ part old off m =
    λ off m a b. c.parts off m
    (elim k.0 [ inl i ↦ inl (omega arith) | inr i ↦ inr (omega arith) ])
    (λ r. elim (l r).0 [ inl i ↦ inl (omega arith) | inr i ↦ inr (omega arith) ]) in (
      block-same old new x (cells_at (32 * x) 8 (omega arith) (omega arith)) (cells_at (32 * x + 8) w (omega arith) (omega arith)),
      same-blocks old new cells last low high cs c k.1 (λ r. (l r).1),
    )

pub keeps-below : (old new : List ℕ) (cells head' head last low high : ℕ) → Changes old new cells last low high → last < cells → last < low → head' ≡ head → KeepsBelow old new cells head' head last
keeps-below old new cells head' head last low high c l b e =
    record {
      longer = c.longer;
      words = λ run h. word-same old new (32 * run) (c.parts (32 * run) 8 (inl (omega arith)) (λ r. inl (omega arith)));
      links = λ run h. elim h [
        | inl i ↦ link-head new cells head' run i ∙ e ∙ sym (link-head old cells head run i)
        | inr i ↦ link-run new cells head' run (omega arith)
            ∙ word-same old new (32 * run + 8) (c.parts (32 * run + 8) 8 (inl (omega arith)) (λ r. inl (omega arith)))
            ∙ sym (link-run old cells head run (omega arith))
      ];
    }

pub keeps-above : (old new : List ℕ) (cells last low high : ℕ) → Changes old new cells last low high → (last < cells → last < high) → KeepsAbove old new high
keeps-above old new cells last low high c b =
    record { longer = c.longer; words = λ at h. word-same old new at (c.parts at 8 (inr h) (λ r. inr (omega (arith, b r)))) }
