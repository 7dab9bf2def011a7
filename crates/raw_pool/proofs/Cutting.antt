-- Cells taken off the front of a free run.
use Rattle.std.proofs.Common.{ℕ, ◌+◌, ◌-◌, ◌*◌, ◌^◌, ◌<◌, ◌≤◌, List, length, replicate, refl, ◌∙◌, arith}
use Rattle.std.proofs.lemmas.List.{length-replicate}
use Rattle.byteorder.specs.Endian.{little_bytes}
use Rattle.raw_pool.specs.Bytes.{put, word}
use Rattle.raw_pool.specs.FreeList.{link}
use Rattle.raw_pool.specs.Searches.{IsCut}
use Rattle.raw_pool.proofs.Puts.{put_before, put_inside, length-put, word-same, word-put}
use Rattle.raw_pool.proofs.Changes.{Changes, no_changes, changes-cells}

cleared : (old : List ℕ) (cells at need : ℕ) → 32 * at ≤ length old → need ≤ word old (32 * at) → Changes old (put old (32 * at) (replicate (32 * need) 0)) cells cells at (at + word old (32 * at))
cleared old cells at need h f =
    changes-cells old old (replicate (32 * need) 0) cells cells at (at + word old (32 * at)) (32 * at) (no_changes old cells cells at (at + word old (32 * at))) h (omega arith)
    (omega (arith, length-replicate {A = ℕ} (32 * need) 0))

pub cut-whole : (old : List ℕ) (cells head at need : ℕ) → 32 * at ≤ length old → need ≤ word old (32 * at) → word old (32 * at) ≤ need →
    IsCut old (put old (32 * at) (replicate (32 * need) 0)) cells head at need (link old cells head at)
cut-whole old cells head at need h f g =
    let c = cleared old cells at need h f in
    record {
      longer = c.longer;
      parts = λ off n x. c.parts off n x (λ r. absurd (omega arith));
      zeros = λ off n l u. put_inside old (32 * at) (32 * need) off n h l (omega arith);
      set = omega (arith, length-put old (replicate (32 * need) 0) (32 * at) h, length-replicate {A = ℕ} (32 * need) 0);
      whole = λ x. refl;
      left = λ x. absurd (omega arith);
    }

pub cut-rest : (old : List ℕ) (cells head at need : ℕ) → 32 * at ≤ length old → need < word old (32 * at) → word old (32 * at) < 2 ^ 64 → link old cells head at < 2 ^ 64 →
    IsCut old (put (put (put old (32 * at) (replicate (32 * need) 0)) (32 * (at + need)) (little_bytes 8 (word old (32 * at) - need))) (32 * (at + need) + 8) (little_bytes 8 (link old cells head at))) cells head at need (at + need)
cut-rest old cells head at need h f small next =
    let k : ℕ = word old (32 * at) in
    let one : List ℕ = put old (32 * at) (replicate (32 * need) 0) in
    let two : List ℕ = put one (32 * (at + need)) (little_bytes 8 (k - need)) in
    let three : List ℕ = put two (32 * (at + need) + 8) (little_bytes 8 (link old cells head at)) in
    let n1 : 32 * (at + need) ≤ length one = omega (arith, length-put old (replicate (32 * need) 0) (32 * at) h, length-replicate {A = ℕ} (32 * need) 0) in
    let n2 : 32 * (at + need) + 8 ≤ length two = omega (arith, length-put one (little_bytes 8 (k - need)) (32 * (at + need)) n1) in
    let n3 : 32 * (at + need) + 16 ≤ length three = omega (arith, length-put two (little_bytes 8 (link old cells head at)) (32 * (at + need) + 8) n2) in
    let c1 : Changes old one cells cells at (at + k) = cleared old cells at need h (omega arith) in
    let c2 : Changes old two cells cells at (at + k) = changes-cells old one (little_bytes 8 (k - need)) cells cells at (at + k) (32 * (at + need)) c1 n1 (omega arith) (omega arith) in
    let c3 : Changes old three cells cells at (at + k) = changes-cells old two (little_bytes 8 (link old cells head at)) cells cells at (at + k) (32 * (at + need) + 8) c2 n2 (omega arith) (omega arith) in
    record {
      longer = c3.longer;
      parts = λ off n x. c3.parts off n x (λ r. absurd (omega arith));
      zeros = λ off n l u.
          put_before two (little_bytes 8 (link old cells head at)) (32 * (at + need) + 8) off n n2 (omega arith)
          ∙ put_before one (little_bytes 8 (k - need)) (32 * (at + need)) off n n1 (omega arith)
          ∙ put_inside old (32 * at) (32 * need) off n h l (omega arith);
      set = omega arith;
      whole = λ x. absurd (omega arith);
      left = λ x. (
        refl,
        word-same two three (32 * (at + need)) (put_before two (little_bytes 8 (link old cells head at)) (32 * (at + need) + 8) (32 * (at + need)) 8 n2 (omega arith)) ∙ word-put one (32 * (at + need)) (k - need) n1 (omega arith),
        word-put two (32 * (at + need) + 8) (link old cells head at) n2 next,
        n3,
      );
    }
