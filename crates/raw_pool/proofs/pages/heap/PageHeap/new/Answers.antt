use Rattle.std.proofs.Common.{◌≡◌, ◌+◌, ◌++◌, ℕ, List, [], replicate, length, ap, sym, ◌∙◌, append-nil}
use Rattle.std.proofs.Math.Seq.{drop-nil}
use Rattle.raw_pool.specs.Bytes.{put}
use Rattle.raw_pool.proofs.pages.heap.PageHeap.new.Goals as goal

put_first : (new : List ℕ) → put [] 0 new ≡ new
unfolding put
put_first new = ap (λ (xs : List ℕ). new ++ xs) (drop-nil (0 + length new)) ∙ append-nil new

pub new-requires : goal.new-requires
new-requires c =
    let zeros : List ℕ = replicate c.with_pages-pages.result.0 0 in (
      c.free.ensures.1 ∙ ap (λ (k : ℕ). replicate k 0) (c.with_pages-pages.ensures.1 ∙ sym c.with_pages-pages.ensures.0),
      c.clear.ensures.set ∙ ap (λ (s : List ℕ). put s 0 zeros) c.requires.0 ∙ put_first zeros,
    )
