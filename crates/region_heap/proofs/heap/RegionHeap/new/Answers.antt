use Rattle.std.proofs.Common.{◌≡◌, ◌+◌, ◌*◌, ◌/◌, ◌++◌, ℕ, List, [], replicate, length, ap, ◌∙◌, append-nil}
use Rattle.std.proofs.Math.Seq.{drop-nil}
use Rattle.raw_pool.specs.Bytes.{put}
use Rattle.region_heap.proofs.heap.RegionHeap.new.Goals as goal

put_first : (new : List ℕ) → put [] 0 new ≡ new
unfolding put
put_first new = ap (λ (xs : List ℕ). new ++ xs) (drop-nil (0 + length new)) ∙ append-nil new

pub new-requires : goal.new-requires
new-requires c =
    let zeros : List ℕ = replicate (16 * c.with_units-units.result.0 / 17) 0 in
    (c.split-free.ensures.free.1, c.clear.ensures.set ∙ ap (λ (s : List ℕ). put s 0 zeros) c.split-free.ensures.marks.0 ∙ put_first zeros)
