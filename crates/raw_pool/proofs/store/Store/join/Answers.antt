use Rattle.std.proofs.Common.{◌<◌, ◌≤◌, ◌+◌, ◌-◌, ◌*◌, ℕ, List, length, subst, arith}
use Rattle.byteorder.specs.Endian.{little_bytes}
use Rattle.raw_pool.specs.Bytes.{put}
use Rattle.raw_pool.proofs.Puts.{length-put}
use Rattle.raw_pool.proofs.store.Store.join.Goals as goal

pub set_link-requires-clause-set : goal.set_link-requires-clause-set
set_link-requires-clause-set g c = λ h.
    let old : List ℕ = c.args.self.now.region.bytes.set in
    let one : List ℕ = put old (32 * c.args.cell) (little_bytes 8 (c.args.end - c.args.cell)) in
    let n0 : 32 * c.args.cell ≤ length old = omega (arith, c.requires.set) in
    let l1 = length-put old (little_bytes 8 (c.args.end - c.args.cell)) (32 * c.args.cell) n0 in
    let n1 : 32 * c.args.cell + 8 ≤ length one = omega (arith, l1) in
    let l2 = length-put one (little_bytes 8 c.args.after) (32 * c.args.cell + 8) n1 in
    let k : c.args.last < c.args.self.now.cells = subst (λ (n : ℕ). c.args.last < n) c.reset_run-else-last-self.ensures.others.2 h in
    let s = (c.requires.last k).0 in
    rw c.reset_run-else-last-self.ensures.bytes (omega (arith, l1, l2, s))
