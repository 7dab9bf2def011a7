use Rattle.std.proofs.Common.{◌≡◌, ◌+◌, ◌-◌, ◌*◌, ℕ, List, replicate, ap, ◌∙◌, arith}
use Rattle.byteorder.specs.Endian.{little_bytes}
use Rattle.raw_pool.specs.Bytes.{Bytes, put}
use Rattle.raw_pool.proofs.Cutting.{cut-whole, cut-rest}
use Rattle.raw_pool.proofs.store.Store.cut.Goals as goal

pub returns-then-need-free-clause-cut : goal.returns-then-need-free-clause-cut
returns-then-need-free-clause-cut g c =
    let old : List ℕ = c.args.self.now.region.bytes.set in
    let cells : ℕ = c.args.self.now.cells in
    let head : ℕ = c.args.self.now.head in
    let zeros : List ℕ = put old (32 * c.args.at) (replicate (32 * c.args.need) 0) in
    let one : List ℕ = little_bytes 8 (c.run_cells-free.result - c.args.need) in
    let two : List ℕ = little_bytes 8 c.link-next.result in
    let place : 32 * c.args.at + 32 * c.args.need ≡ 32 * (c.args.at + c.args.need) = omega arith in
    let e : c.clear_and_write.new.self.bytes.set ≡ put (put zeros (32 * (c.args.at + c.args.need)) one) (32 * (c.args.at + c.args.need) + 8) two =
    ap (λ (b : Bytes). b.set) c.clear_and_write.ensures.bytes ∙ ap (λ (k : ℕ). put (put zeros k one) (k + 8) two) place in
    rw (e, c.run_cells-free.ensures, c.link-next.ensures)
    (cut-rest old cells head c.args.at c.args.need (omega arith) (omega arith) (omega arith) (omega arith))

pub returns-else-need-free-clause-cut : goal.returns-else-need-free-clause-cut
returns-else-need-free-clause-cut g c =
    rw (c.clear.ensures.bytes, c.link-next.ensures)
    (cut-whole c.args.self.now.region.bytes.set c.args.self.now.cells c.args.self.now.head c.args.at c.args.need (omega arith) c.requires.fits (omega arith))
