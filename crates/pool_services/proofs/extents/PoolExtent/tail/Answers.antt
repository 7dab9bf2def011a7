use Rattle.std.proofs.Common.{ℕ, ◌-◌, Bool, List, length, drop, cond, Some, None, sym, ap, ◌∙◌, arith, le-leb}
use Rattle.std.proofs.lemmas.Bool.{lt-leb}
use Rattle.std.proofs.lemmas.List.{take_all, length-drop}
use Rattle.pool_services.proofs.CellBlocks.{tail-given}
use Rattle.pool_services.proofs.extents.PoolExtent.tail.Goals as goal

pub returns-then-at-bytes : goal.returns-then-at-bytes
returns-then-at-bytes g c =
    let b = rw (← c.self.view_is) at c.requires.extent.blocks in
    let n = rw (← c.self.view_is) at (c.in_ok-cell.ensures) in
    let t = tail-given _ c.self.inside.range.first c.args.address c.in_ok-cell.cell c.in_ok-cell.at c.in_ok-bytes.bytes.now c.self.inside.region.blocks b n.2 (c.in_ok-bytes.ensures) in
    rw (← c.self.view_is) (sym (t ∙ ap (λ (k : Bool). cond k (Some (drop c.in_ok-cell.at c.in_ok-bytes.bytes.now)) None) (le-leb c.in_ok-cell.at (length c.in_ok-bytes.bytes.now) c.if-at-bytes.true)
    ∙ ap (λ (xs : List ℕ). Some xs) (sym (take_all (length c.in_ok-bytes.bytes.now - c.in_ok-cell.at) (drop c.in_ok-cell.at c.in_ok-bytes.bytes.now) (omega (arith, length-drop c.in_ok-cell.at c.in_ok-bytes.bytes.now))))))

pub returns-else-at-bytes : goal.returns-else-at-bytes
returns-else-at-bytes g c =
    let b = rw (← c.self.view_is) at c.requires.extent.blocks in
    let n = rw (← c.self.view_is) at (c.in_ok-cell.ensures) in
    let t = tail-given _ c.self.inside.range.first c.args.address c.in_ok-cell.cell c.in_ok-cell.at c.in_ok-bytes.bytes.now c.self.inside.region.blocks b n.2 (c.in_ok-bytes.ensures) in
    rw (← c.self.view_is) (sym (t ∙ ap (λ (k : Bool). cond k (Some (drop c.in_ok-cell.at c.in_ok-bytes.bytes.now)) None) (lt-leb c.in_ok-cell.at (length c.in_ok-bytes.bytes.now) c.if-at-bytes.false)))
