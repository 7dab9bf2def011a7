use Rattle.std.proofs.Common.{◌<◌, ◌≤◌, inl, inr, length, get_or, eq-eqb, ne_eqb, subst, le-ltb, ℕ, List}
use Rattle.std.proofs.lemmas.Bool.{cases_eq}
use Rattle.raw_pool.proofs.Listed.{block_marked, block_unmarked, block_past}
use Rattle.raw_pool.proofs.store.Store.is_block.Goals as goal

pub returns-then-cell-marks-clause-block : goal.returns-then-cell-marks-clause-block
returns-then-cell-marks-clause-block g c =
    let h : c.args.cell < length c.args.self.now.region.marks.set = subst (λ (xs : List ℕ). c.args.cell < length xs) c.marks-marks.ensures c.if-cell-marks.true in
    rw c.marks-marks.ensures
    (elim (cases_eq (get_or c.args.self.now.region.marks.set c.args.cell 0) 0) [
      | inl e ↦ rw (eq-eqb (get_or c.args.self.now.region.marks.set c.args.cell 0) 0 e) (block_unmarked c.args.self.now.region.bytes.set c.args.self.now.region.marks.set c.args.cell h e)
      | inr e ↦ rw (ne_eqb (get_or c.args.self.now.region.marks.set c.args.cell 0) 0 e) (block_marked c.args.self.now.region.bytes.set c.args.self.now.region.marks.set c.args.cell h e)
    ])

pub returns-else-cell-marks-clause-block : goal.returns-else-cell-marks-clause-block
returns-else-cell-marks-clause-block g c =
    let h : length c.args.self.now.region.marks.set ≤ c.args.cell = subst (λ (xs : List ℕ). length xs ≤ c.args.cell) c.marks-marks.ensures c.if-cell-marks.false in
    rw (c.marks-marks.ensures, le-ltb c.args.cell (length c.args.self.now.region.marks.set) h) (block_past c.args.self.now.region.bytes.set c.args.self.now.region.marks.set c.args.cell h)
