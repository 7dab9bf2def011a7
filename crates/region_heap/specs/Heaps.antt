-- What a clause reads of a heap's cells.
use Rattle.std.specs.Prelude.{◌≡◌, ℕ, ◌+◌, Option, MatchOption}
use Rattle.region_heap.specs.Marks.{AreFree, marked}
use Rattle.region_heap.specs.declared.memory.Block.{Block}
use Rattle.region_heap.specs.Places.{Place}
use Rattle.region_heap.specs.declared.cells.Cells.{Cells}

-- where its units lie
abbrev pub cells_place : Cells → Place
cells_place c = c.free.place

-- Units in a row are taken for a block, and one behind them, where there are any that are free.
abbrev pub TakesUnits : Cells → ℕ → Cells → Option Block → Type 0
TakesUnits old units new taken =
    MatchOption taken ((at : ℕ) → ¬ AreFree old.marks.set at (units + 1))
    (λ b. AreFree old.marks.set b.at (units + 1) × (b.units ≡ units) × (b.place ≡ old.free.place)
    × (new.marks.set ≡ marked old.marks.set b.at (units + 1) 1))
