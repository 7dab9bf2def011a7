-- What a clause reads of pages with their marks.
use Rattle.std.specs.Prelude.{◌≡◌, ℕ, [], Option, MatchOption}
use Rattle.raw_pool.specs.declared.raw_bytes.RawBytes.{RawBytes}
use Rattle.raw_pool.specs.PageMarks.{AreFree, remarked}
use Rattle.raw_pool.specs.PagePlaces.{ArePages, Place}
use Rattle.raw_pool.specs.declared.pages.cells.Cells.{Cells}

-- where the pages lie
abbrev pub cells_place : Cells → Place
cells_place c = c.free.place

-- Pages in a row are taken where all of them are free.
abbrev pub TakesPages : Cells → ℕ → ℕ → Cells → Option RawBytes → Type 0
TakesPages old at pages new taken =
    MatchOption taken (¬ AreFree old.marks.set at pages)
    (λ b. AreFree old.marks.set at pages × (b.set ≡ []) × ArePages old.free.place at pages b
    × (new.marks.set ≡ remarked old.marks.set at pages 1))
