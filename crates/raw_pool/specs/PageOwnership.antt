-- What free pages own.
use Rattle.std.specs.Prelude.{ℕ, ◌+◌, ◌==◌, cond, List, [], ◌∷◌}
use base.Fml.{Fml, ftrue, fsep, froom}
use Rattle.raw_pool.specs.Ownership.{byte_row}

-- the pages from an offset of an object on that are free by their marks
abbrev pub free_from : ℕ → ℕ → List ℕ → Fml
free_from b o [] = ftrue
free_from b o (m ∷ ms) =
    fsep (cond (m == 0) (froom (byte_row 4096) b o) ftrue) (free_from b (o + 4096) ms)
