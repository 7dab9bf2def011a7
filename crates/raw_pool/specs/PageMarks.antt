-- The marks of pages: 0 for a free one.
use Rattle.std.specs.Prelude.{◌≡◌, ℕ, ◌+◌, ◌<◌, List, replicate, slice_index_or}
use Rattle.raw_pool.specs.Bytes.{put}

-- a number of pages from one on are free; there is no mark 0 behind the last
abbrev pub AreFree : List ℕ → ℕ → ℕ → Type 0
AreFree marks at count = (i : ℕ) → i < count → slice_index_or marks (at + i) 1 ≡ 0

-- the marks once a number of pages from one on have a mark
abbrev pub remarked : List ℕ → ℕ → ℕ → ℕ → List ℕ
remarked marks at count mark = put marks at (replicate count mark)
