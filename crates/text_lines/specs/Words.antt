-- The words of a line.
use Rattle.std.specs.Prelude.{ℕ, Bool, not, ◌||◌, ◌==◌, List, length, filter}
use Rattle.std.specs.List.{slice_split}

-- a space or a tab
abbrev pub is_blank : ℕ → Bool
is_blank b = (b == 32) || (b == 9)

-- the maximal runs of bytes other than space and tab, from left to right: the parts between any two
-- blanks that aren't empty
abbrev pub words_of : List ℕ → List (List ℕ)
words_of line = filter (λ word. not (length word == 0)) (slice_split is_blank line)
