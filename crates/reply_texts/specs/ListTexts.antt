-- Lists in replies.
use Rattle.std.specs.Prelude.{ℕ, ◌==◌, cond, List, [], ◌∷◌, ◌++◌, map, flat_map, codes}
use Rattle.std.specs.Fmt.{decimal}
use Rattle.uuid.specs.Text.{hyphenated_text, lower}

-- some texts in a row, joined by commas
abbrev pub joined : List (List ℕ) → List ℕ
joined [] = []
joined (x ∷ xs) = x ++ flat_map (λ y. codes "," ++ y) xs

-- what comes before the item at an index of a row
abbrev pub separator_at : ℕ → List ℕ
separator_at index = cond (index == 0) [] (codes ",")

-- numbers in a row
abbrev pub numbers_text : List ℕ → List ℕ
numbers_text numbers = joined (map decimal numbers)

-- events in a row, or a dash where there are none
abbrev pub events_text : List ℕ → List ℕ
events_text [] = codes "-"
events_text (n ∷ ns) = numbers_text (n ∷ ns)

-- GUIDs in a row, each as its hyphenated text in lower case
abbrev pub guids_text : List (List ℕ) → List ℕ
guids_text guids = joined (map (hyphenated_text lower) guids)
