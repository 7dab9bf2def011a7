-- Loops that list the items of a list that pass a test.
use Rattle.std.proofs.Common.{◌≡◌, ℕ, ◌+◌, ◌<◌, ◌++◌, Bool, true, false, List, [], ◌∷◌, map, drop, length, get_or, ◌∙◌, append_assoc}
use Rattle.std.specs.List.{filter}
use Rattle.guid_handles.proofs.SortedLists.{drop_next}

pub listed_more : {X Y : Type 0} (f : X → Y) (p : X → Bool) (done : List Y) (xs : List X) (k : ℕ) (x : X) (whole : List Y) → k < length xs → x ≡ get_or xs k x → p x ≡ true
    → done ++ map f (filter p (drop k xs)) ≡ whole → (done ++ f x ∷ []) ++ map f (filter p (drop (k + 1) xs)) ≡ whole
listed_more f p done xs k x whole l e h w = append_assoc done (f x ∷ []) (map f (filter p (drop (k + 1) xs))) ∙ (rw h at (rw (drop_next xs k x l e) at w))

pub listed_same : {X Y : Type 0} (f : X → Y) (p : X → Bool) (done : List Y) (xs : List X) (k : ℕ) (x : X) (whole : List Y) → k < length xs → x ≡ get_or xs k x → p x ≡ false
    → done ++ map f (filter p (drop k xs)) ≡ whole → done ++ map f (filter p (drop (k + 1) xs)) ≡ whole
listed_same f p done xs k x whole l e h w = rw h at (rw (drop_next xs k x l e) at w)
