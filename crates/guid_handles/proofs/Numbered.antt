-- Rows by number: which one is found.
use Rattle.std.proofs.Common.{◌≡◌, ℕ, ◌==◌, not, cond, List, [], ◌∷◌, map, None, inl, inr, refl, sym, ap, ◌∙◌}
use Rattle.std.specs.List.{filter, find}
use Rattle.std.specs.Option.{option_map}
use Rattle.std.proofs.lemmas.Bool.{cases_Bool, eq-eqb, ne_eqb}
use Rattle.std.proofs.lemmas.Bool.Decides.{eqb_tells}
use Rattle.guid_handles.specs.HandleTables.{has_number}
use Rattle.guid_handles.specs.Indexes.{Row, ChangesKeys, lives, row_numbers, is_row_of, keys_of, keys_on}
use Rattle.guid_handles.proofs.SortedLists.{filter_whole, found_none}
use Rattle.guid_handles.proofs.Grouped.{is_same}

pub live_numbers : (rows : List Row) → map (λ h. h.number) (lives rows) ≡ row_numbers rows
live_numbers [] = refl
live_numbers (r ∷ rs) = ap (λ ns. r.live.number ∷ ns) (live_numbers rs)

pub find_lives : (n : ℕ) (rows : List Row) → find (has_number n) (lives rows) ≡ option_map (λ r. r.live) (find (is_row_of n) rows)
find_lives n [] = refl
find_lives n (r ∷ rs) = elim (cases_Bool (is_row_of n r)) [
  | inl t ↦ rw t refl
  | inr f ↦ rw f (find_lives n rs)
]

-- ---- the keys of one handle change

abbrev with_keys_on : ℕ → (List ℕ → List ℕ) → Row → Row
with_keys_on n f r = record r { keys = cond (is_row_of n r) (f r.keys) r.keys }

-- the rows, with the keys of one handle changed
abbrev pub rows_with : ℕ → (List ℕ → List ℕ) → List Row → List Row
rows_with n f rows = map (with_keys_on n f) rows

pub keys_mapped : (n : ℕ) (f : List ℕ → List ℕ) (rows : List Row) → f [] ≡ [] → ChangesKeys n f rows (rows_with n f rows)
keys_mapped n f rows z = record { lives = same rows; keys = λ m. found m rows }
  where
    same : (rs : List Row) → lives (rows_with n f rs) ≡ lives rs
    same [] = refl
    same (r ∷ rs) = ap (λ hs. r.live ∷ hs) (same rs)

    found : (m : ℕ) (rs : List Row) → keys_on (rows_with n f rs) m ≡ cond (n == m) (f (keys_on rs m)) (keys_on rs m)
    found m [] = elim (cases_Bool (n == m)) [
      | inl t ↦ rw t (sym z)
      | inr d ↦ rw d refl
    ]
    found m (r ∷ rs) = elim (eqb_tells r.live.number m) [
      | inl u ↦ rw u.0 (elim (eqb_tells n m) [
        | inl t ↦ rw (t.0, eq-eqb r.live.number n (u.1 ∙ sym t.1)) refl
        | inr d ↦ rw (d.0, ne_eqb r.live.number n (λ w. d.1 (sym w ∙ u.1))) refl
      ])
      | inr d ↦ rw d.0 (found m rs)
    ]

-- without that handle they are the same
pub others_mapped : (n : ℕ) (f : List ℕ → List ℕ) (rows : List Row) → filter (λ r. not (is_row_of n r)) (rows_with n f rows) ≡ filter (λ r. not (is_row_of n r)) rows
others_mapped n f [] = refl
others_mapped n f (r ∷ rs) = elim (cases_Bool (is_row_of n r)) [
  | inl t ↦ rw t (others_mapped n f rs)
  | inr d ↦ rw d (ap (λ xs. r ∷ xs) (others_mapped n f rs))
]

-- no row, nothing that is found

pub no_live : (rows : List Row) (n : ℕ) → find (is_row_of n) rows ≡ None → None ≡ find (has_number n) (lives rows)
no_live rows n none = sym (find_lives n rows ∙ ap (option_map (λ s. s.live)) none)

pub changes_none : (rows : List Row) (n : ℕ) (f : List ℕ → List ℕ) → f [] ≡ [] → find (is_row_of n) rows ≡ None → ChangesKeys n f rows rows
changes_none rows n f z none = record {
  lives = refl;
  keys = λ m. elim (cases_Bool (n == m)) [
    | inl y ↦
        let e : keys_on rows m ≡ [] = rw (← is_same n m y) (ap keys_of none) in
        rw y (rw e (sym z))
    | inr d ↦ rw d refl
  ];
}

pub none_removed : (rows : List Row) (n : ℕ) → find (is_row_of n) rows ≡ None → rows ≡ filter (λ r. not (is_row_of n r)) rows
none_removed rows n none = sym (filter_whole (is_row_of n) rows (found_none (is_row_of n) rows none))
