-- Rows at places of a slab: which one is found, and what is left once one has changed, come or gone.
use Rattle.std.proofs.Common.{◌≡◌, ◌≢◌, ℕ, zero, suc, ◌<◌, ◌==◌, not, true, false, List, [], ◌∷◌, ◌++◌, map, length-append, Option, Some, None, is_some, inl, inr, refl, sym, ap, ◌∙◌, arith, subst}
use Rattle.std.specs.List.{filter, find, cons_option, slice_get, remove, AllByRecursion, AllZip}
use Rattle.std.specs.Option.{option_map, option_and_then}
use Rattle.std.proofs.lemmas.Bool.{cases_Bool, cases_eq, eq-eqb, ne_eqb}
use Rattle.std.proofs.lemmas.Bool.Decides.{eqb_tells}
use Rattle.std.proofs.lemmas.List.Elements.{same_from_all_zip}
use Rattle.std.proofs.lemmas.Option.{same_Some}
use Rattle.slab.specs.Slab.{IsSlotClone}
use Rattle.guid_handles.specs.declared.records.LiveHandle.{LiveHandle}
use Rattle.guid_handles.specs.HandleTables.{has_number}
use Rattle.guid_handles.specs.Places.{has_place}
use Rattle.guid_handles.specs.Sorting.{Ascending}
use Rattle.guid_handles.specs.Indexes.{ChangesKeys, ChangesRow, IsPlaceOfRow, Row, is_row_of, keys_of, keys_on, lives, number_beside, row_at, row_numbers, rows_at, with_keys}
use Rattle.guid_handles.specs.NumberLists.{list_of, with_last, without}
use Rattle.guid_handles.specs.MadeOn.{AreMadeOn, AreRows, ChangesMade}
use Rattle.guid_handles.proofs.SortedLists.{all_map, ascending_push, filter_map_filter, got_all, map_append}
use Rattle.guid_handles.proofs.Grouped.{is_same}
use Rattle.guid_handles.proofs.Beside.{beside_absent, beside_there, remove_beside}
use Rattle.guid_handles.proofs.Numbered.{find_lives, live_numbers}
use Rattle.guid_handles.proofs.Made.{made_ascend, made_push, made_remove}

-- ---- which row is found

-- the row at a place
pub record IsThere (slots : List (Option Row)) (n p : ℕ) : Type 0 where
  pub row : Row
  pub is : row_at slots p ≡ Some row
  pub own : row.live.number ≡ n

pub row_there : (slots : List (Option Row)) (n p : ℕ) → IsPlaceOfRow slots n p → IsThere slots n p
row_there slots n p h = one (row_at slots p) refl h
  where
    one : (o : Option Row) → row_at slots p ≡ o → option_map (λ r. r.live.number) o ≡ Some n → IsThere slots n p
    one None e k = absurd cc
    one (Some r) e k = record { row = r; is = e; own = same_Some r.live.number n k }

pub numbers_at : (slots : List (Option Row)) (ns ps : List ℕ) → AllZip (IsPlaceOfRow slots) ns ps → row_numbers (rows_at slots ps) ≡ ns
numbers_at slots [] [] h = refl
numbers_at slots [] (p ∷ ps) h = absurd h
numbers_at slots (n ∷ ns) [] h = absurd h
numbers_at slots (n ∷ ns) (p ∷ ps) h =
    let t = row_there slots n p h.0 in
    rw t.is (rw t.own (ap (λ ms. n ∷ ms) (numbers_at slots ns ps h.1)))

pub found_at : (n : ℕ) (slots : List (Option Row)) (ns ps : List ℕ) → AllZip (IsPlaceOfRow slots) ns ps → find (is_row_of n) (rows_at slots ps) ≡ option_and_then (row_at slots) (number_beside ns ps n)
found_at n slots [] [] h = refl
found_at n slots [] (p ∷ ps) h = absurd h
found_at n slots (m ∷ ns) [] h = absurd h
found_at n slots (m ∷ ns) (p ∷ ps) h =
    let t = row_there slots m p h.0 in
    elim (cases_Bool (m == n)) [
      | inl e ↦ rw t.is (rw (t.own, e) (sym t.is))
      | inr f ↦ rw t.is (rw (t.own, f) (found_at n slots ns ps h.1))
    ]

-- the place beside a number is that of its row
pub place_beside : (slots : List (Option Row)) (ns ps : List ℕ) (n p : ℕ) → AllZip (IsPlaceOfRow slots) ns ps → number_beside ns ps n ≡ Some p → IsPlaceOfRow slots n p
place_beside slots [] ps n p h e = absurd cc
place_beside slots (m ∷ ns) [] n p h e = absurd h
place_beside slots (m ∷ ns) (q ∷ ps) n p h e = elim (eqb_tells m n) [
  | inl t ↦
      let same : q ≡ p = same_Some q p (rw t.0 at e) in
      subst (λ (x : ℕ). IsPlaceOfRow slots x p) t.1 (subst (λ (x : ℕ). IsPlaceOfRow slots m x) same h.0)
  | inr f ↦ place_beside slots ns ps n p h.1 (rw f.0 at e)
]

-- ---- one row changes

live_number : (o : Option Row) → option_map (λ r. r.live.number) o ≡ option_map (λ h. h.number) (option_map (λ r. r.live) o)
live_number None = refl
live_number (Some r) = refl

-- each place has the row of the same handle
abbrev pub HaveSameLives : List (Option Row) → List (Option Row) → Type 0
HaveSameLives old new = (q : ℕ) → option_map (λ r. r.live) (row_at new q) ≡ option_map (λ r. r.live) (row_at old q)

places_kept : (old new : List (Option Row)) → HaveSameLives old new → (ns ps : List ℕ) → AllZip (IsPlaceOfRow old) ns ps → AllZip (IsPlaceOfRow new) ns ps
places_kept old new s [] [] h = tt
places_kept old new s [] (p ∷ ps) h = absurd h
places_kept old new s (n ∷ ns) [] h = absurd h
places_kept old new s (n ∷ ns) (p ∷ ps) h = (
  live_number (row_at new p) ∙ ap (option_map (λ (x : LiveHandle). x.number)) (s p) ∙ sym (live_number (row_at old p)) ∙ h.0,
  places_kept old new s ns ps h.1,
)

lives_next : (o q : Option Row) (rs ts : List Row) → option_map (λ r. r.live) o ≡ option_map (λ r. r.live) q → lives rs ≡ lives ts → lives (cons_option o rs) ≡ lives (cons_option q ts)
lives_next None None rs ts e k = k
lives_next None (Some r) rs ts e k = absurd cc
lives_next (Some r) None rs ts e k = absurd cc
lives_next (Some r) (Some t) rs ts e k = rw (same_Some r.live t.live e) (ap (λ hs. t.live ∷ hs) k)

lives_kept : (old new : List (Option Row)) → HaveSameLives old new → (ps : List ℕ) → lives (rows_at new ps) ≡ lives (rows_at old ps)
lives_kept old new s [] = refl
lives_kept old new s (p ∷ ps) = lives_next (row_at new p) (row_at old p) (rows_at new ps) (rows_at old ps) (s p) (lives_kept old new s ps)

pub kept_rows : (old new : List (Option Row)) (ns ps : List ℕ) (lists : List (ℕ × List ℕ)) → HaveSameLives old new → AreRows ns ps old lists → AreRows ns ps new lists
kept_rows old new ns ps lists s a = record {
  beside = a.beside;
  rows = places_kept old new s ns ps a.rows;
  made = subst (λ (hs : List LiveHandle). AreMadeOn hs lists) (sym (lives_kept old new s ps)) a.made;
}

pub same_lives : (old new : List (Option Row)) → ((q : ℕ) → row_at new q ≡ row_at old q) → HaveSameLives old new
same_lives old new s q = ap (option_map (λ (r : Row). r.live)) (s q)

pub changed_lives : (p : ℕ) (f : List ℕ → List ℕ) (old new : List (Option Row)) → ChangesRow p f old new → HaveSameLives old new
changed_lives p f old new c q = elim (cases_eq q p) [
  | inl e ↦ rw e (ap (option_map (λ (r : Row). r.live)) c.here ∙ same_live (row_at old p))
  | inr d ↦ ap (option_map (λ (r : Row). r.live)) (c.others q d)
]
  where
    same_live : (o : Option Row) → option_map (λ r. r.live) (option_map (with_keys f) o) ≡ option_map (λ r. r.live) o
    same_live None = refl
    same_live (Some r) = refl

-- the keys of a handle are those in the row at its place
pub keys_at : (slots : List (Option Row)) (ns ps : List ℕ) (n p : ℕ) → AllZip (IsPlaceOfRow slots) ns ps → number_beside ns ps n ≡ Some p → keys_on (rows_at slots ps) n ≡ keys_of (row_at slots p)
keys_at slots ns ps n p h e = ap keys_of (found_at n slots ns ps h ∙ ap (option_and_then (row_at slots)) e)

-- two places are of two handles
apart : (slots : List (Option Row)) (n m p q : ℕ) → IsPlaceOfRow slots n p → IsPlaceOfRow slots m q → q ≡ p → n ≡ m
apart slots n m p q h k w = same_Some n m (sym h ∙ ap (λ x. option_map (λ (r : Row). r.live.number) (row_at slots x)) (sym w) ∙ k)

pub keys_changed : (n p : ℕ) (f : List ℕ → List ℕ) (ns ps : List ℕ) (old new : List (Option Row)) → AllZip (IsPlaceOfRow old) ns ps → number_beside ns ps n ≡ Some p → ChangesRow p f old new → ChangesKeys n f (rows_at old ps) (rows_at new ps)
keys_changed n p f ns ps old new h e c =
    let s = changed_lives p f old new c in
    let k = places_kept old new s ns ps h in
    let own = place_beside old ns ps n p h e in
    let t = row_there old n p own in
    let here : keys_of (row_at new p) ≡ f (keys_of (row_at old p)) = rw (c.here, t.is) refl in
    record {
      lives = lives_kept old new s ps;
      keys = λ m. elim (cases_Bool (n == m)) [
        | inl y ↦ rw y (rw (← is_same n m y) (keys_at new ns ps n p k e ∙ here ∙ ap f (sym (keys_at old ns ps n p h e))))
        | inr d ↦ rw d (ap keys_of (found_at m new ns ps k ∙ other m d (number_beside ns ps m) refl ∙ sym (found_at m old ns ps h)))
      ];
    }
  where
    other : (m : ℕ) → (n == m) ≡ false → (o : Option ℕ) → number_beside ns ps m ≡ o → option_and_then (row_at new) o ≡ option_and_then (row_at old) o
    other m d None w = refl
    other m d (Some q) w = c.others q (λ x.
        let t : (n == m) ≡ true = eq-eqb n m (apart old n m p q (place_beside old ns ps n p h e) (place_beside old ns ps m q h w) x) in
        let z : false ≡ true = sym d ∙ t in cc)

-- ---- a handle comes

-- a place that is not new has the row that it had
others_at : (old new : List (Option Row)) (p n q : ℕ) → row_at old p ≡ None → ((j : ℕ) → j ≢ p → row_at new j ≡ row_at old j) → IsPlaceOfRow old n q → row_at new q ≡ row_at old q
others_at old new p n q none others h = others q (λ w.
    let e : row_at old q ≡ None = ap (row_at old) w ∙ none in
    let z : None ≡ Some n = sym (ap (option_map (λ (r : Row). r.live.number)) e) ∙ h in cc)

pub rows_pushed : (old new : List (Option Row)) (ns ps : List ℕ) (p : ℕ) (r : Row) → AllZip (IsPlaceOfRow old) ns ps → row_at old p ≡ None → row_at new p ≡ Some r → ((j : ℕ) → j ≢ p → row_at new j ≡ row_at old j)
    → rows_at new (ps ++ p ∷ []) ≡ rows_at old ps ++ r ∷ []
rows_pushed old new [] [] p r h none there others = rw there refl
rows_pushed old new [] (q ∷ qs) p r h none there others = absurd h
rows_pushed old new (n ∷ ns) [] p r h none there others = absurd h
rows_pushed old new (n ∷ ns) (q ∷ qs) p r h none there others =
    let t = row_there old n q h.0 in
    let e : row_at new q ≡ Some t.row = others_at old new p n q none others h.0 ∙ t.is in
    rw (e, t.is) (ap (λ rs. t.row ∷ rs) (rows_pushed old new ns qs p r h.1 none there others))

places_pushed : (old new : List (Option Row)) (ns ps : List ℕ) (p : ℕ) (r : Row) → AllZip (IsPlaceOfRow old) ns ps → row_at old p ≡ None → row_at new p ≡ Some r → ((j : ℕ) → j ≢ p → row_at new j ≡ row_at old j)
    → AllZip (IsPlaceOfRow new) (ns ++ r.live.number ∷ []) (ps ++ p ∷ [])
places_pushed old new [] [] p r h none there others = (ap (option_map (λ (x : Row). x.live.number)) there, tt)
places_pushed old new [] (q ∷ qs) p r h none there others = absurd h
places_pushed old new (n ∷ ns) [] p r h none there others = absurd h
places_pushed old new (n ∷ ns) (q ∷ qs) p r h none there others = (
  ap (option_map (λ (x : Row). x.live.number)) (others_at old new p n q none others h.0) ∙ h.0,
  places_pushed old new ns qs p r h.1 none there others,
)

pub rows_push : (old new : List (Option Row)) (ns ps : List ℕ) (p : ℕ) (r : Row) (lists more : List (ℕ × List ℕ)) → AreRows ns ps old lists → row_at old p ≡ None → row_at new p ≡ Some r → ((j : ℕ) → j ≢ p → row_at new j ≡ row_at old j)
    → AllByRecursion (λ k. k < r.live.number) (row_numbers (rows_at old ps)) → ChangesMade r.live.maker (with_last r.live.number) lists more → AreRows (ns ++ r.live.number ∷ []) (ps ++ p ∷ []) new more
rows_push old new ns ps p r lists more a none there others below k =
    let all : lives (rows_at new (ps ++ p ∷ [])) ≡ lives (rows_at old ps) ++ r.live ∷ [] = rw (rows_pushed old new ns ps p r a.rows none there others) (map_append (λ (x : Row). x.live) (rows_at old ps) (r ∷ [])) in
    record {
      beside = record {
        ascending = ascending_push (λ a b. a < b) ns r.live.number a.beside.ascending (subst (AllByRecursion (λ k. k < r.live.number)) (numbers_at old ns ps a.rows) below);
        even = rw (length-append ns (r.live.number ∷ []), length-append ps (p ∷ []), a.beside.even) refl;
      };
      rows = places_pushed old new ns ps p r a.rows none there others;
      made = subst (λ (hs : List LiveHandle). AreMadeOn hs more) (sym all) (made_push (lives (rows_at old ps)) r.live r.live.maker lists more refl a.made k);
    }

-- ---- a handle goes

-- what a list of rows without one handle is, and that the others are at their places
record AreLeft (n : ℕ) (old new : List (Option Row)) (ps ms qs : List ℕ) : Type 0 where
  left : rows_at new qs ≡ filter (λ r. not (is_row_of n r)) (rows_at old ps)
  places : AllZip (IsPlaceOfRow new) ms qs

-- one more row, of another handle
more_left : (n p m q : ℕ) (old new : List (Option Row)) (ps ms qs : List ℕ) → IsPlaceOfRow old n p → ((j : ℕ) → j ≢ p → row_at new j ≡ row_at old j) → IsPlaceOfRow old m q → (m == n) ≡ false → AreLeft n old new ps ms qs
    → AreLeft n old new (q ∷ ps) (m ∷ ms) (q ∷ qs)
more_left n p m q old new ps ms qs own others h d a =
    let t = row_there old m q h in
    let same : row_at new q ≡ row_at old q = others q (λ w. let z : false ≡ true = sym d ∙ eq-eqb m n (sym (apart old n m p q own h w)) in cc) in
    let e : row_at new q ≡ Some t.row = same ∙ t.is in
    record {
      left = rw (e, t.is) (rw (t.own, d) (ap (λ rs. t.row ∷ rs) a.left));
      places = (ap (option_map (λ (x : Row). x.live.number)) same ∙ h, a.places);
    }

all_left : (n p : ℕ) (old new : List (Option Row)) (ns ps : List ℕ) → IsPlaceOfRow old n p → ((j : ℕ) → j ≢ p → row_at new j ≡ row_at old j) → AllZip (IsPlaceOfRow old) ns ps → AllByRecursion (λ m. (m == n) ≡ false) ns → AreLeft n old new ps ns ps
all_left n p old new [] [] own others h a = record { left = refl; places = tt }
all_left n p old new [] (q ∷ qs) own others h a = absurd h
all_left n p old new (m ∷ ms) [] own others h a = absurd h
all_left n p old new (m ∷ ms) (q ∷ qs) own others h a = more_left n p m q old new qs ms qs own others h.0 a.0 (all_left n p old new ms qs own others h.1 a.1)

one_left : (n p at : ℕ) (old new : List (Option Row)) (ns ps : List ℕ) → IsPlaceOfRow old n p → ((j : ℕ) → j ≢ p → row_at new j ≡ row_at old j) → AllZip (IsPlaceOfRow old) ns ps → Ascending (λ a b. a < b) ns → slice_get ns at ≡ Some n
    → AreLeft n old new ps (remove ns at) (remove ps at)
one_left n p zero old new [] ps own others h a e = absurd cc
one_left n p (suc at) old new [] ps own others h a e = absurd cc
one_left n p at old new (m ∷ ms) [] own others h a e = absurd h
one_left n p zero old new (m ∷ ms) (q ∷ qs) own others h a e =
    let same : m ≡ n = same_Some m n e in
    let t = row_there old m q h.0 in
    let rest = all_left n p old new ms qs own others h.1 (all_map (λ k. m < k) (λ k. (k == n) ≡ false) (λ k l. ne_eqb k n (λ w. omega (arith, l, w, same))) ms a.0) in
    let gone : (m == n) ≡ true = eq-eqb m n same in
    record {
      left = rest.left ∙ rw t.is (rw (t.own, gone) refl);
      places = rest.places;
    }
one_left n p (suc at) old new (m ∷ ms) (q ∷ qs) own others h a e =
    let l : m < n = got_all (λ k. m < k) ms at n a.0 e in
    more_left n p m q old new qs (remove ms at) (remove qs at) own others h.0 (ne_eqb m n (λ w. omega (arith, l, w))) (one_left n p at old new ms qs own others h.1 a.1 e)

lives_ascend : (ns ps : List ℕ) (slots : List (Option Row)) (lists : List (ℕ × List ℕ)) → AreRows ns ps slots lists → Ascending (λ a b. a < b) (map (λ h. h.number) (lives (rows_at slots ps)))
lives_ascend ns ps slots lists a = subst (Ascending (λ x y. x < y)) (sym (live_numbers (rows_at slots ps) ∙ numbers_at slots ns ps a.rows)) a.beside.ascending

pub lists_ascend : (ns ps : List ℕ) (slots : List (Option Row)) (lists : List (ℕ × List ℕ)) → AreRows ns ps slots lists → (c : ℕ) → Ascending (λ a b. a < b) (list_of lists c)
lists_ascend ns ps slots lists a c = subst (Ascending (λ x y. x < y)) (sym (a.made c)) (made_ascend c (lives (rows_at slots ps)) (lives_ascend ns ps slots lists a))

pub rows_without : (n p at : ℕ) (ns ps : List ℕ) (old new : List (Option Row)) (h : LiveHandle) (lists less : List (ℕ × List ℕ)) → AreRows ns ps old lists → slice_get ns at ≡ Some n → slice_get ps at ≡ Some p
    → option_map (λ r. r.live) (row_at old p) ≡ Some h → ((j : ℕ) → j ≢ p → row_at new j ≡ row_at old j) → ChangesMade h.maker (without h.number) lists less
    → (rows_at new (remove ps at) ≡ filter (λ x. not (is_row_of n x)) (rows_at old ps)) × AreRows (remove ns at) (remove ps at) new less
rows_without n p at ns ps old new h lists less a e f there others k =
    let beside = beside_there ns ps at n p a.beside.ascending e f in
    let own = place_beside old ns ps n p a.rows beside in
    let number : h.number ≡ n = same_Some h.number n (sym (live_number (row_at old p) ∙ ap (option_map (λ (x : LiveHandle). x.number)) there) ∙ own) in
    let change : ChangesMade h.maker (without n) lists less = subst (λ (i : ℕ). ChangesMade h.maker (without i) lists less) number k in
    let found : find (has_number n) (lives (rows_at old ps)) ≡ Some h = find_lives n (rows_at old ps) ∙ ap (option_map (λ (x : Row). x.live)) (found_at n old ns ps a.rows ∙ ap (option_and_then (row_at old)) beside) ∙ there in
    let rest = one_left n p at old new ns ps own others a.rows a.beside.ascending e in
    let lives_left : lives (rows_at new (remove ps at)) ≡ filter (λ x. not (has_number n x)) (lives (rows_at old ps)) = ap lives rest.left ∙ filter_map_filter (λ (x : Row). x.live) (λ x. not (has_number n x)) (rows_at old ps) in (
      rest.left,
      record {
        beside = remove_beside ns ps at a.beside;
        rows = rest.places;
        made = subst (λ (hs : List LiveHandle). AreMadeOn hs less) (sym lives_left)
            (made_remove n (lives (rows_at old ps)) h h.maker lists less refl (lives_ascend ns ps old lists a) found a.made change);
      },
    )

-- a number that is not there has no row
pub none_at : (n : ℕ) (ns ps : List ℕ) (slots : List (Option Row)) → AllZip (IsPlaceOfRow slots) ns ps → has_place ns n ≡ false → find (is_row_of n) (rows_at slots ps) ≡ None
none_at n ns ps slots h e = found_at n slots ns ps h ∙ ap (option_and_then (row_at slots)) (beside_absent n ns ps e)

pub no_row : (n : ℕ) (ns ps : List ℕ) (slots : List (Option Row)) → AllZip (IsPlaceOfRow slots) ns ps → None ≡ number_beside ns ps n → find (is_row_of n) (rows_at slots ps) ≡ None
no_row n ns ps slots h e = found_at n slots ns ps h ∙ ap (option_and_then (row_at slots)) (sym e)

-- a place beside a number has a row
pub one_at : (n p : ℕ) (ns ps : List ℕ) (slots : List (Option Row)) → AllZip (IsPlaceOfRow slots) ns ps → number_beside ns ps n ≡ Some p → is_some (row_at slots p) ≡ true
one_at n p ns ps slots h e = ap is_some (row_there slots n p (place_beside slots ns ps n p h e)).is

-- clones of rows are the same rows
pub cloned_rows : (old new : List (Option Row)) → AllZip (IsSlotClone (λ r s. s ≡ r)) old new → new ≡ old
cloned_rows old new a = same_from_all_zip (IsSlotClone (λ r s. s ≡ r)) old new a one
  where
    one : (o p : Option Row) → IsSlotClone (λ r s. s ≡ r) o p → p ≡ o
    one None p e = e
    one (Some r) None e = absurd e
    one (Some r) (Some s) e = ap (λ x. Some x) e
