-- The handles that drivers made, by controllers, once one comes or goes.
use Rattle.std.proofs.Common.{◌≡◌, ℕ, ◌<◌, ◌==◌, not, false, cond, List, [], ◌∷◌, ◌++◌, map, Option, Some, None, inl, inr, refl, sym, ap, ◌∙◌, arith, subst}
use Rattle.std.specs.List.{filter, find, AllByRecursion}
use Rattle.std.proofs.lemmas.Bool.{cases_Bool, ne_eqb}
use Rattle.std.proofs.lemmas.Option.{same_Some}
use Rattle.guid_handles.specs.declared.records.LiveHandle.{LiveHandle}
use Rattle.guid_handles.specs.declared.records.Pair.{Pair}
use Rattle.guid_handles.specs.Sorting.{Ascending}
use Rattle.guid_handles.specs.HandleTables.{has_number}
use Rattle.guid_handles.specs.NumberLists.{list_of, with_last, without}
use Rattle.guid_handles.specs.MadeOn.{AreMadeOn, ChangesMade, is_made_on, numbers_made_on}
use Rattle.guid_handles.proofs.Grouped.{is_same}

append_none : (xs : List ℕ) → xs ≡ xs ++ []
append_none [] = refl
append_none (x ∷ xs) = ap (λ r. x ∷ r) (append_none xs)

-- ---- a handle comes

pushed : (hs : List LiveHandle) (h : LiveHandle) (c : ℕ) → numbers_made_on c (hs ++ h ∷ []) ≡ numbers_made_on c hs ++ cond (is_made_on c h) (h.number ∷ []) []
pushed [] h c = elim (cases_Bool (is_made_on c h)) [
  | inl e ↦ rw e refl
  | inr e ↦ rw e refl
]
pushed (x ∷ xs) h c = elim (cases_Bool (is_made_on c x)) [
  | inl e ↦ rw e (ap (λ r. x.number ∷ r) (pushed xs h c))
  | inr e ↦ rw e (pushed xs h c)
]

pub made_push : (hs : List LiveHandle) (h : LiveHandle) (m : Option Pair) (old new : List (ℕ × List ℕ)) → h.maker ≡ m → AreMadeOn hs old → ChangesMade m (with_last h.number) old new → AreMadeOn (hs ++ h ∷ []) new
made_push hs h None old new e a k c = ap (λ (bs : List (ℕ × List ℕ)). list_of bs c) k ∙ a c ∙ append_none (numbers_made_on c hs) ∙ sym (pushed hs h c ∙ rw e refl)
made_push hs h (Some m) old new e a k c =
    k c
    ∙ elim (cases_Bool (m.controller == c)) [
      | inl t ↦ rw t (ap (λ ks. ks ++ h.number ∷ []) (a c) ∙ sym (pushed hs h c ∙ rw e (rw t refl)))
      | inr f ↦ rw f (a c ∙ append_none (numbers_made_on c hs) ∙ sym (pushed hs h c ∙ rw e (rw f refl)))
    ]

-- ---- a handle goes

others_stay : (n c : ℕ) (hs : List LiveHandle) → AllByRecursion (λ m. n < m) (map (λ h. h.number) hs) → filter (λ x. not (x == n)) (numbers_made_on c hs) ≡ numbers_made_on c hs
others_stay n c [] h = refl
others_stay n c (x ∷ xs) h = elim (cases_Bool (is_made_on c x)) [
  | inl e ↦
      let d : (x.number == n) ≡ false = ne_eqb x.number n (λ w. omega (arith, h.0, w)) in
      rw e (rw d (ap (λ r. x.number ∷ r) (others_stay n c xs h.1)))
  | inr e ↦ rw e (others_stay n c xs h.1)
]

others_left : (n : ℕ) (hs : List LiveHandle) → AllByRecursion (λ m. n < m) (map (λ h. h.number) hs) → filter (λ x. not (has_number n x)) hs ≡ hs
others_left n [] h = refl
others_left n (x ∷ xs) h =
    let d : (x.number == n) ≡ false = ne_eqb x.number n (λ w. omega (arith, h.0, w)) in
    rw d (ap (λ r. x ∷ r) (others_left n xs h.1))

left_out : (n : ℕ) (hs : List LiveHandle) (h : LiveHandle) (c : ℕ) → Ascending (λ a b. a < b) (map (λ x. x.number) hs) → find (has_number n) hs ≡ Some h
    → numbers_made_on c (filter (λ x. not (has_number n x)) hs) ≡ cond (is_made_on c h) (filter (λ x. not (x == n)) (numbers_made_on c hs)) (numbers_made_on c hs)
left_out n [] h c a e = absurd cc
left_out n (x ∷ xs) h c a e = elim (cases_Bool (x.number == n)) [
  | inl t ↦
      let same : x ≡ h = same_Some x h (rw t at e) in
      let above : AllByRecursion (λ m. n < m) (map (λ y. y.number) xs) = subst (λ (k : ℕ). AllByRecursion (λ m. k < m) (map (λ y. y.number) xs)) (is_same x.number n t) a.0 in
      rw (← same) (rw (t, others_left n xs above) (elim (cases_Bool (is_made_on c x)) [
        | inl u ↦ rw u (rw t (sym (others_stay n c xs above)))
        | inr u ↦ rw u refl
      ]))
  | inr f ↦
      let rest = left_out n xs h c a.1 (rw f at e) in
      elim (cases_Bool (is_made_on c x)) [
        | inl u ↦ elim (cases_Bool (is_made_on c h)) [
          | inl w ↦ rw f (rw u (rw w (rw f (ap (λ r. x.number ∷ r) (rw w at rest)))))
          | inr w ↦ rw f (rw u (rw w (ap (λ r. x.number ∷ r) (rw w at rest))))
        ]
        | inr u ↦ rw f (rw u rest)
      ]
]

pub made_remove : (n : ℕ) (hs : List LiveHandle) (h : LiveHandle) (m : Option Pair) (old new : List (ℕ × List ℕ)) → h.maker ≡ m → Ascending (λ a b. a < b) (map (λ x. x.number) hs) → find (has_number n) hs ≡ Some h → AreMadeOn hs old
    → ChangesMade m (without n) old new → AreMadeOn (filter (λ x. not (has_number n x)) hs) new
made_remove n hs h None old new e s g a k c = ap (λ (bs : List (ℕ × List ℕ)). list_of bs c) k ∙ a c ∙ sym (left_out n hs h c s g ∙ rw e refl)
made_remove n hs h (Some m) old new e s g a k c =
    k c
    ∙ elim (cases_Bool (m.controller == c)) [
      | inl t ↦ rw t (ap (filter (λ x. not (x == n))) (a c) ∙ sym (left_out n hs h c s g ∙ rw e (rw t refl)))
      | inr f ↦ rw f (a c ∙ sym (left_out n hs h c s g ∙ rw e (rw f refl)))
    ]

-- ---- the handles by a controller ascend

above_made : (n c : ℕ) (hs : List LiveHandle) → AllByRecursion (λ m. n < m) (map (λ h. h.number) hs) → AllByRecursion (λ m. n < m) (numbers_made_on c hs)
above_made n c [] a = tt
above_made n c (x ∷ xs) a = elim (cases_Bool (is_made_on c x)) [
  | inl e ↦ rw e (a.0, above_made n c xs a.1)
  | inr e ↦ rw e (above_made n c xs a.1)
]

pub made_ascend : (c : ℕ) (hs : List LiveHandle) → Ascending (λ a b. a < b) (map (λ h. h.number) hs) → Ascending (λ a b. a < b) (numbers_made_on c hs)
made_ascend c [] a = tt
made_ascend c (x ∷ xs) a = elim (cases_Bool (is_made_on c x)) [
  | inl e ↦ rw e (above_made x.number c xs a.0, made_ascend c xs a.1)
  | inr e ↦ rw e (made_ascend c xs a.1)
]
