-- A round that asks the new pairs of a set alone.
use Rattle.std.proofs.Common.{◌≡◌, ℕ, ◌≤◌, ◌||◌, true, false, List, [], ◌∷◌, ◌++◌, length, take, drop, Option, Some, None, inl, inr, refl, sym, ap, ◌∙◌, arith, length-append}
use Rattle.std.proofs.lemmas.Bool.{cases_Bool}
use Rattle.std.proofs.lemmas.List.{take_all, take-append-le, take-append-drop}
use Rattle.std.proofs.lemmas.List.Folds.{list_any-append}
use Rattle.guid_handles.specs.declared.records.Pair.{Pair}
use Rattle.guid_handles.specs.HandleTables.{HandleTable, maker_of}
use Rattle.open_agents.specs.declared.items.OpenRecord.{OpenRecord}
use Rattle.open_agents.specs.OpenItems.{is_for_driver, manager_of}
use Rattle.driver_connect.specs.Stopping.{same_pair, has_pair, with_pair, with_pairs, is_maker, manages_made, managers_of_made, round}
use Rattle.driver_connect.proofs.Rounds.{with_pairs-longer}
use Rattle.driver_connect.proofs.StopSets.{IsWithin, same_pair-refl, keeps_all, adds_all}

-- the managers of what the first pairs of a set made are in the set
abbrev pub AreAsked : HandleTable → List OpenRecord → List Pair → ℕ → Type 0
AreAsked t opens set n = (n ≤ length set) × IsWithin (managers_of_made t opens (take n set)) set

-- ---- two parts of a set

maker-append : (a b : List Pair) (m : Option Pair) → is_maker (a ++ b) m ≡ (is_maker a m || is_maker b m)
maker-append a b None = refl
maker-append a b (Some p) = list_any-append (same_pair p) a b

manages-append : (t : HandleTable) (a b : List Pair) (o : OpenRecord) → manages_made t (a ++ b) o ≡ (manages_made t a o || manages_made t b o)
manages-append t a b o = elim (cases_Bool (is_for_driver o.attributes)) [
  | inl e ↦ rw e (maker-append a b (maker_of t o.controller))
  | inr e ↦ rw e refl
]

-- ---- managers that are in the set already

no_maker : (m : Option Pair) → is_maker [] m ≡ false
no_maker None = refl
no_maker (Some p) = refl

nobody_manages : (t : HandleTable) (o : OpenRecord) → manages_made t [] o ≡ false
nobody_manages t o = elim (cases_Bool (is_for_driver o.attributes)) [
  | inl e ↦ rw e (no_maker (maker_of t o.controller))
  | inr e ↦ rw e refl
]

no_managers : (t : HandleTable) (opens : List OpenRecord) → managers_of_made t opens [] ≡ []
no_managers t [] = refl
no_managers t (o ∷ os) = rw (nobody_manages t o) (no_managers t os)

later_within : (t : HandleTable) (a : List Pair) (o : OpenRecord) (os : List OpenRecord) (u : List Pair) → IsWithin (managers_of_made t (o ∷ os) a) u → IsWithin (managers_of_made t os a) u
later_within t a o os u w q h = elim (cases_Bool (manages_made t a o)) [
  | inl e ↦ w q (rw e (elim (cases_Bool (same_pair q (manager_of o))) [
    | inl f ↦ rw f refl
    | inr f ↦ rw f h
  ]))
  | inr e ↦ w q (rw e h)
]

first_within : (t : HandleTable) (a : List Pair) (o : OpenRecord) (os : List OpenRecord) (u : List Pair) → IsWithin (managers_of_made t (o ∷ os) a) u → manages_made t a o ≡ true → has_pair u (manager_of o) ≡ true
first_within t a o os u w e = w (manager_of o) (rw e (rw (same_pair-refl (manager_of o)) refl))

-- managers of what `a` made add nothing to what has them
pub older_add_none : (t : HandleTable) (a b : List Pair) (os : List OpenRecord) (u : List Pair) → IsWithin (managers_of_made t os a) u
    → with_pairs u (managers_of_made t os b) ≡ with_pairs u (managers_of_made t os (a ++ b))
older_add_none t a b [] u w = refl
older_add_none t a b (o ∷ os) u w =
    let rest = later_within t a o os u w in
    let both = manages-append t a b o in
    elim (cases_Bool (manages_made t a o)) [
      | inl e ↦ elim (cases_Bool (manages_made t b o)) [
        | inl f ↦
            let s : manages_made t (a ++ b) o ≡ true = both ∙ rw e refl in
            rw f (rw s (older_add_none t a b os (with_pair u (manager_of o)) (λ q h. keeps_all u (manager_of o ∷ []) q (rest q h))))
        | inr f ↦
            let s : manages_made t (a ++ b) o ≡ true = both ∙ rw e refl in
            let same : with_pair u (manager_of o) ≡ u = rw (first_within t a o os u w e) refl in
            rw f (rw s (older_add_none t a b os u rest ∙ ap (λ v. with_pairs v (managers_of_made t os (a ++ b))) (sym same)))
      ]
      | inr e ↦ elim (cases_Bool (manages_made t b o)) [
        | inl f ↦
            let s : manages_made t (a ++ b) o ≡ true = both ∙ rw e f in
            rw f (rw s (older_add_none t a b os (with_pair u (manager_of o)) (λ q h. keeps_all u (manager_of o ∷ []) q (rest q h))))
        | inr f ↦
            let s : manages_made t (a ++ b) o ≡ false = both ∙ rw e f in
            rw f (rw s (older_add_none t a b os u rest))
      ]
    ]

-- ---- a set that grows

starts_alike : (n : ℕ) (s u ps : List Pair) → n ≤ length u → take n u ≡ s → take n (with_pairs u ps) ≡ s
starts_alike n s u [] l h = h
starts_alike n s u (p ∷ ps) l h = elim (cases_Bool (has_pair u p)) [
  | inl e ↦ rw e (starts_alike n s u ps l h)
  | inr e ↦ rw e (starts_alike n s (u ++ p ∷ []) ps (omega (arith, l, length-append u (p ∷ []))) (take-append-le n u (p ∷ []) l ∙ h))
]

-- ---- rounds

pub none_asked : (t : HandleTable) (opens : List OpenRecord) (set : List Pair) → AreAsked t opens set 0
none_asked t opens set = (omega arith, λ q h. let k = rw (no_managers t opens) at h in absurd (let e : false ≡ true = k in cc))

-- to ask those after them is a round
pub round_of_new : (t : HandleTable) (opens : List OpenRecord) (set : List Pair) (n : ℕ) → AreAsked t opens set n
    → with_pairs set (managers_of_made t opens (drop n set)) ≡ round t opens set
round_of_new t opens set n h =
    older_add_none t (take n set) (drop n set) opens set h.1 ∙ ap (λ s. with_pairs set (managers_of_made t opens s)) (take-append-drop n set)

pub all_asked : (t : HandleTable) (opens : List OpenRecord) (set : List Pair) → AreAsked t opens (round t opens set) (length set)
all_asked t opens set =
    let e : take (length set) (round t opens set) ≡ set = starts_alike (length set) set set (managers_of_made t opens set) (omega arith) (take_all (length set) set (omega arith)) in
    (with_pairs-longer set (managers_of_made t opens set), rw e (adds_all set (managers_of_made t opens set)))
