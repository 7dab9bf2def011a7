-- Filters one after the other, and loops over what they leave out.
use Rattle.std.proofs.Common.{◌≡◌, ℕ, zero, suc, ◌-◌, ◌<◌, ◌≤◌, ◌==◌, ◌||◌, not, Bool, List, [], ◌∷◌, ◌++◌, length, drop, get_or, arith, inl, inr, refl, sym, ap, ◌∙◌}
use Rattle.std.specs.List.{filter, list_any}
use Rattle.std.proofs.lemmas.Bool.{cases_Bool}
use Rattle.guid_handles.specs.HandleTables.{HandleTable}
use Rattle.guid_handles.specs.HandleChanges.{without_handle}
use Rattle.guid_handles.proofs.SortedLists.{filter_same, all_of}
use Rattle.guid_handles.specs.declared.records.Pair.{Pair}
use Rattle.open_agents.specs.declared.items.OpenRecord.{OpenRecord}
use Rattle.open_agents.specs.OpenItems.{names, is_of_pair, manager_of, without_items}
use Rattle.driver_connect.specs.Stopping.{same_pair, names_any, without_handles, without_pairs}

pub any_more : {X : Type 0} (p : X → Bool) (xs : List X) (x : X) → list_any p (xs ++ x ∷ []) ≡ (list_any p xs || p x)
any_more p [] x = elim (cases_Bool (p x)) [
  | inl e ↦ rw e refl
  | inr e ↦ rw e refl
]
any_more p (y ∷ ys) x = elim (cases_Bool (p y)) [
  | inl e ↦ rw e refl
  | inr e ↦ rw e (any_more p ys x)
]

-- those that one more takes out
pub left_out_more : {X Y : Type 0} (takes : Y → X → Bool) (ys : List Y) (y : Y) (xs : List X)
    → filter (λ x. not (takes y x)) (filter (λ x. not (list_any (λ z. takes z x) ys)) xs) ≡ filter (λ x. not (list_any (λ z. takes z x) (ys ++ y ∷ []))) xs
left_out_more takes ys y [] = refl
left_out_more takes ys y (x ∷ xs) =
    let e = any_more (λ z. takes z x) ys y in
    elim (cases_Bool (list_any (λ z. takes z x) ys)) [
      | inl h ↦ rw e (rw h (left_out_more takes ys y xs))
      | inr h ↦ elim (cases_Bool (takes y x)) [
        | inl k ↦ rw e (rw h (rw k (left_out_more takes ys y xs)))
        | inr k ↦ rw e (rw h (rw k (ap (λ r. x ∷ r) (left_out_more takes ys y xs))))
      ]
    ]

-- those that one more takes out, before the others
pub left_out_first : {X Y : Type 0} (takes : Y → X → Bool) (y : Y) (ys : List Y) (xs : List X)
    → filter (λ x. not (takes y x)) (filter (λ x. not (list_any (λ z. takes z x) ys)) xs) ≡ filter (λ x. not (list_any (λ z. takes z x) (y ∷ ys))) xs
left_out_first takes y ys [] = refl
left_out_first takes y ys (x ∷ xs) = elim (cases_Bool (list_any (λ z. takes z x) ys)) [
  | inl h ↦ elim (cases_Bool (takes y x)) [
    | inl k ↦ rw h (rw k (left_out_first takes y ys xs))
    | inr k ↦ rw h (rw k (left_out_first takes y ys xs))
  ]
  | inr h ↦ elim (cases_Bool (takes y x)) [
    | inl k ↦ rw h (rw k (left_out_first takes y ys xs))
    | inr k ↦ rw h (rw k (ap (λ r. x ∷ r) (left_out_first takes y ys xs)))
  ]
]

pub left_out_none : {X Y : Type 0} (takes : Y → X → Bool) (xs : List X) → filter (λ x. not (list_any (λ z. takes z x) [])) xs ≡ xs
left_out_none takes [] = refl
left_out_none takes (x ∷ xs) = ap (λ r. x ∷ r) (left_out_none takes xs)

-- ---- lists from a place on

pub none_left : (ns : List ℕ) → drop (length ns) ns ≡ []
none_left [] = refl
none_left (n ∷ ns) = none_left ns

left_from : (ns : List ℕ) (k : ℕ) → k < length ns → drop k ns ≡ get_or ns k 0 ∷ drop (suc k) ns
left_from [] k l = absurd (omega arith)
left_from (n ∷ ns) zero l = refl
left_from (n ∷ ns) (suc k) l = left_from ns k (omega arith)

left_at : (ns : List ℕ) (at : ℕ) → 0 < at → at ≤ length ns → drop (at - 1) ns ≡ get_or ns (at - 1) 0 ∷ drop at ns
left_at ns at z l =
    let next : suc (at - 1) ≡ at = omega (arith, z) in
    left_from ns (at - 1) (omega (arith, z, l)) ∙ ap (λ k. get_or ns (at - 1) 0 ∷ drop k ns) next

-- ---- handles, items and pairs that go

pub handles_none : (t : HandleTable) → t ≡ without_handles [] t
handles_none t = rw (left_out_none (λ k h. h.number == k) t.handles) (rw (left_out_none (λ k i. i.handle == k) t.interfaces) refl)

pub names_none : (opens : List OpenRecord) → opens ≡ without_items (names_any []) opens
names_none opens = sym (left_out_none names opens)

pub pairs_none : (opens : List OpenRecord) → opens ≡ without_pairs [] opens
pairs_none opens = sym (left_out_none (λ q o. same_pair (manager_of o) q) opens)

handles_first : (n : ℕ) (ns : List ℕ) (t : HandleTable) → without_handle n (without_handles ns t) ≡ without_handles (n ∷ ns) t
handles_first n ns t =
    rw (left_out_first (λ k h. h.number == k) n ns t.handles)
    (rw (left_out_first (λ k i. i.handle == k) n ns t.interfaces) refl)

names_first : (n : ℕ) (ns : List ℕ) (opens : List OpenRecord) → without_items (names n) (without_items (names_any ns) opens) ≡ without_items (names_any (n ∷ ns)) opens
names_first n ns opens = left_out_first names n ns opens

-- the last of some handles that has not gone goes
pub handles_before : (ns : List ℕ) (at : ℕ) (t old new : HandleTable) → 0 < at → at ≤ length ns → old ≡ without_handles (drop at ns) t → new ≡ without_handle (get_or ns (at - 1) 0) old
    → new ≡ without_handles (drop (at - 1) ns) t
handles_before ns at t old new z l e f =
    f
    ∙ ap (without_handle (get_or ns (at - 1) 0)) e
    ∙ handles_first (get_or ns (at - 1) 0) (drop at ns) t
    ∙ ap (λ ms. without_handles ms t) (sym (left_at ns at z l))

pub names_before : (ns : List ℕ) (at : ℕ) (opens old new : List OpenRecord) → 0 < at → at ≤ length ns → old ≡ without_items (names_any (drop at ns)) opens → new ≡ without_items (names (get_or ns (at - 1) 0)) old
    → new ≡ without_items (names_any (drop (at - 1) ns)) opens
names_before ns at opens old new z l e f =
    f
    ∙ ap (without_items (names (get_or ns (at - 1) 0))) e
    ∙ names_first (get_or ns (at - 1) 0) (drop at ns) opens
    ∙ ap (λ ms. without_items (names_any ms) opens) (sym (left_at ns at z l))

same_as_pair : (p : Pair) (o : OpenRecord) → not (is_of_pair p.controller p.agent o) ≡ not (same_pair (manager_of o) p)
same_as_pair p o = elim (cases_Bool (o.controller == p.controller)) [
  | inl e ↦ elim (cases_Bool (o.agent == p.agent)) [
    | inl k ↦ rw e (rw k refl)
    | inr k ↦ rw e (rw k refl)
  ]
  | inr e ↦ elim (cases_Bool (o.agent == p.agent)) [
    | inl k ↦ rw e (rw k refl)
    | inr k ↦ rw e (rw k refl)
  ]
]

pub pairs_more : (ps : List Pair) (p : Pair) (opens : List OpenRecord) → without_items (is_of_pair p.controller p.agent) (without_pairs ps opens) ≡ without_pairs (ps ++ p ∷ []) opens
pairs_more ps p opens =
    filter_same (λ o. not (is_of_pair p.controller p.agent o)) (λ o. not (same_pair (manager_of o) p)) (without_pairs ps opens) (all_of (λ o. not (is_of_pair p.controller p.agent o) ≡ not (same_pair (manager_of o) p)) (same_as_pair p) (without_pairs ps opens))
    ∙ left_out_more (λ q o. same_pair (manager_of o) q) ps p opens
