-- The items that a stop takes out, and those that it leaves.
use Rattle.std.proofs.Common.{◌≡◌, ℕ, ◌==◌, ◌&&◌, ◌||◌, not, Bool, true, false, List, [], ◌∷◌, ◌++◌, map, Some, inl, inr, refl, sym, ap, ◌∙◌}
use Rattle.std.specs.List.{filter, list_any, list_all}
use Rattle.std.proofs.lemmas.Bool.{cases_Bool, and_parts, eq-eqb}
use Rattle.std.proofs.lemmas.Bool.Decides.{eqb_tells}
use Rattle.guid_handles.specs.HandleTables.{HandleTable, numbers, same_guid}
use Rattle.guid_handles.proofs.GuidOrder.{and_false}
use Rattle.guid_handles.specs.declared.records.Pair.{Pair}
use Rattle.open_agents.specs.declared.items.OpenRecord.{OpenRecord}
use Rattle.open_agents.specs.Blocks.{is_near}
use Rattle.open_agents.specs.OpenItems.{counted, is_equal_item, is_exclusive, is_for_driver, is_holding, is_keeping, is_kept, is_of_pair, is_open_on, keeps, manager_of, once_more, with_item, without_items}
use Rattle.open_agents.specs.OpenRule.{has_holder}
use Rattle.open_agents.proofs.Asked.{any_listed, handle_near}
use Rattle.driver_connect.specs.Drivers.{Meaning}
use Rattle.driver_connect.specs.Stopping.{PlannedStop, takes_item, can_be_stopped, has_agent, has_pair, is_made_by, is_unobstructed, made_by, may_stop, names_any, spares_opener, without_opens}

-- a stop takes out an item
abbrev pub takes : PlannedStop → OpenRecord → Bool
takes plan o = takes_item plan o.handle o.agent o.controller

pub same_number : (m n : ℕ) → (m == n) ≡ true → m ≡ n
same_number m n e = elim (eqb_tells m n) [
  | inl t ↦ t.1
  | inr f ↦ absurd (let k : false ≡ true = sym f.0 ∙ e in cc)
]

filter_twice : {X : Type 0} (p q : X → Bool) (xs : List X) → filter (λ x. not (q x)) (filter (λ x. not (p x)) xs) ≡ filter (λ x. not (p x || q x)) xs
filter_twice p q [] = refl
filter_twice p q (x ∷ xs) = elim (cases_Bool (p x)) [
  | inl e ↦ rw e (filter_twice p q xs)
  | inr e ↦ elim (cases_Bool (q x)) [
    | inl k ↦ rw e (rw k (filter_twice p q xs))
    | inr k ↦ rw e (rw k (ap (λ r. x ∷ r) (filter_twice p q xs)))
  ]
]

-- the handles and the pairs of a stop take out the same items one after the other as at once
pub taken_at_once : (plan : PlannedStop) (opens : List OpenRecord) → without_opens plan.handles plan.pairs opens ≡ without_items (takes plan) opens
taken_at_once plan opens = filter_twice (names_any plan.handles) (λ o. has_pair plan.pairs (manager_of o)) opens

-- ---- what is left on an interface

-- an item near an interface that passes a test and is left
left_near : (q : OpenRecord → Bool) (plan : PlannedStop) (n : ℕ) → ((o : OpenRecord) → q o ≡ true → o.handle ≡ n) → (opens : List OpenRecord)
    → list_any (λ o. q o && not (takes_item plan n o.agent o.controller)) (filter (is_near n) opens) ≡ list_any q (without_items (takes plan) opens)
left_near q plan n h [] = refl
left_near q plan n h (o ∷ os) =
    let r = left_near q plan n h os in
    elim (cases_Bool (q o)) [
      | inl e ↦
          let s : o.handle ≡ n = h o e in
          let near : is_near n o ≡ true = handle_near n o (eq-eqb o.handle n s) in
          elim (cases_Bool (takes plan o)) [
            | inl k ↦ let m : takes_item plan n o.agent o.controller ≡ true = rw s at k in rw near (rw e (rw m (rw k r)))
            | inr k ↦ let m : takes_item plan n o.agent o.controller ≡ false = rw s at k in rw near (rw e (rw m (rw k (rw e refl))))
          ]
      | inr e ↦ elim (cases_Bool (is_near n o)) [
        | inl near ↦ elim (cases_Bool (takes plan o)) [
          | inl k ↦ rw near (rw e (rw k r))
          | inr k ↦ rw near (rw e (rw k (rw e r)))
        ]
        | inr near ↦ elim (cases_Bool (takes plan o)) [
          | inl k ↦ rw near (rw k r)
          | inr k ↦ rw near (rw k (rw e r))
        ]
      ]
    ]

on_handle : (n : ℕ) (guid : List ℕ) (b : Bool) (o : OpenRecord) → (is_open_on n guid o && b) ≡ true → o.handle ≡ n
on_handle n guid b o e = same_number o.handle n (and_parts (o.handle == n) (same_guid o.guid guid) (and_parts (is_open_on n guid o) b e).0).0

-- an item that keeps its interface is left
pub kept_near : (plan : PlannedStop) (n : ℕ) (guid : List ℕ) (opens : List OpenRecord)
    → list_any (λ o. is_keeping n guid o && not (takes_item plan n o.agent o.controller)) (filter (is_near n) opens) ≡ is_kept (without_opens plan.handles plan.pairs opens) n guid
kept_near plan n guid opens =
    left_near (is_keeping n guid) plan n (λ o e. on_handle n guid (keeps o.attributes) o e) opens
    ∙ any_listed keeps n guid (without_items (takes plan) opens) ∙ ap (λ (os : List OpenRecord). is_kept os n guid) (sym (taken_at_once plan opens))

-- an item that holds its interface is left
pub held_near : (plan : PlannedStop) (n : ℕ) (guid : List ℕ) (opens : List OpenRecord)
    → list_any (λ o. is_holding n guid o && not (takes_item plan n o.agent o.controller)) (filter (is_near n) opens) ≡ has_holder (without_opens plan.handles plan.pairs opens) n guid
held_near plan n guid opens =
    left_near (is_holding n guid) plan n (λ o e. on_handle n guid (is_for_driver o.attributes || is_exclusive o.attributes) o e) opens
    ∙ ap (λ (os : List OpenRecord). has_holder os n guid) (sym (taken_at_once plan opens))

-- ---- an item that is added before a stop

pub any_stays : {X : Type 0} (q p : X → Bool) → ((x : X) → q x ≡ true → p x ≡ false) → (xs : List X) → list_any q (filter (λ x. not (p x)) xs) ≡ list_any q xs
any_stays q p h [] = refl
any_stays q p h (x ∷ xs) = elim (cases_Bool (q x)) [
  | inl e ↦ rw (h x e) (rw e refl)
  | inr e ↦ elim (cases_Bool (p x)) [
    | inl k ↦ rw k (rw e (any_stays q p h xs))
    | inr k ↦ rw k (rw e (any_stays q p h xs))
  ]
]

last_stays : {X : Type 0} (p : X → Bool) (xs : List X) (x : X) → p x ≡ false → filter (λ y. not (p y)) (xs ++ x ∷ []) ≡ filter (λ y. not (p y)) xs ++ x ∷ []
last_stays p [] x h = rw h refl
last_stays p (y ∷ ys) x h = elim (cases_Bool (p y)) [
  | inl e ↦ rw e (last_stays p ys x h)
  | inr e ↦ rw e (ap (λ r. y ∷ r) (last_stays p ys x h))
]

counted_stays : (plan : PlannedStop) (is_equal : OpenRecord → Bool) (opens : List OpenRecord) → without_items (takes plan) (map (counted is_equal) opens) ≡ map (counted is_equal) (without_items (takes plan) opens)
counted_stays plan is_equal [] = refl
counted_stays plan is_equal (o ∷ os) = elim (cases_Bool (is_equal o)) [
  | inl e ↦ elim (cases_Bool (takes plan o)) [
    | inl k ↦ rw e (rw k (counted_stays plan is_equal os))
    | inr k ↦ rw e (rw k (rw e (ap (λ r. record o { count = once_more o.count } ∷ r) (counted_stays plan is_equal os))))
  ]
  | inr e ↦ elim (cases_Bool (takes plan o)) [
    | inl k ↦ rw e (rw k (counted_stays plan is_equal os))
    | inr k ↦ rw e (rw k (rw e (ap (λ r. o ∷ r) (counted_stays plan is_equal os))))
  ]
]

-- what equals the item of a call is taken out as it is
equal_taken : (plan : PlannedStop) (n : ℕ) (guid : List ℕ) (agent controller a : ℕ) → takes_item plan n agent controller ≡ false → (o : OpenRecord) → is_equal_item n guid agent controller a o ≡ true → takes plan o ≡ false
equal_taken plan n guid agent controller a h o e =
    let parts = and_parts (is_open_on n guid o) (is_of_pair controller agent o && (o.attributes == a)) e in
    let on = and_parts (o.handle == n) (same_guid o.guid guid) parts.0 in
    let rest = and_parts (is_of_pair controller agent o) (o.attributes == a) parts.1 in
    let pair = and_parts (o.agent == agent) (o.controller == controller) rest.0 in
    rw (same_number o.handle n on.0) (rw (same_number o.agent agent pair.0) (rw (same_number o.controller controller pair.1) h))

-- An item that a stop does not take out may as well be added before it.
pub added_first : (plan : PlannedStop) (n : ℕ) (guid : List ℕ) (agent controller a : ℕ) (opens : List OpenRecord) → takes_item plan n agent controller ≡ false
    → without_opens plan.handles plan.pairs (with_item n guid agent controller a opens) ≡ with_item n guid agent controller a (without_opens plan.handles plan.pairs opens)
added_first plan n guid agent controller a opens h =
    taken_at_once plan (with_item n guid agent controller a opens) ∙ at_once ∙ ap (with_item n guid agent controller a) (sym (taken_at_once plan opens))
  where
    same : list_any (is_equal_item n guid agent controller a) (without_items (takes plan) opens) ≡ list_any (is_equal_item n guid agent controller a) opens
    same = any_stays (is_equal_item n guid agent controller a) (takes plan) (equal_taken plan n guid agent controller a h) opens

    at_once : without_items (takes plan) (with_item n guid agent controller a opens) ≡ with_item n guid agent controller a (without_items (takes plan) opens)
    at_once = elim (cases_Bool (list_any (is_equal_item n guid agent controller a) opens)) [
      | inl e ↦
          let k : list_any (is_equal_item n guid agent controller a) (without_items (takes plan) opens) ≡ true = same ∙ e in
          rw e (rw k (counted_stays plan (is_equal_item n guid agent controller a) opens))
      | inr e ↦
          let k : list_any (is_equal_item n guid agent controller a) (without_items (takes plan) opens) ≡ false = same ∙ e in
          elim (cases_Bool (agent == 0)) [
            | inl z ↦ rw e (rw k (rw z refl))
            | inr z ↦ rw e (rw k (rw z (last_stays (takes plan) opens (record { handle = n; guid = guid; agent = agent; controller = controller; attributes = a; count = 1 }) h)))
          ]
    ]

-- ---- the opener stays

not_pair : (pairs : List Pair) (agent controller : ℕ) → has_agent pairs agent ≡ false → has_pair pairs (record { controller = controller; agent = agent }) ≡ false
not_pair [] agent controller h = refl
not_pair (p ∷ ps) agent controller h = elim (eqb_tells agent p.agent) [
  | inl t ↦ absurd (let k : (p.agent == agent) ≡ true = eq-eqb p.agent agent (sym t.1) in let m = rw k at h in cc)
  | inr f ↦ elim (cases_Bool (p.agent == agent)) [
    | inl k ↦ absurd (let m = rw k at h in cc)
    | inr k ↦ rw f.0 (rw (and_false (controller == p.controller)) (not_pair ps agent controller (rw k at h)))
  ]
]

others_named : (p : ℕ → Bool) (a b c : ℕ) → p a ≡ false → p b ≡ false → p c ≡ false → (ns : List ℕ) → list_any (λ n. (a == n) || ((b == n) || (c == n))) (filter p ns) ≡ false
others_named p a b c h i j [] = refl
others_named p a b c h i j (m ∷ ms) = elim (cases_Bool (p m)) [
  | inl e ↦ rw e (rw (other a h e) (rw (other b i e) (rw (other c j e) (others_named p a b c h i j ms))))
  | inr e ↦ rw e (others_named p a b c h i j ms)
]
  where
    other : (k : ℕ) → p k ≡ false → p m ≡ true → (k == m) ≡ false
    other k u v = elim (eqb_tells k m) [
      | inl t ↦ absurd (let w = rw t.1 at u in let f : true ≡ false = sym v ∙ w in cc)
      | inr f ↦ f.0
    ]

false_if_not : (b : Bool) → not b ≡ true → b ≡ false
false_if_not true h = cc
false_if_not false h = refl

-- A stop that can be made for a call of OpenProtocol takes out no item of its opener.
pub opener_spared : (ds : List Meaning) (t : HandleTable) (opens : List OpenRecord) (plan : PlannedStop) (handle : ℕ) (opener : Pair) → plan.handles ≡ made_by t plan.pairs
    → can_be_stopped ds t opens plan.pairs handle (Some opener) ≡ true → takes_item plan handle opener.agent opener.controller ≡ false
opener_spared ds t opens plan handle opener made h =
    let set = plan.pairs in
    let a = and_parts (list_all (may_stop ds t opens) set) _ h in
    let b = and_parts (is_unobstructed t opens set) _ a.1 in
    let c = and_parts (not (is_made_by t set handle)) (spares_opener t set (Some opener)) b.1 in
    let d = and_parts (not (has_agent set opener.agent)) _ c.1 in
    let e = and_parts (not (is_made_by t set opener.agent)) (not (is_made_by t set opener.controller)) d.1 in
    let named = others_named (is_made_by t set) handle opener.agent opener.controller (false_if_not _ c.0) (false_if_not _ e.0) (false_if_not _ e.1) (numbers t) in
    rw made (rw named (not_pair set opener.agent opener.controller (false_if_not _ d.0)))
