-- What is asked of an interface's items is asked of those near its handle alone.
use Rattle.std.proofs.Common.{◌≡◌, ℕ, ◌==◌, ◌&&◌, ◌||◌, not, Bool, true, false, cond, List, [], ◌∷◌, map, is_some, inl, inr, refl, sym, ap, ◌∙◌, Option, Some, None}
use Rattle.std.specs.List.{filter, list_any, AllByRecursion}
use Rattle.std.proofs.lemmas.Bool.{cases_Bool, eq-eqb}
use Rattle.guid_handles.specs.HandleTables.{HandleTable, is_live, same_guid}
use Rattle.guid_handles.proofs.SortedLists.{any_found, find_filter}
use Rattle.guid_handles.proofs.Filters.{filter_inside}
use Rattle.guid_handles.proofs.Grouped.{is_same}
use Rattle.open_agents.specs.declared.items.OpenRecord.{OpenRecord}
use Rattle.open_agents.specs.OpenItems.{is_for_driver, is_exclusive, is_open_on, is_of_pair, item_of, items_on, manager_of, manages, managers_of, names}
use Rattle.open_agents.specs.declared.items.Decision.TheVariants.{Add}
use Rattle.open_agents.specs.OpenRule.{add_or_stop, has_equal, has_of_agent, has_holder, has_exclusive, is_driver_item, driver_item, names_badly, needs_agent, open_rule}
use Rattle.open_agents.proofs.Placed.{none_of_agent_0}
use Rattle.open_agents.specs.Blocks.{is_beside, is_near}

pub first_part : (a b : Bool) → (a && b) ≡ true → a ≡ true
first_part a b h = elim (cases_Bool a) [
  | inl e ↦ e
  | inr e ↦ let n = rw e at h in cc
]

pub open_near : (n : ℕ) (guid : List ℕ) (o : OpenRecord) → is_open_on n guid o ≡ true → is_near n o ≡ true
open_near n guid o h =
    let e : o.handle ≡ n = is_same o.handle n (first_part (o.handle == n) (same_guid o.guid guid) h) in
    rw (e, eq-eqb n n refl) refl

or_true : (a : Bool) → (a || true) ≡ true
or_true true = refl
or_true false = refl

pub controller_near : (n : ℕ) (o : OpenRecord) → (n == 0) ≡ false → (o.controller == n) ≡ true → is_near n o ≡ true
controller_near n o z h =
    let e : o.controller ≡ n = is_same o.controller n h in
    rw (e, z, eq-eqb n n refl) (or_true (o.handle == n))

pub handle_near : (n : ℕ) (o : OpenRecord) → (o.handle == n) ≡ true → is_near n o ≡ true
handle_near n o h =
    let e : o.handle ≡ n = is_same o.handle n h in
    rw (e, eq-eqb n n refl) refl

pub second_part : (a b : Bool) → (a && b) ≡ true → b ≡ true
second_part true b h = h
second_part false b h = cc

pub no_part : (a b : Bool) → (a || b) ≡ false → (a ≡ false) × (b ≡ false)
no_part true b h = cc
no_part false b h = (refl, h)

-- once the items that name a handle are gone, it is the agent of none
pub none_named : (n : ℕ) (opens left : List OpenRecord) → left ≡ filter (λ o. not (names n o)) opens → AllByRecursion (λ o. (o.agent == n) ≡ false) left
none_named n opens left e = rw e (all_left n opens)
  where
    all_left : (n : ℕ) (os : List OpenRecord) → AllByRecursion (λ o. (o.agent == n) ≡ false) (filter (λ o. not (names n o)) os)
    all_left n [] = tt
    all_left n (o ∷ os) = elim (cases_Bool (names n o)) [
      | inl t ↦ rw t (all_left n os)
      | inr f ↦ rw f ((no_part (o.agent == n) (o.controller == n) (no_part (o.handle == n) ((o.agent == n) || (o.controller == n)) f).1).0, all_left n os)
    ]

-- the items that make an agent manage a handle are near it
pub managed_near : (opens : List OpenRecord) (n : ℕ) → (n == 0) ≡ false → managers_of (filter (is_near n) opens) n ≡ managers_of opens n
managed_near opens n z = ap (map manager_of) (filter_inside (is_near n) (manages n) (λ o h. controller_near n o z (second_part (is_for_driver o.attributes) (o.controller == n) h)) opens)

pub beside_near : (n : ℕ) (o : OpenRecord) → (n == 0) ≡ false → is_beside n o ≡ true → is_near n o ≡ true
beside_near n o z h = elim (cases_Bool (o.handle == n)) [
  | inl e ↦ handle_near n o e
  | inr e ↦ controller_near n o z (rw e at h)
]

-- a handle that is the agent of no item is named beside the agents alone
pub named_beside : (n : ℕ) (opens : List OpenRecord) → AllByRecursion (λ o. (o.agent == n) ≡ false) opens → filter (λ o. not (is_beside n o)) opens ≡ filter (λ o. not (names n o)) opens
named_beside n [] a = refl
named_beside n (o ∷ os) a = rw a.0 (ap (λ r. cond (not (is_beside n o)) (o ∷ r) r) (named_beside n os a.1))

-- a test that passes just items of an interface
any_near : (n : ℕ) (guid : List ℕ) (q : OpenRecord → Bool) (opens : List OpenRecord)
    → list_any (λ o. is_open_on n guid o && q o) (filter (is_near n) opens) ≡ list_any (λ o. is_open_on n guid o && q o) opens
any_near n guid q opens =
    let p : OpenRecord → Bool = λ o. is_open_on n guid o && q o in
    sym (any_found p (filter (is_near n) opens))
    ∙ ap is_some (find_filter p (is_near n) true (λ o h. open_near n guid o (first_part (is_open_on n guid o) (q o) h)) opens)
    ∙ any_found p opens

pub open_on_near : (n : ℕ) (guid : List ℕ) (opens : List OpenRecord) → list_any (is_open_on n guid) (filter (is_near n) opens) ≡ list_any (is_open_on n guid) opens
open_on_near n guid opens =
    sym (any_found (is_open_on n guid) (filter (is_near n) opens)) ∙ ap is_some (find_filter (is_open_on n guid) (is_near n) true (open_near n guid) opens) ∙ any_found (is_open_on n guid) opens

pub equal_near : (opens : List OpenRecord) (n : ℕ) (guid : List ℕ) (agent controller a : ℕ) → has_equal (filter (is_near n) opens) n guid agent controller a ≡ has_equal opens n guid agent controller a
equal_near opens n guid agent controller a = any_near n guid (λ o. is_of_pair controller agent o && (o.attributes == a)) opens

pub of_agent_near : (opens : List OpenRecord) (n : ℕ) (guid : List ℕ) (agent a : ℕ) → has_of_agent (filter (is_near n) opens) n guid agent a ≡ has_of_agent opens n guid agent a
of_agent_near opens n guid agent a = any_near n guid (λ o. (o.agent == agent) && (o.attributes == a)) opens

pub holder_near : (opens : List OpenRecord) (n : ℕ) (guid : List ℕ) → has_holder (filter (is_near n) opens) n guid ≡ has_holder opens n guid
holder_near opens n guid = any_near n guid (λ o. is_for_driver o.attributes || is_exclusive o.attributes) opens

pub exclusive_near : (opens : List OpenRecord) (n : ℕ) (guid : List ℕ) → has_exclusive (filter (is_near n) opens) n guid ≡ has_exclusive opens n guid
exclusive_near opens n guid = any_near n guid (λ o. is_exclusive o.attributes) opens

pub driver_near : (opens : List OpenRecord) (n : ℕ) (guid : List ℕ) → driver_item (filter (is_near n) opens) n guid ≡ driver_item opens n guid
driver_near opens n guid = find_filter (is_driver_item n guid) (is_near n) true (λ o h. open_near n guid o (first_part (is_open_on n guid o) (o.attributes == 0x10) h)) opens

pub rule_near : (t : HandleTable) (opens : List OpenRecord) (n : ℕ) (guid : List ℕ) (agent controller a : ℕ) → open_rule t (filter (is_near n) opens) n guid agent controller a ≡ open_rule t opens n guid agent controller a
rule_near t opens n guid agent controller a =
    rw (equal_near opens n guid agent controller a, of_agent_near opens n guid agent a, holder_near opens n guid, exclusive_near opens n guid, driver_near opens n guid) refl

pub items_near : (opens : List OpenRecord) (n : ℕ) (guid : List ℕ) → items_on (filter (is_near n) opens) n guid ≡ items_on opens n guid
items_near opens n guid = ap (map item_of) (filter_inside (is_near n) (is_open_on n guid) (open_near n guid) opens)

-- where no item passes a test, none is taken out by it
pub none_dropped : (p : OpenRecord → Bool) (opens : List OpenRecord) → list_any p opens ≡ false → opens ≡ filter (λ o. not (p o)) opens
none_dropped p [] h = refl
none_dropped p (x ∷ xs) h = elim (cases_Bool (p x)) [
  | inl e ↦ let n = rw e at h in cc
  | inr e ↦ rw e (ap (λ r. x ∷ r) (none_dropped p xs (rw e at h)))
]

-- a test of an interface's items as they are listed
pub any_listed : (q : ℕ → Bool) (n : ℕ) (guid : List ℕ) (opens : List OpenRecord) → list_any (λ o. is_open_on n guid o && q o.attributes) opens ≡ list_any (λ i. q i.attributes) (items_on opens n guid)
any_listed q n guid [] = refl
any_listed q n guid (o ∷ os) = elim (cases_Bool (is_open_on n guid o)) [
  | inl e ↦ rw e (ap (λ r. q o.attributes || r) (any_listed q n guid os))
  | inr e ↦ rw e (any_listed q n guid os)
]

pub listed_near : (q : ℕ → Bool) (n : ℕ) (guid : List ℕ) (opens : List OpenRecord) → list_any (λ o. is_open_on n guid o && q o.attributes) (filter (is_near n) opens) ≡ list_any (λ i. q i.attributes) (items_on opens n guid)
listed_near q n guid opens = any_near n guid (λ o. q o.attributes) opens ∙ any_listed q n guid opens

-- ---- agent 0

added : (o : Option OpenRecord) → add_or_stop false o ≡ Add
added None = refl
added (Some o) = refl

none_needed : (a b c d : Bool) → (a || (b || (c || d))) ≡ false → (a ≡ false) × (c ≡ false) × (d ≡ false)
none_needed false false false false h = (refl, refl, refl)
none_needed false false false true h = cc
none_needed false false true d h = cc
none_needed false true c d h = cc
none_needed true b c d h = cc

lacks_agent : (t : HandleTable) (n controller a : ℕ) → needs_agent a ≡ true → names_badly t n 0 controller a ≡ true
lacks_agent t n controller a e = elim (cases_Bool (is_live t n)) [
  | inl l ↦ rw (l, e) refl
  | inr l ↦ rw l refl
]

-- an open by agent 0 is decided without items
pub rule_agent_0 : (t : HandleTable) (opens : List OpenRecord) (n : ℕ) (guid : List ℕ) (controller a : ℕ) → AllByRecursion (λ o. (o.agent == 0) ≡ false) opens
    → open_rule t [] n guid 0 controller a ≡ open_rule t opens n guid 0 controller a
rule_agent_0 t opens n guid controller a h = elim (cases_Bool (needs_agent a)) [
  | inl e ↦ rw (lacks_agent t n controller a e) refl
  | inr e ↦
      let k = none_needed (a == 0x20) (a == 0x8) (a == 0x10) (a == 0x30) e in
      rw (none_of_agent_0 n guid controller a opens h) (rw (k.0, k.1, k.2) (rw (added (driver_item opens n guid)) refl))
]
