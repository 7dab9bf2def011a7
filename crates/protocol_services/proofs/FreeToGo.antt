-- Interfaces that are free to go are uninstalled one after the other, and none is refused.
use Rattle.std.proofs.Common.{◌≡◌, ℕ, ◌+◌, ◌<◌, ◌==◌, ◌&&◌, not, Bool, true, false, cond, List, [], ◌∷◌, length, drop, get_or, map, Option, Some, None, is_some, inl, inr, refl, sym, ap, subst, ◌∙◌}
use Rattle.std.specs.List.{filter, find, list_all, list_any}
use Rattle.std.specs.Option.{option_map}
use Rattle.std.proofs.lemmas.Bool.{and_parts, cases_Bool, not-true, or_parts}
use Rattle.page_ranges.specs.declared.statuses.Status.{Status}
use Rattle.page_ranges.specs.declared.statuses.Status.TheVariants.{InvalidParameter, NotFound}
use Rattle.guid_handles.specs.declared.records.Interface.{Interface}
use Rattle.guid_handles.specs.HandleTables.{HandleTable, carries, interface_at, is_at, is_live, is_of, is_on, same_guid}
use Rattle.guid_handles.specs.HandleChanges.{has_guid_twice, without_interface}
use Rattle.guid_handles.proofs.Filters.{filter_inside}
use Rattle.guid_handles.proofs.GuidOrder.{same_guid-true}
use Rattle.guid_handles.proofs.Indexed.{at_guid, guid_turned}
use Rattle.guid_handles.proofs.SortedLists.{drop_next, find_filter}
use Rattle.open_agents.specs.declared.items.OpenItem.{OpenItem}
use Rattle.open_agents.specs.declared.items.OpenRecord.{OpenRecord}
use Rattle.open_agents.specs.OpenItems.{is_driven, is_for_driver, is_kept, is_open_on, item_of, items_on, keeps, names, without_items}
use Rattle.driver_connect.specs.Drivers.{Meaning}
use Rattle.protocol_services.specs.Lists.{Lists}
use Rattle.protocol_services.specs.Removing.{is_value, removal_refusal, without_dead}
use Rattle.protocol_services.specs.RemovalSteps.{uninstalled_idle}
use Rattle.protocol_services.specs.RemovingMany.{all_uninstalled, are_free_to_go, is_free_to_go}
use Rattle.protocol_services.proofs.Freed.{served_carries}
use Rattle.protocol_services.proofs.ProperRemovals.{removal_live}
use Rattle.protocol_services.proofs.RemovedMany.{next_uninstalled}
use Rattle.protocol_services.proofs.Unopened.{uninstalled_in_place}

-- ---- one interface

none_there : (o : Option Status) → not (is_some o) ≡ true → o ≡ None
none_there None e = refl
none_there (Some s) e = absurd (cc)

pub record IsFree (l : Lists) (n : ℕ) (p : List ℕ × ℕ) : Type 0 where
  pub none : removal_refusal l.handles n p.0 p.1 ≡ None
  pub driven : is_driven l.opens n p.0 ≡ false
  pub kept : is_kept l.opens n p.0 ≡ false

-- what is known of an interface that is free to go
pub free_parts : (l : Lists) (n : ℕ) (p : List ℕ × ℕ) → is_free_to_go l n p ≡ true → IsFree l n p
free_parts l n p f =
    let a = and_parts (not (is_some (removal_refusal l.handles n p.0 p.1))) (not (is_driven l.opens n p.0) && not (is_kept l.opens n p.0)) f in
    let b = and_parts (not (is_driven l.opens n p.0)) (not (is_kept l.opens n p.0)) a.1 in
    record { none = none_there (removal_refusal l.handles n p.0 p.1) a.0; driven = not-true (is_driven l.opens n p.0) b.0; kept = not-true (is_kept l.opens n p.0) b.1 }

-- it goes, and the others are to go
free_goes : (ds : List Meaning) (l : Lists) (n : ℕ) (p : List ℕ × ℕ) (ps : List (List ℕ × ℕ)) → is_free_to_go l n p ≡ true → all_uninstalled ds n (p ∷ ps) l ≡ all_uninstalled ds n ps (uninstalled_idle n p.0 l)
free_goes ds l n p ps f =
    let free = free_parts l n p f in
    next_uninstalled ds n p ps tt l (uninstalled_idle n p.0 l) (uninstalled_in_place ds l n p.0 p.1 free.none free.driven free.kept)

-- ---- what it leaves of another one

-- an interface of another GUID is none that goes
other_interface : (n : ℕ) (guid k : List ℕ) → same_guid guid k ≡ false → (i : Interface) → is_at n k i ≡ true → not (is_at n guid i) ≡ true
other_interface n guid k d i e =
    let f : is_of guid i ≡ false = rw (at_guid n k i e) (guid_turned k guid ∙ d) in
    elim (cases_Bool (is_on n i)) [
      | inl t ↦ rw t (rw f refl)
      | inr t ↦ rw t refl
    ]

-- nor is an item on one
other_item : (n : ℕ) (guid k : List ℕ) → same_guid guid k ≡ false → (o : OpenRecord) → is_open_on n k o ≡ true → not (is_open_on n guid o) ≡ true
other_item n guid k d o e =
    let a = and_parts (o.handle == n) (same_guid o.guid k) e in
    let f : same_guid o.guid guid ≡ false = rw (same_guid-true o.guid k a.1) (guid_turned k guid ∙ d) in
    rw (a.0, f) refl

abbrev interfaces_left : ℕ → List ℕ → HandleTable → HandleTable
interfaces_left n guid t = record t { interfaces = filter (λ i. not (is_at n guid i)) t.interfaces }

found_on : (n : ℕ) (guid : List ℕ) (is : List Interface) → is_some (find (is_at n guid) is) ≡ true → list_any (is_on n) is ≡ true
found_on n guid [] e = absurd (cc)
found_on n guid (i ∷ is) e = elim (cases_Bool (is_on n i)) [
  | inl k ↦ rw k refl
  | inr k ↦ rw k (found_on n guid is (rw k at e))
]

other_there : (n : ℕ) (guid k : List ℕ) (t : HandleTable) → same_guid guid k ≡ false → interface_at (interfaces_left n guid t) n k ≡ interface_at t n k
other_there n guid k t d = find_filter (is_at n k) (λ i. not (is_at n guid i)) true (other_interface n guid k d) t.interfaces

-- so the handle stays
handle_stays : (n : ℕ) (guid k : List ℕ) (t : HandleTable) → same_guid guid k ≡ false → carries t k n ≡ true → without_interface n guid t ≡ interfaces_left n guid t
handle_stays n guid k t d c = rw (found_on n k (interfaces_left n guid t).interfaces (ap is_some (other_there n guid k t d) ∙ c)) refl

-- and so do the items that are not on the interface that goes
abbrev leaves : ℕ → List ℕ → Lists → Lists
leaves n guid l = record l { handles = interfaces_left n guid l.handles; opens = without_items (is_open_on n guid) l.opens }

idle_leaves : (l : Lists) (n : ℕ) (guid k : List ℕ) → same_guid guid k ≡ false → carries l.handles k n ≡ true → is_live l.handles n ≡ true → uninstalled_idle n guid l ≡ leaves n guid l
idle_leaves l n guid k d c live =
    let m : Lists = record l { opens = without_items (is_open_on n guid) l.opens } in
    ap (λ (t : HandleTable). without_dead n (record m { handles = t })) (handle_stays n guid k l.handles d c)
    ∙ ap (λ (b : Bool). cond b (leaves n guid l) (record (leaves n guid l) { opens = without_items (names n) (leaves n guid l).opens })) live

-- what decides whether an interface is free to go
abbrev free_by : Bool → Option Interface → List OpenItem → ℕ → Bool
free_by live found items value =
    not (is_some (cond live (cond (is_value value (option_map (λ i. i.value) found)) None (Some NotFound)) (Some InvalidParameter)))
    && (not (list_any (λ i. is_for_driver i.attributes) items) && not (list_any (λ i. keeps i.attributes) items))

stays_free : (l : Lists) (n : ℕ) (p q : List ℕ × ℕ) → same_guid p.0 q.0 ≡ false → is_free_to_go l n q ≡ true → is_free_to_go (uninstalled_idle n p.0 l) n q ≡ true
stays_free l n p q d f =
    let free = free_parts l n q f in
    let left = idle_leaves l n p.0 q.0 d (served_carries l.handles n q.0 q.1 free.none) (removal_live l.handles n q.0 q.1 free.none) in
    let items : items_on (leaves n p.0 l).opens n q.0 ≡ items_on l.opens n q.0 = ap (map item_of) (filter_inside (λ o. not (is_open_on n p.0 o)) (is_open_on n q.0) (other_item n p.0 q.0 d) l.opens) in
    ap (λ (m : Lists). is_free_to_go m n q) left
    ∙ ap (λ (found : Option Interface). free_by (is_live l.handles n) found (items_on (leaves n p.0 l).opens n q.0) q.1) (other_there n p.0 q.0 l.handles d)
    ∙ ap (λ (is : List OpenItem). free_by (is_live l.handles n) (interface_at l.handles n q.0) is q.1) items
    ∙ f

all_stay_free : (l : Lists) (n : ℕ) (p : List ℕ × ℕ) (qs : List (List ℕ × ℕ)) → list_any (λ q. same_guid p.0 q.0) qs ≡ false → list_all (is_free_to_go l n) qs ≡ true → list_all (is_free_to_go (uninstalled_idle n p.0 l) n) qs ≡ true
all_stay_free l n p [] d f = refl
all_stay_free l n p (q ∷ qs) d f =
    let a = or_parts (same_guid p.0 q.0) (list_any (λ q. same_guid p.0 q.0) qs) d in
    let b = and_parts (is_free_to_go l n q) (list_all (is_free_to_go l n) qs) f in
    rw (stays_free l n p q a.0 b.0) (all_stay_free l n p qs a.1 b.1)

-- ---- several

first_free : (l : Lists) (n : ℕ) (p : List ℕ × ℕ) (ps : List (List ℕ × ℕ)) → are_free_to_go l n (p ∷ ps) ≡ true → is_free_to_go l n p ≡ true
first_free l n p ps f =
    let a = and_parts (not (has_guid_twice (p ∷ ps))) (list_all (is_free_to_go l n) (p ∷ ps)) f in
    let b = and_parts (is_free_to_go l n p) (list_all (is_free_to_go l n) ps) a.1 in
    b.0

next_free : (l : Lists) (n : ℕ) (p : List ℕ × ℕ) (ps : List (List ℕ × ℕ)) → are_free_to_go l n (p ∷ ps) ≡ true → are_free_to_go (uninstalled_idle n p.0 l) n ps ≡ true
next_free l n p ps f =
    let a = and_parts (not (has_guid_twice (p ∷ ps))) (list_all (is_free_to_go l n) (p ∷ ps)) f in
    let b = and_parts (is_free_to_go l n p) (list_all (is_free_to_go l n) ps) a.1 in
    let c = or_parts (list_any (λ q. same_guid p.0 q.0) ps) (has_guid_twice ps) (not-true (has_guid_twice (p ∷ ps)) a.0) in
    rw c.1 (all_stay_free l n p ps c.0 b.1)

-- ---- one after the other

at_turn : (l : Lists) (n i : ℕ) (p : List ℕ × ℕ) (pairs : List (List ℕ × ℕ)) → i < length pairs → p ≡ get_or pairs i p → are_free_to_go l n (drop i pairs) ≡ true → are_free_to_go l n (p ∷ drop (i + 1) pairs) ≡ true
at_turn l n i p pairs a e f = subst (λ (ps : List (List ℕ × ℕ)). are_free_to_go l n ps ≡ true) (drop_next pairs i p a e) f

-- the handle carries the one whose turn it is
pub carried_at_turn : (l : Lists) (n i : ℕ) (p : List ℕ × ℕ) (pairs : List (List ℕ × ℕ)) → i < length pairs → p ≡ get_or pairs i p → are_free_to_go l n (drop i pairs) ≡ true → carries l.handles p.0 n ≡ true
carried_at_turn l n i p pairs a e f = served_carries l.handles n p.0 p.1 (free_parts l n p (first_free l n p (drop (i + 1) pairs) (at_turn l n i p pairs a e f))).none

-- those after it are free to go once it is out
pub free_after : (l : Lists) (n i : ℕ) (p : List ℕ × ℕ) (pairs : List (List ℕ × ℕ)) → i < length pairs → p ≡ get_or pairs i p → are_free_to_go l n (drop i pairs) ≡ true → are_free_to_go (uninstalled_idle n p.0 l) n (drop (i + 1) pairs) ≡ true
free_after l n i p pairs a e f = next_free l n p (drop (i + 1) pairs) (at_turn l n i p pairs a e f)

-- and do what all do
pub goes_after : (ds : List Meaning) (start l : Lists) (n i : ℕ) (p : List ℕ × ℕ) (pairs : List (List ℕ × ℕ)) → i < length pairs → p ≡ get_or pairs i p → are_free_to_go l n (drop i pairs) ≡ true
    → all_uninstalled ds n (drop i pairs) l ≡ all_uninstalled ds n pairs start → all_uninstalled ds n (drop (i + 1) pairs) (uninstalled_idle n p.0 l) ≡ all_uninstalled ds n pairs start
goes_after ds start l n i p pairs a e f same =
    sym (free_goes ds l n p (drop (i + 1) pairs) (first_free l n p (drop (i + 1) pairs) (at_turn l n i p pairs a e f)))
    ∙ sym (ap (λ (ps : List (List ℕ × ℕ)). all_uninstalled ds n ps l) (drop_next pairs i p a e)) ∙ same
