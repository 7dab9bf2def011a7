-- The rules of OpenProtocol, HandleProtocol and CloseProtocol keep the lists proper.
use Rattle.std.proofs.Common.{◌≡◌, ℕ, ◌==◌, ◌&&◌, ◌||◌, not, Bool, true, false, cond, List, [], ◌∷◌, Option, Some, None, Result, Ok, Err, inl, inr, refl, sym, subst}
use Rattle.std.specs.List.{AllByRecursion}
use Rattle.std.proofs.lemmas.Bool.{cases_Bool, or_parts, eq-eqb}
use Rattle.page_ranges.specs.declared.statuses.Status.{Status}
use Rattle.page_ranges.specs.declared.statuses.Status.TheVariants as status
use Rattle.guid_handles.specs.HandleTables.{HandleTable, carries, is_live}
use Rattle.guid_handles.specs.HandleChanges.{is_dead}
use Rattle.guid_handles.proofs.SortedLists.{all_both, all_filter, any_none, ascending_filter, found_none}
use Rattle.open_agents.specs.declared.items.Decision.{Decision}
use Rattle.open_agents.specs.declared.items.Decision.TheVariants.{Refuse, Count, Add, StopFirst}
use Rattle.guid_handles.specs.declared.records.Pair.{Pair}
use Rattle.open_agents.specs.declared.items.OpenRecord.{OpenRecord}
use Rattle.open_agents.specs.OpenItems.{is_closed_by, is_exclusive, is_for_driver, is_open_on, manager_of, without_items}
use Rattle.open_agents.specs.OpenRule.{add_or_stop, driver_item, has_equal, has_exclusive, has_holder, has_of_agent, is_driver_item, is_known, names_badly, needs_agent, needs_controller, open_rule}
use Rattle.driver_connect.specs.Drivers.{Meaning}
use Rattle.driver_connect.specs.Stopping.{has_pair, made_by, stop_set}
use Rattle.driver_connect.proofs.Opened.{is_holder, none_any}
use Rattle.driver_connect.proofs.StopSets.{is_closed}
use Rattle.protocol_services.specs.Lists.{Lists}
use Rattle.protocol_services.specs.Stopping.{can_stop, once_stopped}
use Rattle.protocol_services.specs.Opening.{Closes, HandlesProtocol, OpensAs, OpensProtocol, by_handle_protocol, once_opened, opened_by}
use Rattle.protocol_services.specs.ProperLists.{AreProperLists, NamesLive, HoldApart}
use Rattle.protocol_services.proofs.ProperItems.{none_holds, one_holder, with_item_apart, with_item_named}
use Rattle.protocol_services.proofs.ProperRules.{handle_spared, lists_proper, opener_spared, parts_proper, same, spared_dead, spared_live, stopped_proper}

-- ---- what the open rule says

-- what is known of a call that is not refused, where no item is equal
record ComesNew (opens : List OpenRecord) (n : ℕ) (guid : List ℕ) (a : ℕ) (d : Decision) : Type 0 where
  driver : ((a == 0x10) && has_holder opens n guid) ≡ false
  exclusive : (is_exclusive a && has_exclusive opens n guid) ≡ false
  decided : add_or_stop (is_exclusive a) (driver_item opens n guid) ≡ d

-- what is known of a call that is not refused
record Goes (t : HandleTable) (opens : List OpenRecord) (n : ℕ) (guid : List ℕ) (agent controller a : ℕ) (d : Decision) : Type 0 where
  named : names_badly t n agent controller a ≡ false
  equal : has_equal opens n guid agent controller a ≡ true → d ≡ Count
  new : has_equal opens n guid agent controller a ≡ false → ComesNew opens n guid a d

abbrev IsRefusal : Decision → Type 0
IsRefusal (Refuse s) = Unit {0}
IsRefusal d = ⊥

past : (b : Bool) (s : Status) (rest d : Decision) → cond b (Refuse s) rest ≡ d → (IsRefusal d → ⊥) → (b ≡ false) × (rest ≡ d)
past true s rest d e n = absurd (n (subst IsRefusal e tt))
past false s rest d e n = (refl, e)

goes : (t : HandleTable) (opens : List OpenRecord) (n : ℕ) (guid : List ℕ) (agent controller a : ℕ) (d : Decision) → open_rule t opens n guid agent controller a ≡ d → (IsRefusal d → ⊥) → Goes t opens n guid agent controller a d
goes t opens n guid agent controller a d e f =
    let equal : Bool = has_equal opens n guid agent controller a in
    let l1 = past (not (is_known a)) _ _ d e f in
    let l2 = past (names_badly t n agent controller a) _ _ d l1.1 f in
    let l3 = past (not (carries t guid n)) _ _ d l2.1 f in
    let l4 = past (equal && is_for_driver a) _ _ d l3.1 f in
    let l5 = past (equal && (a == 0x20)) _ _ d l4.1 f in
    record {
      named = l2.0;
      equal = λ k. sym (rw k at l5.1);
      new = λ k.
          let l6 = rw k at l5.1 in
          let l7 = past (is_for_driver a && has_of_agent opens n guid agent a) _ _ d l6 f in
          let l8 = past ((a == 0x10) && has_holder opens n guid) _ _ d l7.1 f in
          let l9 = past (is_exclusive a && has_exclusive opens n guid) _ _ d l8.1 f in
          record { driver = l8.0; exclusive = l9.0; decided = l9.1 };
    }

-- ---- live handles

-- the handle, the agent and the controller that a call names
record AreNamed (t : HandleTable) (n agent controller : ℕ) : Type 0 where
  handle : is_live t n ≡ true
  agent_lives : is_dead t agent ≡ false
  controller_lives : is_dead t controller ≡ false

pub not_not : (b : Bool) → not b ≡ false → b ≡ true
not_not true h = refl
not_not false h = cc

well_named : (t : HandleTable) (n agent controller a : ℕ) → names_badly t n agent controller a ≡ false → AreNamed t n agent controller
well_named t n agent controller a h =
    let own : Bool = (a == 0x8) && (controller == n) in
    let b = or_parts (not (is_live t n)) (((agent == 0) && needs_agent a) || (((controller == 0) && needs_controller a) || (is_dead t agent || (is_dead t controller || own)))) h in
    let c = or_parts ((agent == 0) && needs_agent a) (((controller == 0) && needs_controller a) || (is_dead t agent || (is_dead t controller || own))) b.1 in
    let d = or_parts ((controller == 0) && needs_controller a) (is_dead t agent || (is_dead t controller || own)) c.1 in
    let e = or_parts (is_dead t agent) (is_dead t controller || own) d.1 in
    let f = or_parts (is_dead t controller) own e.1 in
    record { handle = not_not (is_live t n) b.0; agent_lives = e.0; controller_lives = f.0 }

opened_proper : (l : Lists) (n : ℕ) (guid : List ℕ) (agent controller a : ℕ) → AreProperLists l → AreNamed l.handles n agent controller
    → (has_equal l.opens n guid agent controller a ≡ false → (is_for_driver a || is_exclusive a) ≡ true → has_holder l.opens n guid ≡ false) → AreProperLists (once_opened l n guid agent controller a)
opened_proper l n guid agent controller a s m h =
    lists_proper (once_opened l n guid agent controller a) (record {
      table = (parts_proper l s).table;
      names = with_item_named l.handles n guid agent controller a l.opens m.handle m.agent_lives m.controller_lives s.names;
      holders = with_item_apart n guid agent controller a l.opens h s.holders;
    })

-- ---- who holds the interface

no_holder : (n : ℕ) (guid : List ℕ) (o : OpenRecord) → is_driver_item n guid o ≡ false → (is_open_on n guid o && is_exclusive o.attributes) ≡ false → is_holder n guid o ≡ false
no_holder n guid o h k = elim (cases_Bool (is_open_on n guid o)) [
  | inr e ↦ rw e refl
  | inl e ↦
      let x = or_parts (o.attributes == 0x20) (o.attributes == 0x30) (rw e at k) in
      let d : (o.attributes == 0x10) ≡ false = rw e at h in
      rw e (rw d (rw x.0 (rw x.1 refl)))
]

-- an attribute that holds, but is not BY_DRIVER alone, is exclusive
holds_exclusive : (a : ℕ) → (is_for_driver a || is_exclusive a) ≡ true → (a == 0x10) ≡ false → is_exclusive a ≡ true
holds_exclusive a h d = elim (cases_Bool (a == 0x30)) [
  | inl e ↦ elim (cases_Bool (a == 0x20)) [
    | inl f ↦ rw f refl
    | inr f ↦ rw f (rw e refl)
  ]
  | inr e ↦ elim (cases_Bool (a == 0x20)) [
    | inl f ↦ rw f refl
    | inr f ↦ absurd (let k = rw f at (rw e at (rw d at h)) in cc)
  ]
]

abbrev IsStop : Decision → Type 0
IsStop (StopFirst p) = Unit {0}
IsStop d = ⊥

-- where nothing stops, no driver has the interface open beside an exclusive open
no_driver : (exclusive : Bool) (o : Option OpenRecord) (d : Decision) → exclusive ≡ true → add_or_stop exclusive o ≡ d → (IsStop d → ⊥) → o ≡ None
no_driver true None d e h f = refl
no_driver true (Some o) d e h f = absurd (f (subst IsStop h tt))
no_driver false o d e h f = absurd cc

free_for : (opens : List OpenRecord) (n : ℕ) (guid : List ℕ) (a : ℕ) (d : Decision) → ComesNew opens n guid a d → (IsStop d → ⊥) → (is_for_driver a || is_exclusive a) ≡ true → has_holder opens n guid ≡ false
free_for opens n guid a d c f h = elim (cases_Bool (a == 0x10)) [
  | inl e ↦ rw e at c.driver
  | inr e ↦
      let x : is_exclusive a ≡ true = holds_exclusive a h e in
      let free : has_exclusive opens n guid ≡ false = rw x at c.exclusive in
      let none : driver_item opens n guid ≡ None = no_driver (is_exclusive a) (driver_item opens n guid) d x c.decided f in
      any_none (is_holder n guid) opens
      (all_both (λ o. is_driver_item n guid o ≡ false) (λ o. (is_open_on n guid o && is_exclusive o.attributes) ≡ false) (λ o. is_holder n guid o ≡ false) (no_holder n guid) opens
      (found_none (is_driver_item n guid) opens none) (none_any (λ o. is_open_on n guid o && is_exclusive o.attributes) opens free))
]

-- ---- opening

adds : (l : Lists) (n : ℕ) (guid : List ℕ) (agent controller a : ℕ) (d : Decision) → AreProperLists l → open_rule l.handles l.opens n guid agent controller a ≡ d → (IsRefusal d → ⊥) → (IsStop d → ⊥)
    → AreProperLists (once_opened l n guid agent controller a)
adds l n guid agent controller a d s e f g =
    let k = goes l.handles l.opens n guid agent controller a d e f in
    opened_proper l n guid agent controller a s (well_named l.handles n agent controller a k.named) (λ x h. free_for l.opens n guid a d (k.new x) g h)

stop_pair : (exclusive : Bool) (o : Option OpenRecord) (q : Pair) → add_or_stop exclusive o ≡ StopFirst q → (p : OpenRecord) × (o ≡ Some p) × (manager_of p ≡ q)
stop_pair true None q e = absurd cc
stop_pair true (Some p) q e = (p, refl, cc)
stop_pair false None q e = absurd cc
stop_pair false (Some p) q e = absurd cc

own_pair : (q : Pair) → has_pair (q ∷ []) q ≡ true
own_pair q = rw (eq-eqb q.controller q.controller refl) (rw (eq-eqb q.agent q.agent refl) refl)

stops : (ds : List Meaning) (l : Lists) (n : ℕ) (guid : List ℕ) (agent controller a : ℕ) (q : Pair) → AreProperLists l → open_rule l.handles l.opens n guid agent controller a ≡ StopFirst q
    → can_stop ds l (q ∷ []) n (opened_by agent controller) ≡ true → AreProperLists (once_opened (once_stopped (q ∷ []) l) n guid agent controller a)
stops ds l n guid agent controller a q s e can =
    let k = goes l.handles l.opens n guid agent controller a (StopFirst q) e (λ x. x) in
    let m = well_named l.handles n agent controller a k.named in
    let set = stop_set l.handles l.opens (q ∷ []) in
    let spared = handle_spared ds l.handles l.opens set n (opened_by agent controller) can in
    let opener = opener_spared l.handles set agent controller spared.1 in
    let new : ComesNew l.opens n guid a (StopFirst q) = elim (cases_Bool (has_equal l.opens n guid agent controller a)) [
      | inl x ↦ absurd (let c = k.equal x in cc)
      | inr x ↦ k.new x
    ] in
    let pair = stop_pair (is_exclusive a) (driver_item l.opens n guid) q new.decided in
    let within : has_pair set q ≡ true = (is_closed l.handles l.opens (q ∷ [])).given q (own_pair q) in
    opened_proper (once_stopped (q ∷ []) l) n guid agent controller a (stopped_proper (q ∷ []) l s)
    (record {
      handle = spared_live l.handles set n spared.0 m.handle;
      agent_lives = spared_dead l.handles set agent opener.0 m.agent_lives;
      controller_lives = spared_dead l.handles set controller opener.1 m.controller_lives;
    })
    (λ x h. none_holds n guid (made_by l.handles set) set q l.opens within
    (subst (λ (r : Pair). AllByRecursion (λ p. is_holder n guid p ≡ true → manager_of p ≡ r) l.opens) pair.2 (one_holder n guid l.opens pair.0 s.holders pair.1)))

opens_as : (ds : List Meaning) (d : Decision) (old : Lists) (n : ℕ) (guid : List ℕ) (agent controller a : ℕ) (result : Result (Option ℕ) Status) (new : Lists) → AreProperLists old
    → open_rule old.handles old.opens n guid agent controller a ≡ d → OpensAs ds d old n guid agent controller a result new → AreProperLists new
opens_as ds (Refuse st) old n guid agent controller a (Ok value) new s e h = absurd h
opens_as ds (Refuse st) old n guid agent controller a (Err r) new s e h = same old new s h.1
opens_as ds (StopFirst q) old n guid agent controller a (Ok value) new s e h = subst AreProperLists (sym h.2) (stops ds old n guid agent controller a q s e h.0)
opens_as ds (StopFirst q) old n guid agent controller a (Err status.AccessDenied) new s e h = same old new s h.1
opens_as ds (StopFirst q) old n guid agent controller a (Err status.OutOfResources) new s e h = same old new s h
opens_as ds (StopFirst q) old n guid agent controller a (Err r) new s e h = absurd h
opens_as ds Count old n guid agent controller a (Ok value) new s e h = subst AreProperLists (sym h.1) (adds old n guid agent controller a Count s e (λ x. x) (λ x. x))
opens_as ds Count old n guid agent controller a (Err r) new s e h = absurd h
opens_as ds Add old n guid agent controller a (Ok value) new s e h = subst AreProperLists (sym h.1) (adds old n guid agent controller a Add s e (λ x. x) (λ x. x))
opens_as ds Add old n guid agent controller a (Err r) new s e h = same old new s h.2

pub opens_protocol : (ds : List Meaning) (old : Lists) (n : ℕ) (guid : List ℕ) (agent controller a : ℕ) (result : Result (Option ℕ) Status) (new : Lists) → AreProperLists old
    → OpensProtocol ds old n guid agent controller a result new → AreProperLists new
opens_protocol ds old n guid agent controller a result new s h = opens_as ds (open_rule old.handles old.opens n guid agent controller a) old n guid agent controller a result new s refl h

pub handles_protocol : (old : Lists) (n : ℕ) (guid : List ℕ) (result : Result ℕ Status) (new : Lists) → AreProperLists old → HandlesProtocol old n guid result new → AreProperLists new
handles_protocol old n guid (Ok value) new s h = opens_protocol [] old n guid 0 0 by_handle_protocol (Ok (Some value)) new s h
handles_protocol old n guid (Err e) new s h = opens_protocol [] old n guid 0 0 by_handle_protocol (Err e) new s h

-- ---- closing

-- fewer items are proper too
pub fewer_items : (p : OpenRecord → Bool) (l : Lists) → AreProperLists l → AreProperLists (record l { opens = without_items p l.opens })
fewer_items p l s = lists_proper _ (record {
  table = (parts_proper l s).table;
  names = all_filter (NamesLive l.handles) (λ o. not (p o)) l.opens s.names;
  holders = ascending_filter HoldApart (λ o. not (p o)) l.opens s.holders;
})

pub closes : (old : Lists) (n : ℕ) (guid : List ℕ) (agent controller : ℕ) (result : Result (Unit {0}) Status) (new : Lists) → AreProperLists old → Closes old n guid agent controller result new → AreProperLists new
closes old n guid agent controller (Ok done) new s h = subst AreProperLists (sym h.2) (fewer_items (is_closed_by n guid agent controller) old s)
closes old n guid agent controller (Err status.InvalidParameter) new s h = same old new s h.1
closes old n guid agent controller (Err status.NotFound) new s h = same old new s h.2
closes old n guid agent controller (Err e) new s h = absurd h
