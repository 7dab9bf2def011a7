-- An interface that is freed, and what stays of its handle.
use Rattle.std.proofs.Common.{◌≡◌, ℕ, ◌+◌, ◌≤◌, ◌&&◌, ◌++◌, Bool, not, true, false, List, [], ◌∷◌, Option, Some, None, is_some, Result, Ok, Err, IfOk, OnOk, OnErr, Vec, inl, inr, refl, sym, ap, subst, ◌∙◌, arith}
use Rattle.std.specs.List.{filter, list_any, list_all}
use Rattle.std.specs.Option.{option_map}
use Rattle.std.proofs.lemmas.Bool.Decides.{eqb_tells}
use Rattle.std.proofs.lemmas.Bool.{cases_Bool, and_parts}
use Rattle.page_ranges.specs.declared.statuses.Status.{Status}
use Rattle.guid_handles.specs.declared.records.Interface.{Interface}
use Rattle.guid_handles.specs.HandleTables.{HandleTable, numbers, is_on, is_at, is_live, interface_at, value_at, carries}
use Rattle.guid_handles.specs.HandleChanges.{unless_bare, with_value, without_interface}
use Rattle.guid_handles.proofs.SortedLists.{all_filter, find_filter}
use Rattle.guid_handles.proofs.Indexed.{at_handle}
use Rattle.open_agents.specs.declared.items.Decision.TheVariants.{StopFirst}
use Rattle.guid_handles.specs.declared.records.Pair.{Pair}
use Rattle.open_agents.specs.declared.items.OpenRecord.{OpenRecord}
use Rattle.open_agents.specs.Blocks.{is_near}
use Rattle.open_agents.specs.OpenItems.{is_keeping, is_kept, is_open_on, names, with_item, without_items}
use Rattle.protocol_notify.specs.Registrations.{events_for}
use Rattle.driver_connect.specs.Drivers.{Meaning}
use Rattle.driver_connect.specs.Starting.{site}
use Rattle.driver_connect.specs.Stopping.{PlannedStop, planned_stop, takes_item, can_be_stopped, is_made_by, is_one_of, is_unobstructed, made_by, may_stop, spares_opener, stop_set, without_handles, without_opens}
use Rattle.driver_connect.specs.Connecting.{ConnectsBelow, first_progress, levels_below}
use Rattle.driver_connect.proofs.Counts.{connect_counts}
use Rattle.driver_connect.proofs.PlannedStops.{added_first, kept_near, opener_spared}
use Rattle.protocol_services.specs.Lists.{Lists, IsRaised}
use Rattle.protocol_services.specs.Opening.{OpensAs, opened_value}
use Rattle.protocol_services.specs.Stopping.{can_stop}
use Rattle.protocol_services.specs.Removing.{Reinstalls, Replaces, can_be_freed, drivers_on, freed, is_value, once_freed, reconnected, removal_refusal, replaced, uninstalled, without_dead}
use Rattle.protocol_services.proofs.OpenCounts.{CountUpTo, one_higher, opened_counts}
use Rattle.protocol_services.proofs.Raised.{all_left, stays_raised}

-- ---- the handle of a call stays

-- a number that fails a test is none of those that pass it
none_of : (p : ℕ → Bool) (n : ℕ) → p n ≡ false → (ns : List ℕ) → is_one_of (filter p ns) n ≡ false
none_of p n h [] = refl
none_of p n h (m ∷ ms) = elim (cases_Bool (p m)) [
  | inl e ↦ elim (eqb_tells n m) [
    | inl t ↦ absurd (let k = rw t.1 at h in let f : true ≡ false = sym e ∙ k in cc)
    | inr f ↦ rw e (rw f.0 (none_of p n h ms))
  ]
  | inr e ↦ rw e (none_of p n h ms)
]

-- the handle of a call is not one of those that go
stays : (ds : List Meaning) (t : HandleTable) (opens : List OpenRecord) (set : List Pair) (handle : ℕ) (opener : Option Pair) → can_be_stopped ds t opens set handle opener ≡ true
    → is_made_by t set handle ≡ false
stays ds t opens set handle opener h =
    let a = and_parts (list_all (may_stop ds t opens) set) _ h in
    let b = and_parts (is_unobstructed t opens set) _ a.1 in
    let c = and_parts (not (is_made_by t set handle)) (spares_opener t set opener) b.1 in
    elim (cases_Bool (is_made_by t set handle)) [
      | inl e ↦ let k = rw e at c.0 in cc
      | inr e ↦ e
    ]

-- what is on a handle that stays, stays
interface_stays : (ns : List ℕ) (t : HandleTable) (n : ℕ) (guid : List ℕ) → is_one_of ns n ≡ false → interface_at (without_handles ns t) n guid ≡ interface_at t n guid
interface_stays ns t n guid h = find_filter (is_at n guid) (λ i. not (is_one_of ns i.handle)) true (λ i e. rw (at_handle n guid i e) (ap not h)) t.interfaces

interface_kept : (ds : List Meaning) (l : Lists) (handle : ℕ) (guid : List ℕ) → can_be_freed ds l handle guid ≡ true → interface_at (freed handle guid l).handles handle guid ≡ interface_at l.handles handle guid
interface_kept ds l handle guid h =
    let set = stop_set l.handles l.opens (drivers_on l.opens handle guid) in
    let a = and_parts (can_stop ds l (drivers_on l.opens handle guid) handle None) (not (is_kept (once_freed handle guid l).opens handle guid)) h in
    interface_stays (made_by l.handles set) l.handles handle guid (none_of (is_made_by l.handles set) handle (stays ds l.handles l.opens set handle None a.0) (numbers l.handles))

-- a handle carries its interface once that is freed
pub carried_freed : (ds : List Meaning) (l : Lists) (handle : ℕ) (guid : List ℕ) → can_be_freed ds l handle guid ≡ true → carries l.handles guid handle ≡ true
    → carries (freed handle guid l).handles guid handle ≡ true
carried_freed ds l handle guid h k = ap is_some (interface_kept ds l handle guid h) ∙ k

-- ---- an open after a stop

-- What an exclusive open leaves that added its item and then stopped a driver.
pub opened_stopped : (ds : List Meaning) (l new : Lists) (plan : PlannedStop) (pair : Pair) (handle : ℕ) (guid : List ℕ) (opener : Pair) (a : ℕ) (can : Bool) (value : Option ℕ) (added : List OpenRecord)
    → plan ≡ planned_stop l.handles l.opens (pair ∷ []) → can ≡ can_be_stopped ds l.handles l.opens plan.pairs handle (Some opener) → can ≡ true → added ≡ with_item handle guid opener.agent opener.controller a l.opens
    → new ≡ record l { handles = without_handles plan.handles l.handles; opens = without_opens plan.handles plan.pairs added }
    → value ≡ opened_value l handle guid a → OpensAs ds (StopFirst pair) l handle guid opener.agent opener.controller a (Ok value) new
opened_stopped ds l new plan pair handle guid opener a can value added p asked sure o e v =
    let made : plan.handles ≡ made_by l.handles plan.pairs = rw p refl in
    let stays : takes_item plan handle opener.agent opener.controller ≡ false = opener_spared ds l.handles l.opens plan handle opener made (sym asked ∙ sure) in
    let last : without_opens plan.handles plan.pairs added ≡ with_item handle guid opener.agent opener.controller a (without_opens plan.handles plan.pairs l.opens)
    = ap (without_opens plan.handles plan.pairs) o ∙ added_first plan handle guid opener.agent opener.controller a l.opens stays in
    let can_stop_it : can_stop ds l (pair ∷ []) handle (Some opener) ≡ true = ap (λ (q : PlannedStop). can_be_stopped ds l.handles l.opens q.pairs handle (Some opener)) (sym p) ∙ sym asked ∙ sure in
    (can_stop_it, v, e ∙ rw last (rw p refl))

pub opened_stopped_raised : (l new : Lists) (plan : PlannedStop) (handle : ℕ) (guid : List ℕ) (agent controller a : ℕ) (added : List OpenRecord)
    → added ≡ with_item handle guid agent controller a l.opens → new ≡ record l { handles = without_handles plan.handles l.handles; opens = without_opens plan.handles plan.pairs added } → IsRaised l new
opened_stopped_raised l new plan handle guid agent controller a added o e = rw e (rw o record {
  numbers = omega arith;
  stamps = omega arith;
  keys = omega arith;
  counts = λ n h. all_left (λ i. i.count ≤ n + 1) _ _ _ (opened_counts handle guid agent controller a l.opens n h);
})

-- ---- an interface that is freed

-- Where the drivers that have an interface open can be stopped, it can be freed unless an item that they leave keeps it.
pub free_answer : (ds : List Meaning) (l : Lists) (handle : ℕ) (guid : List ℕ) (plan : PlannedStop) (near : List OpenRecord) (can kept : Bool)
    → near ≡ filter (is_near handle) l.opens → plan ≡ planned_stop l.handles l.opens (drivers_on l.opens handle guid)
    → can ≡ can_be_stopped ds l.handles l.opens plan.pairs handle None → can ≡ true
    → kept ≡ list_any (λ o. is_keeping handle guid o && not (takes_item plan handle o.agent o.controller)) near → can_be_freed ds l handle guid ≡ not kept
free_answer ds l handle guid plan near can kept i p asked sure k =
    let left : kept ≡ is_kept (once_freed handle guid l).opens handle guid = rw i at k ∙ kept_near plan handle guid l.opens ∙ rw p refl in
    let stops : can_stop ds l (drivers_on l.opens handle guid) handle None ≡ true = ap (λ (q : PlannedStop). can_be_stopped ds l.handles l.opens q.pairs handle None) (sym p) ∙ sym asked ∙ sure in
    rw stops (ap not (sym left))

-- what the stop leaves, without the items on the interface
pub free_leaves : (l : Lists) (handle : ℕ) (guid : List ℕ) (plan : PlannedStop) (t : HandleTable) (opens : List OpenRecord) → plan ≡ planned_stop l.handles l.opens (drivers_on l.opens handle guid)
    → t ≡ without_handles plan.handles l.handles → opens ≡ without_items (is_open_on handle guid) (without_opens plan.handles plan.pairs l.opens)
    → record l { handles = t; opens = opens } ≡ freed handle guid l
free_leaves l handle guid plan t opens p h o = rw h (rw o (rw p refl))

-- ---- what is served

-- a refusal that is none of all is none
pub none_left : (o : Option Status) → ((status : Status) → o ≡ Some status → ⊥) → o ≡ None
none_left None h = refl
none_left (Some status) h = absurd (h status refl)

-- nothing was refused
pub not_refused : (l m : Lists) (handle : ℕ) (guid : List ℕ) (value : ℕ) (returned : Option Status) → m ≡ l → returned ≡ removal_refusal m.handles handle guid value → ((status : Status) → returned ≡ Some status → ⊥)
    → removal_refusal l.handles handle guid value ≡ None
not_refused l m handle guid value returned same e h = rw (← same) (sym e ∙ none_left returned h)

value_there : (value : ℕ) (o : Option Interface) → is_value value (option_map (λ i. i.value) o) ≡ true → is_some o ≡ true
value_there value None h = cc
value_there value (Some i) h = refl

-- an interface that may go is there
pub served_carries : (t : HandleTable) (handle : ℕ) (guid : List ℕ) (value : ℕ) → removal_refusal t handle guid value ≡ None → carries t guid handle ≡ true
served_carries t handle guid value h = elim (cases_Bool (is_live t handle)) [
  | inl e ↦
      let k = rw e at h in
      elim (cases_Bool (is_value value (value_at t handle guid))) [
        | inl f ↦ value_there value (interface_at t handle guid) f
        | inr f ↦ let m = rw f at k in cc
      ]
  | inr e ↦ let k = rw e at h in cc
]

-- ---- how far it is raised

-- no number, stamp or key was given, and no count rises
pub record IsPart (l m : Lists) : Type 0 where
  pub registrations : m.registrations ≡ l.registrations
  pub numbers : m.handles.last_number ≡ l.handles.last_number
  pub stamps : m.handles.last_stamp ≡ l.handles.last_stamp
  pub counts : (n : ℕ) → CountUpTo n l.opens → CountUpTo n m.opens

pub part_further : (l m o : Lists) → IsPart l m → IsPart m o → IsPart l o
part_further l m o a b = record { registrations = b.registrations ∙ a.registrations; numbers = b.numbers ∙ a.numbers; stamps = b.stamps ∙ a.stamps; counts = λ n h. b.counts n (a.counts n h) }

pub freed_part : (l : Lists) (handle : ℕ) (guid : List ℕ) → IsPart l (freed handle guid l)
freed_part l handle guid = record {
  registrations = refl;
  numbers = refl;
  stamps = refl;
  counts = λ n h. all_filter (λ o. o.count ≤ n) (λ o. not (is_open_on handle guid o)) _ (all_left (λ o. o.count ≤ n) _ _ l.opens h);
}

bare_number : (n : ℕ) (t : HandleTable) → (unless_bare n t).last_number ≡ t.last_number
bare_number n t = elim (cases_Bool (list_any (is_on n) t.interfaces)) [
  | inl e ↦ rw e refl
  | inr e ↦ rw e refl
]

bare_stamp : (n : ℕ) (t : HandleTable) → (unless_bare n t).last_stamp ≡ t.last_stamp
bare_stamp n t = elim (cases_Bool (list_any (is_on n) t.interfaces)) [
  | inl e ↦ rw e refl
  | inr e ↦ rw e refl
]

dead_part : (l : Lists) (handle : ℕ) → IsPart l (without_dead handle l)
dead_part l handle = elim (cases_Bool (is_live l.handles handle)) [
  | inl e ↦ rw e record { registrations = refl; numbers = refl; stamps = refl; counts = λ n h. h }
  | inr e ↦ rw e record { registrations = refl; numbers = refl; stamps = refl; counts = λ n h. all_filter (λ o. o.count ≤ n) (λ o. not (names handle o)) l.opens h }
]

pub uninstalled_part : (l : Lists) (handle : ℕ) (guid : List ℕ) → IsPart l (uninstalled handle guid l)
uninstalled_part l handle guid =
    part_further l (record l { handles = without_interface handle guid l.handles }) (uninstalled handle guid l)
    (record { registrations = refl; numbers = bare_number handle _; stamps = bare_stamp handle _; counts = λ n h. h }) (dead_part (record l { handles = without_interface handle guid l.handles }) handle)

-- what is raised after that
pub part_raised : (l m new : Lists) → IsPart l m → IsRaised m new → IsRaised l new
part_raised l m new part raised = record {
  numbers = rw (← part.numbers) raised.numbers;
  stamps = rw (← part.stamps) raised.stamps;
  keys = rw (← part.registrations) raised.keys;
  counts = λ n h. raised.counts n (part.counts n h);
}

-- an interface that went
pub uninstalled_raised : (l m : Lists) (handle : ℕ) (guid : List ℕ) → m ≡ freed handle guid l → IsRaised l (uninstalled handle guid m)
uninstalled_raised l m handle guid e =
    rw e (part_raised l (uninstalled handle guid (freed handle guid l)) (uninstalled handle guid (freed handle guid l))
    (part_further l (freed handle guid l) (uninstalled handle guid (freed handle guid l)) (freed_part l handle guid) (uninstalled_part (freed handle guid l) handle guid)) (stays_raised _))

-- ---- an interface with another value

-- a value in place of another, with all that is connected then
pub replaced_below : {A : Type 0} {E : Type 0} (ds : List Meaning) (l : Lists) (handle : ℕ) (guid : List ℕ) (value : ℕ) (given : List ℕ) (result : Result (Vec ℕ A) E) (t : HandleTable) (opens : List OpenRecord)
    → given ≡ events_for l.registrations guid → IfOk result (λ events. ConnectsBelow (site ds l.registrations handle) (with_value handle guid value l.handles) l.opens given events.items t opens)
    → IfOk result (λ events. Replaces ds handle guid value l events (record l { handles = t; opens = opens }))
replaced_below ds l handle guid value given (Ok events) t opens e c =
    (c.2 ∙ ap (λ (es : List ℕ). es ++ (reconnected ds handle (replaced handle guid value l)).events) e, rw (c.0, c.1) refl)
replaced_below ds l handle guid value given (Err error) t opens e c = tt

pub below_raised : {A : Type 0} {E : Type 0} (ds : List Meaning) (l : Lists) (handle : ℕ) (guid : List ℕ) (value : ℕ) (given : List ℕ) (result : Result (Vec ℕ A) E) (t : HandleTable) (opens : List OpenRecord)
    → IfOk result (λ events. ConnectsBelow (site ds l.registrations handle) (with_value handle guid value l.handles) l.opens given events.items t opens)
    → t.last_number ≤ l.handles.last_number + 4096 → t.last_stamp ≤ l.handles.last_stamp + 16385 → OnOk result (IsRaised l (record l { handles = t; opens = opens }))
below_raised ds l handle guid value given (Ok events) t opens c numbers stamps = record {
  numbers = omega (arith, numbers);
  stamps = omega (arith, stamps);
  keys = omega arith;
  counts = λ k h.
      subst (CountUpTo (k + 1)) (sym c.1) (connect_counts (k + 1) (levels_below true) (site ds l.registrations handle) [] (first_progress (with_value handle guid value l.handles) l.opens) (omega arith) (one_higher k l.opens h));
}
below_raised ds l handle guid value given (Err error) t opens c numbers stamps = tt

-- where memory runs out, all stays
pub all_stays : {R : Type 0} {E : Type 0} (l : Lists) (result : Result R E) (t : HandleTable) (opens : List OpenRecord) → OnErr result ((t ≡ l.handles) × (opens ≡ l.opens))
    → OnErr result (record l { handles = t; opens = opens } ≡ l)
all_stays l (Ok returned) t opens e = tt
all_stays l (Err error) t opens e = rw (e.0, e.1) refl

pub reinstalls : {A : Type 0} (ds : List Meaning) (l new : Lists) (handle : ℕ) (guid : List ℕ) (old value : ℕ) (events : Vec ℕ A) → removal_refusal l.handles handle guid old ≡ None → can_be_freed ds l handle guid ≡ true
    → Replaces ds handle guid value (freed handle guid l) events new → Reinstalls ds l handle guid old value (Ok events) new
reinstalls ds l new handle guid old value events r can w = rw r (can, w)
