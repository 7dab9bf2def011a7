-- The rules of what uninstalls and reinstalls, connects and disconnects keep the lists proper.
use Rattle.std.proofs.Common.{◌≡◌, ℕ, nat_lt, not, Bool, true, false, List, [], length, Option, Some, None, Result, Ok, Err, Vec, inl, inr, refl, sym, subst}
use Rattle.std.specs.Result.{result_map_both}
use Rattle.std.proofs.lemmas.Bool.{cases_Bool, and_parts, or_parts}
use Rattle.page_ranges.specs.declared.statuses.Status.{Status}
use Rattle.page_ranges.specs.declared.statuses.Status.TheVariants as status
use Rattle.guid_handles.specs.HandleTables.{HandleTable, is_live}
use Rattle.guid_handles.specs.HandleChanges.{with_value, without_interface}
use Rattle.open_agents.specs.declared.items.OpenRecord.{OpenRecord}
use Rattle.open_agents.specs.OpenItems.{is_kept, is_open_on, names}
use Rattle.driver_connect.specs.Drivers.{Meaning}
use Rattle.driver_connect.specs.Starting.{Progress, site}
use Rattle.driver_connect.specs.Stopping.{Disconnects, managers_meant, stop_set}
use Rattle.driver_connect.specs.Connecting.{Connects, connect_refused, first_progress, levels_below, max_named}
use Rattle.protocol_services.specs.Lists.{Lists}
use Rattle.protocol_services.specs.Stopping.{can_stop, once_stopped}
use Rattle.protocol_services.specs.Removing.{Frees, Reinstalls, Replaces, Uninstalls, can_be_freed, drivers_on, freed, once_freed, reconnected, removal_refusal, replaced, uninstalled, with_progress}
use Rattle.protocol_services.specs.Driving.{ConnectsController, DisconnectsController}
use Rattle.protocol_services.specs.ProperLists.{AreProperLists}
use Rattle.protocol_services.proofs.ProperTables.{with_value_proper, without_interface_proper}
use Rattle.protocol_services.proofs.ProperItems.{all_named, kept_named, left_named}
use Rattle.protocol_services.proofs.ProperOpens.{fewer_items, not_not}
use Rattle.protocol_services.proofs.ProperRules.{handle_spared, lists_proper, parts_proper, same, spared_live, stopped_proper}
use Rattle.protocol_services.proofs.ProperStarts.{IsProper, connected_comes}

-- ---- freeing

frees : {R : Type 0} (refusal : Option Status) (can : Bool) (Does : R → Type 0) (result : Result R Status) (old new : Lists) → AreProperLists old → ((returned : R) → refusal ≡ None → can ≡ true → Does returned → AreProperLists new)
    → Frees refusal can Does result old new → AreProperLists new
frees (Some r) can Does (Ok returned) old new s f h = absurd h
frees (Some r) can Does (Err e) old new s f h = same old new s h.1
frees None can Does (Ok returned) old new s f h = f returned refl h.0 h.1
frees None can Does (Err status.AccessDenied) old new s f h = same old new s h.1
frees None can Does (Err status.OutOfResources) old new s f h = same old new s h
frees None can Does (Err e) old new s f h = absurd h

freed_proper : (n : ℕ) (guid : List ℕ) (l : Lists) → AreProperLists l → AreProperLists (freed n guid l)
freed_proper n guid l s = fewer_items (is_open_on n guid) (once_freed n guid l) (stopped_proper (drivers_on l.opens n guid) l s)

-- a handle from which nothing is refused to go is live
pub removal_live : (t : HandleTable) (n : ℕ) (guid : List ℕ) (value : ℕ) → removal_refusal t n guid value ≡ None → is_live t n ≡ true
removal_live t n guid value e = elim (cases_Bool (is_live t n)) [
  | inl l ↦ l
  | inr l ↦ absurd (let k = rw l at e in cc)
]

-- the handle stays live while its interface is freed
freed_live : (ds : List Meaning) (l : Lists) (n : ℕ) (guid : List ℕ) → is_live l.handles n ≡ true → can_be_freed ds l n guid ≡ true → is_live (freed n guid l).handles n ≡ true
freed_live ds l n guid live can =
    let set = stop_set l.handles l.opens (drivers_on l.opens n guid) in
    let a = and_parts (can_stop ds l (drivers_on l.opens n guid) n None) (not (is_kept (once_freed n guid l).opens n guid)) can in
    let b = handle_spared ds l.handles l.opens set n None a.0 in
    spared_live l.handles set n b.0 live

-- ---- uninstalling and reinstalling

uninstalled_proper : (n : ℕ) (guid : List ℕ) (l : Lists) → AreProperLists l → AreProperLists (uninstalled n guid l)
uninstalled_proper n guid l s =
    let t = without_interface_proper n guid l.handles (parts_proper l s).table in
    let u : Lists = record l { handles = without_interface n guid l.handles } in
    elim (cases_Bool (is_live (without_interface n guid l.handles) n)) [
      | inl e ↦ rw e (lists_proper u (record { table = t; names = kept_named n guid l.handles l.opens e s.names; holders = s.holders }))
      | inr e ↦
          let k = fewer_items (names n) l s in
          rw e (lists_proper _ (record { table = t; names = left_named n guid l.handles l.opens s.names; holders = k.holders }))
    ]

pub uninstalls : (ds : List Meaning) (old : Lists) (n : ℕ) (guid : List ℕ) (value : ℕ) (result : Result (Unit {0}) Status) (new : Lists) → AreProperLists old → Uninstalls ds old n guid value result new → AreProperLists new
uninstalls ds old n guid value result new s h =
    frees (removal_refusal old.handles n guid value) (can_be_freed ds old n guid) (λ done. new ≡ uninstalled n guid (freed n guid old)) result old new s
    (λ returned r can e. subst AreProperLists (sym e) (uninstalled_proper n guid (freed n guid old) (freed_proper n guid old s))) h

replaced_proper : (n : ℕ) (guid : List ℕ) (value : ℕ) (l : Lists) → AreProperLists l → IsProper (replaced n guid value l).handles (replaced n guid value l).opens
replaced_proper n guid value l s = record {
  table = with_value_proper n guid value l.handles (parts_proper l s).table;
  names = all_named l.handles (with_value n guid value l.handles) l.opens (λ m k. k) s.names;
  holders = s.holders;
}

replaces : {A : Type 0} (ds : List Meaning) (n : ℕ) (guid : List ℕ) (value : ℕ) (l : Lists) (events : Vec ℕ A) (new : Lists) → AreProperLists l → is_live l.handles n ≡ true → Replaces ds n guid value l events new → AreProperLists new
replaces ds n guid value l events new s live h =
    let r = replaced n guid value l in
    let c = connected_comes (levels_below true) (site ds r.registrations n) [] (first_progress r.handles r.opens) (replaced_proper n guid value l s) live in
    subst AreProperLists (sym h.1) (lists_proper (with_progress (reconnected ds n r) l) c.proper)

pub reinstalls : {A : Type 0} (ds : List Meaning) (old : Lists) (n : ℕ) (guid : List ℕ) (old_value value : ℕ) (result : Result (Vec ℕ A) Status) (new : Lists) → AreProperLists old
    → Reinstalls ds old n guid old_value value result new → AreProperLists new
reinstalls ds old n guid old_value value result new s h =
    frees (removal_refusal old.handles n guid old_value) (can_be_freed ds old n guid) (λ events. Replaces ds n guid value (freed n guid old) events new) result old new s
    (λ events r can k. replaces ds n guid value (freed n guid old) events new (freed_proper n guid old s) (freed_live ds old n guid (removal_live old.handles n guid old_value r) can) k) h

-- ---- connecting and disconnecting

stays : (old new : Lists) → AreProperLists old → new.handles ≡ old.handles → new.opens ≡ old.opens → AreProperLists new
stays old new s e f =
    lists_proper new
    (subst (λ (t : HandleTable). IsProper t new.opens) (sym e) (subst (λ (os : List OpenRecord). IsProper old.handles os) (sym f) (parts_proper old s)))

connect_live : (t : HandleTable) (n : ℕ) (named : List ℕ) → connect_refused t n named ≡ false → is_live t n ≡ true
connect_live t n named h = not_not (is_live t n) (or_parts (not (is_live t n)) (nat_lt max_named (length named)) h).0

connects : {A : Type 0} (ds : List Meaning) (old : Lists) (n : ℕ) (named : List ℕ) (recursive : Bool) (result : Result (Vec ℕ A) Status) (new : Lists) → AreProperLists old
    → Connects (site ds old.registrations n) named recursive old.handles old.opens (result_map_both (λ v. v.items) (λ e. e) result) new.handles new.opens → AreProperLists new
connects ds old n named recursive (Ok events) new s h =
    let c = connected_comes (levels_below recursive) (site ds old.registrations n) named (first_progress old.handles old.opens) (parts_proper old s) (connect_live old.handles n named h.0) in
    let p : IsProper new.handles new.opens = subst (λ (p : Progress). IsProper p.handles p.opens) (sym h.2) c.proper in
    lists_proper new p
connects ds old n named recursive (Err status.InvalidParameter) new s h = stays old new s h.1 h.2
connects ds old n named recursive (Err status.NotFound) new s h = stays old new s h.2 h.3
connects ds old n named recursive (Err status.OutOfResources) new s h = stays old new s h.1 h.2
connects ds old n named recursive (Err e) new s h = absurd h

pub connects_controller : {A : Type 0} (ds : List Meaning) (old : Lists) (n : ℕ) (named : List ℕ) (recursive : Bool) (result : Result (Vec ℕ A) Status) (new : Lists) → AreProperLists old
    → ConnectsController ds old n named recursive result new → AreProperLists new
connects_controller ds old n named recursive result new s h = connects ds old n named recursive result new s h.0

disconnects : (ds : List Meaning) (old : Lists) (n driver : ℕ) (result : Result (Unit {0}) Status) (new : Lists) → AreProperLists old → Disconnects ds old.handles old.opens n driver result new.handles new.opens → AreProperLists new
disconnects ds old n driver (Ok done) new s h =
    let stopped : Lists = once_stopped (managers_meant old.opens n driver) old in
    stays stopped new (stopped_proper (managers_meant old.opens n driver) old s) h.1.1 h.1.2
disconnects ds old n driver (Err status.InvalidParameter) new s h = stays old new s h.1 h.2
disconnects ds old n driver (Err status.DeviceError) new s h = stays old new s h.1.1 h.1.2
disconnects ds old n driver (Err status.OutOfResources) new s h = stays old new s h.1 h.2
disconnects ds old n driver (Err e) new s h = absurd h

pub disconnects_controller : (ds : List Meaning) (old : Lists) (n driver : ℕ) (result : Result (Unit {0}) Status) (new : Lists) → AreProperLists old → DisconnectsController ds old n driver result new → AreProperLists new
disconnects_controller ds old n driver result new s h = disconnects ds old n driver result new s h.0
