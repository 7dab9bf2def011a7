-- How many numbers and stamps the rules of the protocol services give.
use Rattle.std.proofs.Common.{◌≡◌, ℕ, ◌+◌, ◌≤◌, ◌==◌, Bool, true, cond, List, [], ◌∷◌, length, Option, Some, None, Result, Ok, Err, Vec, inl, inr, refl, ap, ◌∙◌, arith}
use Rattle.std.specs.List.{AllByRecursion}
use Rattle.std.specs.Result.{result_map_both}
use Rattle.std.proofs.lemmas.Bool.{cases_Bool}
use Rattle.page_ranges.specs.declared.statuses.Status.{Status}
use Rattle.page_ranges.specs.declared.statuses.Status.TheVariants as status
use Rattle.guid_handles.specs.HandleTables.{HandleTable}
use Rattle.guid_handles.specs.HandleChanges.{Installs, install_many_refusal, install_refusal, installed, max_installed}
use Rattle.open_agents.specs.declared.items.Decision.{Decision}
use Rattle.open_agents.specs.declared.items.Decision.TheVariants.{Refuse, Count, Add, StopFirst}
use Rattle.open_agents.specs.declared.items.OpenRecord.{OpenRecord}
use Rattle.open_agents.specs.OpenRule.{open_rule}
use Rattle.driver_connect.specs.Drivers.{HasShortPlans, Meaning}
use Rattle.driver_connect.specs.Starting.{Site, site}
use Rattle.driver_connect.specs.Connecting.{Connects, connected, first_progress, levels_below}
use Rattle.driver_connect.proofs.FewHandles.{numbers_given, stamps_given}
use Rattle.boot_calls.specs.declared.replies.Installed.{Installed}
use Rattle.boot_calls.specs.declared.replies.LocateReply.{LocateReply}
use Rattle.protocol_services.specs.Lists.{Lists, most_given}
use Rattle.protocol_services.specs.Installing.{InstallsPairs, Registers, many_refusal}
use Rattle.protocol_services.specs.Searches.{LocatesHandles, LocatesProtocol, after_search, by_register_notify, once_found, once_taken}
use Rattle.protocol_services.specs.Opening.{Closes, HandlesProtocol, OpensAs, OpensProtocol, by_handle_protocol}
use Rattle.protocol_services.specs.Removing.{Frees, Reinstalls, Replaces, Uninstalls, can_be_freed, freed, removal_refusal, replaced, uninstalled}
use Rattle.protocol_services.specs.Driving.{ConnectsController, DisconnectsController}
use Rattle.protocol_services.proofs.Freed.{freed_part, uninstalled_part}
use Rattle.protocol_services.proofs.ProperRules.{many_allowed, unless_none}
use Rattle.protocol_services.proofs.Raised.{disconnect_raised}

-- no more numbers and stamps than a call may give
pub record GivesFew (old new : HandleTable) : Type 0 where
  pub numbers : new.last_number ≤ old.last_number + most_given
  pub stamps : new.last_stamp ≤ old.last_stamp + most_given

abbrev pub GivesFewIn : Lists → Lists → Type 0
GivesFewIn old new = GivesFew old.handles new.handles

table_stays : (old new : HandleTable) → new ≡ old → GivesFew old new
table_stays old new e = rw e record { numbers = omega arith; stamps = omega arith }

pub lists_stay : (old new : Lists) → new ≡ old → GivesFewIn old new
lists_stay old new e = table_stays old.handles new.handles (ap (λ (l : Lists). l.handles) e)

-- ---- installing, registrations and searches

installed_few : (t : HandleTable) (handle : ℕ) (pairs : List (List ℕ × ℕ)) → length pairs ≤ max_installed → GivesFew t (installed handle pairs t)
installed_few t handle pairs few = elim (cases_Bool (handle == 0)) [
  | inl e ↦ rw e record { numbers = omega arith; stamps = omega (arith, few) }
  | inr e ↦ rw e record { numbers = omega arith; stamps = omega (arith, few) }
]

on_table : (t : HandleTable) (handle : ℕ) (pairs : List (List ℕ × ℕ)) (r : Option Status) (result : Result ℕ Status) (new : HandleTable) → (r ≡ None → length pairs ≤ max_installed) → Installs t handle pairs r result new → GivesFew t new
on_table t handle pairs None (Ok n) new few h = rw h.1 (installed_few t handle pairs (few refl))
on_table t handle pairs None (Err e) new few h = table_stays t new h.1
on_table t handle pairs (Some r) (Ok n) new few h = absurd h
on_table t handle pairs (Some r) (Err e) new few h = table_stays t new h.1

installs : {A : Type 0} (old : Lists) (handle : ℕ) (pairs : List (List ℕ × ℕ)) (r : Option Status) (result : Result (Installed A) Status) (new : Lists) → (r ≡ None → length pairs ≤ max_installed) → InstallsPairs old handle pairs r result new → GivesFewIn old new
installs old handle pairs r (Ok done) new few h = on_table old.handles handle pairs r (Ok done.handle) new.handles few h.0.0
installs old handle pairs r (Err e) new few h = on_table old.handles handle pairs r (Err e) new.handles few h.0

pub installs_one : {A : Type 0} (old : Lists) (handle : ℕ) (guid : List ℕ) (kind value : ℕ) (result : Result (Installed A) Status) (new : Lists) → InstallsPairs old handle ((guid, value) ∷ []) (install_refusal old.handles handle guid kind) result new → GivesFewIn old new
installs_one old handle guid kind value result new h = installs old handle ((guid, value) ∷ []) (install_refusal old.handles handle guid kind) result new (λ e. omega arith) h

pub installs_many : {A : Type 0} (old : Lists) (handle : ℕ) (pairs : List (List ℕ × ℕ)) (has_path : Bool) (result : Result (Installed A) Status) (new : Lists) → InstallsPairs old handle pairs (many_refusal old handle pairs has_path) result new → GivesFewIn old new
installs_many old handle pairs has_path result new h =
    installs old handle pairs (many_refusal old handle pairs has_path) result new
    (λ e. (many_allowed old.handles handle pairs (unless_none has_path (install_many_refusal old.handles handle pairs) e)).few) h

pub registers : (old : Lists) (guid : List ℕ) (event : ℕ) (result : Result ℕ Status) (new : Lists) → Registers old guid event result new → GivesFewIn old new
registers old guid event (Ok key) new h = table_stays old.handles new.handles (ap (λ (l : Lists). l.handles) h.1)
registers old guid event (Err status.OutOfResources) new h = lists_stay old new h
registers old guid event (Err e) new h = absurd h

found_same : (search key : ℕ) (l : Lists) → (once_found search key l).handles ≡ l.handles
found_same search key l = elim (cases_Bool (search == by_register_notify)) [
  | inl e ↦ rw e refl
  | inr e ↦ rw e refl
]

pub finds : (search key : ℕ) (old new : Lists) → new ≡ once_found search key old → GivesFewIn old new
finds search key old new e = table_stays old.handles new.handles (ap (λ (l : Lists). l.handles) e ∙ found_same search key old)

searched_same : (st : Status) (search key : ℕ) (l : Lists) → (after_search st search key l).handles ≡ l.handles
searched_same status.Success search key l = found_same search key l
searched_same st search key l = refl

pub locates_handles : {A : Type 0} (old : Lists) (search : ℕ) (guid : List ℕ) (key room : ℕ) (returned : LocateReply A) (new : Lists) → LocatesHandles old search guid key room returned new → GivesFewIn old new
locates_handles old search guid key room returned new h = table_stays old.handles new.handles (ap (λ (l : Lists). l.handles) h.1 ∙ searched_same returned.status search key old)

unless_0 : (key : ℕ) (l : Lists) → (cond (key == 0) l (once_taken key l)).handles ≡ l.handles
unless_0 key l = elim (cases_Bool (key == 0)) [
  | inl e ↦ rw e refl
  | inr e ↦ rw e refl
]

pub locates_protocol : (old : Lists) (guid : List ℕ) (key : ℕ) (result : Result ℕ Status) (new : Lists) → LocatesProtocol old guid key result new → GivesFewIn old new
locates_protocol old guid key (Ok value) new h = table_stays old.handles new.handles (ap (λ (l : Lists). l.handles) h.3 ∙ unless_0 key old)
locates_protocol old guid key (Err status.InvalidParameter) new h = lists_stay old new h.1
locates_protocol old guid key (Err status.NotFound) new h = lists_stay old new h.1
locates_protocol old guid key (Err e) new h = absurd h

-- ---- opening and closing

opens_as : (ds : List Meaning) (d : Decision) (old : Lists) (handle : ℕ) (guid : List ℕ) (agent controller a : ℕ) (result : Result (Option ℕ) Status) (new : Lists) → OpensAs ds d old handle guid agent controller a result new → GivesFewIn old new
opens_as ds (Refuse st) old handle guid agent controller a (Ok value) new h = absurd h
opens_as ds (Refuse st) old handle guid agent controller a (Err e) new h = lists_stay old new h.1
opens_as ds (StopFirst q) old handle guid agent controller a (Ok value) new h = rw h.2 record { numbers = omega arith; stamps = omega arith }
opens_as ds (StopFirst q) old handle guid agent controller a (Err status.AccessDenied) new h = lists_stay old new h.1
opens_as ds (StopFirst q) old handle guid agent controller a (Err status.OutOfResources) new h = lists_stay old new h
opens_as ds (StopFirst q) old handle guid agent controller a (Err e) new h = absurd h
opens_as ds Count old handle guid agent controller a (Ok value) new h = rw h.1 record { numbers = omega arith; stamps = omega arith }
opens_as ds Count old handle guid agent controller a (Err e) new h = absurd h
opens_as ds Add old handle guid agent controller a (Ok value) new h = rw h.1 record { numbers = omega arith; stamps = omega arith }
opens_as ds Add old handle guid agent controller a (Err e) new h = lists_stay old new h.2

pub opens_protocol : (ds : List Meaning) (old : Lists) (handle : ℕ) (guid : List ℕ) (agent controller a : ℕ) (result : Result (Option ℕ) Status) (new : Lists) → OpensProtocol ds old handle guid agent controller a result new → GivesFewIn old new
opens_protocol ds old handle guid agent controller a result new h = opens_as ds (open_rule old.handles old.opens handle guid agent controller a) old handle guid agent controller a result new h

pub handles_protocol : (old : Lists) (handle : ℕ) (guid : List ℕ) (result : Result ℕ Status) (new : Lists) → HandlesProtocol old handle guid result new → GivesFewIn old new
handles_protocol old handle guid (Ok value) new h = opens_protocol [] old handle guid 0 0 by_handle_protocol (Ok (Some value)) new h
handles_protocol old handle guid (Err e) new h = opens_protocol [] old handle guid 0 0 by_handle_protocol (Err e) new h

pub closes : (old : Lists) (handle : ℕ) (guid : List ℕ) (agent controller : ℕ) (result : Result (Unit {0}) Status) (new : Lists) → Closes old handle guid agent controller result new → GivesFewIn old new
closes old handle guid agent controller (Ok done) new h = table_stays old.handles new.handles (ap (λ (l : Lists). l.handles) h.2)
closes old handle guid agent controller (Err status.InvalidParameter) new h = lists_stay old new h.1
closes old handle guid agent controller (Err status.NotFound) new h = lists_stay old new h.2
closes old handle guid agent controller (Err e) new h = absurd h

-- ---- uninstalling, reinstalling, connecting and disconnecting

frees : {R : Type 0} (refusal : Option Status) (can : Bool) (Does : R → Type 0) (result : Result R Status) (old new : Lists) → ((returned : R) → Does returned → GivesFewIn old new) → Frees refusal can Does result old new → GivesFewIn old new
frees (Some r) can Does (Ok returned) old new f h = absurd h
frees (Some r) can Does (Err e) old new f h = lists_stay old new h.1
frees None can Does (Ok returned) old new f h = f returned h.1
frees None can Does (Err status.AccessDenied) old new f h = lists_stay old new h.1
frees None can Does (Err status.OutOfResources) old new f h = lists_stay old new h
frees None can Does (Err e) old new f h = absurd h

gone_few : (old new : Lists) (handle : ℕ) (guid : List ℕ) → new ≡ uninstalled handle guid (freed handle guid old) → GivesFewIn old new
gone_few old new handle guid e =
    let left : Lists = freed handle guid old in
    let part = uninstalled_part left handle guid in
    let first = freed_part old handle guid in
    rw e record { numbers = omega (arith, part.numbers, first.numbers); stamps = omega (arith, part.stamps, first.stamps) }

pub uninstalls : (ds : List Meaning) (old : Lists) (handle : ℕ) (guid : List ℕ) (value : ℕ) (result : Result (Unit {0}) Status) (new : Lists) → Uninstalls ds old handle guid value result new → GivesFewIn old new
uninstalls ds old handle guid value result new h =
    frees (removal_refusal old.handles handle guid value) (can_be_freed ds old handle guid) (λ done. new ≡ uninstalled handle guid (freed handle guid old)) result old new (λ done e. gone_few old new handle guid e) h

replaced_few : {A : Type 0} (ds : List Meaning) (old new : Lists) (handle : ℕ) (guid : List ℕ) (value : ℕ) (events : Vec ℕ A) → AllByRecursion HasShortPlans ds → Replaces ds handle guid value (freed handle guid old) events new → GivesFewIn old new
replaced_few ds old new handle guid value events short h =
    let r : Lists = replaced handle guid value (freed handle guid old) in
    let c : Site = site ds r.registrations handle in
    let numbers = numbers_given (levels_below true) c [] (first_progress r.handles r.opens) short in
    let stamps = stamps_given (levels_below true) c [] (first_progress r.handles r.opens) short in
    rw h.1 record { numbers = omega (arith, numbers); stamps = omega (arith, stamps) }

pub reinstalls : {A : Type 0} (ds : List Meaning) (old : Lists) (handle : ℕ) (guid : List ℕ) (old_value value : ℕ) (result : Result (Vec ℕ A) Status) (new : Lists) → AllByRecursion HasShortPlans ds → Reinstalls ds old handle guid old_value value result new → GivesFewIn old new
reinstalls ds old handle guid old_value value result new short h =
    frees (removal_refusal old.handles handle guid old_value) (can_be_freed ds old handle guid) (λ events. Replaces ds handle guid value (freed handle guid old) events new) result old new
    (λ events e. replaced_few ds old new handle guid value events short e) h

connects : (c : Site) (named : List ℕ) (recursive : Bool) (t : HandleTable) (opens : List OpenRecord) (result : Result (List ℕ) Status) (new_t : HandleTable) (new : List OpenRecord) → AllByRecursion HasShortPlans c.drivers → Connects c named recursive t opens result new_t new → GivesFew t new_t
connects c named recursive t opens (Ok events) new_t new short h =
    let e : new_t ≡ (connected (levels_below recursive) c named (first_progress t opens)).handles = ap (λ p. p.handles) h.2 in
    let numbers = numbers_given (levels_below recursive) c named (first_progress t opens) short in
    let stamps = stamps_given (levels_below recursive) c named (first_progress t opens) short in
    rw e record { numbers = omega (arith, numbers); stamps = omega (arith, stamps) }
connects c named recursive t opens (Err status.InvalidParameter) new_t new short h = table_stays t new_t h.1
connects c named recursive t opens (Err status.NotFound) new_t new short h = table_stays t new_t h.2
connects c named recursive t opens (Err status.OutOfResources) new_t new short h = table_stays t new_t h.1
connects c named recursive t opens (Err e) new_t new short h = absurd h

pub connects_controller : {A : Type 0} (ds : List Meaning) (old : Lists) (handle : ℕ) (named : List ℕ) (recursive : Bool) (result : Result (Vec ℕ A) Status) (new : Lists) → AllByRecursion HasShortPlans ds → ConnectsController ds old handle named recursive result new → GivesFewIn old new
connects_controller ds old handle named recursive result new short h = connects (site ds old.registrations handle) named recursive old.handles old.opens (result_map_both (λ v. v.items) (λ e. e) result) new.handles new.opens short h.0

pub disconnects_controller : (ds : List Meaning) (old : Lists) (handle driver : ℕ) (result : Result (Unit {0}) Status) (new : Lists) → DisconnectsController ds old handle driver result new → GivesFewIn old new
disconnects_controller ds old handle driver result new h =
    let raised = disconnect_raised ds old handle driver result new.handles new.opens h.0 in
    record { numbers = raised.numbers; stamps = raised.stamps }
