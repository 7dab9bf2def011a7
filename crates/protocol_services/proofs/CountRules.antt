-- How far the rules of the protocol services raise the counts of the open items: by 1 at most.
use Rattle.std.proofs.Common.{◌≡◌, ℕ, ◌+◌, ◌≤◌, ◌==◌, Bool, true, cond, List, [], ◌∷◌, Option, Some, None, Result, Ok, Err, Vec, inl, inr, refl, sym, ap, subst, ◌∙◌, arith}
use Rattle.std.specs.Result.{result_map_both}
use Rattle.std.proofs.lemmas.Bool.{cases_Bool}
use Rattle.page_ranges.specs.declared.statuses.Status.{Status}
use Rattle.page_ranges.specs.declared.statuses.Status.TheVariants as status
use Rattle.open_agents.specs.declared.items.Decision.{Decision}
use Rattle.open_agents.specs.declared.items.Decision.TheVariants.{Refuse, Count, Add, StopFirst}
use Rattle.open_agents.specs.OpenItems.{is_closed_by}
use Rattle.open_agents.specs.OpenRule.{open_rule}
use Rattle.guid_handles.specs.declared.records.Pair.{Pair}
use Rattle.driver_connect.specs.Drivers.{Meaning}
use Rattle.driver_connect.specs.Starting.{site}
use Rattle.driver_connect.specs.Connecting.{first_progress, levels_below}
use Rattle.driver_connect.proofs.Counts.{connect_counts}
use Rattle.boot_calls.specs.declared.replies.Installed.{Installed}
use Rattle.boot_calls.specs.declared.replies.LocateReply.{LocateReply}
use Rattle.protocol_services.specs.Lists.{Lists}
use Rattle.protocol_services.specs.Installing.{InstallsPairs, Registers}
use Rattle.protocol_services.specs.Searches.{LocatesHandles, LocatesProtocol, after_search, by_register_notify, once_found, once_taken}
use Rattle.protocol_services.specs.Stopping.{once_stopped}
use Rattle.protocol_services.specs.Opening.{Closes, HandlesProtocol, OpensAs, OpensProtocol, by_handle_protocol}
use Rattle.protocol_services.specs.Removing.{Frees, Reinstalls, Replaces, Uninstalls, can_be_freed, freed, removal_refusal, replaced, uninstalled}
use Rattle.protocol_services.specs.Driving.{ConnectsController, DisconnectsController}
use Rattle.protocol_services.proofs.OpenCounts.{CountUpTo, closed_counts, one_higher, opened_counts}
use Rattle.protocol_services.proofs.Raised.{all_left, connect_raises, disconnect_raised}
use Rattle.protocol_services.proofs.Freed.{freed_part, uninstalled_part}

-- no count rises by more than 1
abbrev pub CountsOnce : Lists → Lists → Type 0
CountsOnce old new = (n : ℕ) → CountUpTo n old.opens → CountUpTo (n + 1) new.opens

-- the items stay
pub opens_stay : (old new : Lists) → new.opens ≡ old.opens → CountsOnce old new
opens_stay old new e = λ n h. subst (CountUpTo (n + 1)) (sym e) (one_higher n old.opens h)

pub lists_stay : (old new : Lists) → new ≡ old → CountsOnce old new
lists_stay old new e = opens_stay old new (ap (λ (l : Lists). l.opens) e)

-- ---- installing, registrations and searches

pub installs : {A : Type 0} (old : Lists) (handle : ℕ) (pairs : List (List ℕ × ℕ)) (r : Option Status) (result : Result (Installed A) Status) (new : Lists) → InstallsPairs old handle pairs r result new → CountsOnce old new
installs old handle pairs r (Ok done) new h = opens_stay old new h.0.1
installs old handle pairs r (Err e) new h = opens_stay old new h.1

pub registers : (old : Lists) (guid : List ℕ) (event : ℕ) (result : Result ℕ Status) (new : Lists) → Registers old guid event result new → CountsOnce old new
registers old guid event (Ok key) new h = opens_stay old new (ap (λ (l : Lists). l.opens) h.1)
registers old guid event (Err status.OutOfResources) new h = lists_stay old new h
registers old guid event (Err e) new h = absurd h

found_same : (search key : ℕ) (l : Lists) → (once_found search key l).opens ≡ l.opens
found_same search key l = elim (cases_Bool (search == by_register_notify)) [
  | inl e ↦ rw e refl
  | inr e ↦ rw e refl
]

pub finds : (search key : ℕ) (old new : Lists) → new ≡ once_found search key old → CountsOnce old new
finds search key old new e = opens_stay old new (ap (λ (l : Lists). l.opens) e ∙ found_same search key old)

searched_same : (st : Status) (search key : ℕ) (l : Lists) → (after_search st search key l).opens ≡ l.opens
searched_same status.Success search key l = found_same search key l
searched_same st search key l = refl

pub locates_handles : {A : Type 0} (old : Lists) (search : ℕ) (guid : List ℕ) (key room : ℕ) (returned : LocateReply A) (new : Lists) → LocatesHandles old search guid key room returned new → CountsOnce old new
locates_handles old search guid key room returned new h = opens_stay old new (ap (λ (l : Lists). l.opens) h.1 ∙ searched_same returned.status search key old)

unless_0 : (key : ℕ) (l : Lists) → (cond (key == 0) l (once_taken key l)).opens ≡ l.opens
unless_0 key l = elim (cases_Bool (key == 0)) [
  | inl e ↦ rw e refl
  | inr e ↦ rw e refl
]

pub locates_protocol : (old : Lists) (guid : List ℕ) (key : ℕ) (result : Result ℕ Status) (new : Lists) → LocatesProtocol old guid key result new → CountsOnce old new
locates_protocol old guid key (Ok value) new h = opens_stay old new (ap (λ (l : Lists). l.opens) h.3 ∙ unless_0 key old)
locates_protocol old guid key (Err status.InvalidParameter) new h = lists_stay old new h.1
locates_protocol old guid key (Err status.NotFound) new h = lists_stay old new h.1
locates_protocol old guid key (Err e) new h = absurd h

-- ---- opening and closing

stopped_counts : (pairs : List Pair) (l : Lists) (n : ℕ) → CountUpTo n l.opens → CountUpTo n (once_stopped pairs l).opens
stopped_counts pairs l n h = all_left (λ o. o.count ≤ n) _ _ l.opens h

opens_as : (ds : List Meaning) (d : Decision) (old : Lists) (handle : ℕ) (guid : List ℕ) (agent controller a : ℕ) (result : Result (Option ℕ) Status) (new : Lists) → OpensAs ds d old handle guid agent controller a result new
    → CountsOnce old new
opens_as ds (Refuse st) old handle guid agent controller a (Ok value) new h = absurd h
opens_as ds (Refuse st) old handle guid agent controller a (Err e) new h = lists_stay old new h.1
opens_as ds (StopFirst q) old handle guid agent controller a (Ok value) new h = λ n k.
    subst (CountUpTo (n + 1)) (sym (ap (λ (l : Lists). l.opens) h.2)) (opened_counts handle guid agent controller a (once_stopped (q ∷ []) old).opens n (stopped_counts (q ∷ []) old n k))
opens_as ds (StopFirst q) old handle guid agent controller a (Err status.AccessDenied) new h = lists_stay old new h.1
opens_as ds (StopFirst q) old handle guid agent controller a (Err status.OutOfResources) new h = lists_stay old new h
opens_as ds (StopFirst q) old handle guid agent controller a (Err e) new h = absurd h
opens_as ds Count old handle guid agent controller a (Ok value) new h = λ n k.
    subst (CountUpTo (n + 1)) (sym (ap (λ (l : Lists). l.opens) h.1)) (opened_counts handle guid agent controller a old.opens n k)
opens_as ds Count old handle guid agent controller a (Err e) new h = absurd h
opens_as ds Add old handle guid agent controller a (Ok value) new h = λ n k.
    subst (CountUpTo (n + 1)) (sym (ap (λ (l : Lists). l.opens) h.1)) (opened_counts handle guid agent controller a old.opens n k)
opens_as ds Add old handle guid agent controller a (Err e) new h = lists_stay old new h.2

pub opens_protocol : (ds : List Meaning) (old : Lists) (handle : ℕ) (guid : List ℕ) (agent controller a : ℕ) (result : Result (Option ℕ) Status) (new : Lists) → OpensProtocol ds old handle guid agent controller a result new → CountsOnce old new
opens_protocol ds old handle guid agent controller a result new h = opens_as ds (open_rule old.handles old.opens handle guid agent controller a) old handle guid agent controller a result new h

pub handles_protocol : (old : Lists) (handle : ℕ) (guid : List ℕ) (result : Result ℕ Status) (new : Lists) → HandlesProtocol old handle guid result new → CountsOnce old new
handles_protocol old handle guid (Ok value) new h = opens_protocol [] old handle guid 0 0 by_handle_protocol (Ok (Some value)) new h
handles_protocol old handle guid (Err e) new h = opens_protocol [] old handle guid 0 0 by_handle_protocol (Err e) new h

pub closes : (old : Lists) (handle : ℕ) (guid : List ℕ) (agent controller : ℕ) (result : Result (Unit {0}) Status) (new : Lists) → Closes old handle guid agent controller result new → CountsOnce old new
closes old handle guid agent controller (Ok done) new h = λ n k.
    subst (CountUpTo (n + 1)) (sym (ap (λ (l : Lists). l.opens) h.2)) (closed_counts (is_closed_by handle guid agent controller) old.opens n k)
closes old handle guid agent controller (Err status.InvalidParameter) new h = lists_stay old new h.1
closes old handle guid agent controller (Err status.NotFound) new h = lists_stay old new h.2
closes old handle guid agent controller (Err e) new h = absurd h

-- ---- uninstalling and reinstalling

frees : {R : Type 0} (refusal : Option Status) (can : Bool) (Does : R → Type 0) (result : Result R Status) (old new : Lists) → ((returned : R) → Does returned → CountsOnce old new) → Frees refusal can Does result old new → CountsOnce old new
frees (Some r) can Does (Ok returned) old new f h = absurd h
frees (Some r) can Does (Err e) old new f h = lists_stay old new h.1
frees None can Does (Ok returned) old new f h = f returned h.1
frees None can Does (Err status.AccessDenied) old new f h = lists_stay old new h.1
frees None can Does (Err status.OutOfResources) old new f h = lists_stay old new h
frees None can Does (Err e) old new f h = absurd h

gone_counts : (old new : Lists) (handle : ℕ) (guid : List ℕ) → new ≡ uninstalled handle guid (freed handle guid old) → CountsOnce old new
gone_counts old new handle guid e = λ n k.
    let left : Lists = freed handle guid old in
    let part : CountUpTo n (uninstalled handle guid left).opens = (uninstalled_part left handle guid).counts n ((freed_part old handle guid).counts n k) in
    subst (CountUpTo (n + 1)) (sym (ap (λ (l : Lists). l.opens) e)) (one_higher n (uninstalled handle guid left).opens part)

pub uninstalls : (ds : List Meaning) (old : Lists) (handle : ℕ) (guid : List ℕ) (value : ℕ) (result : Result (Unit {0}) Status) (new : Lists) → Uninstalls ds old handle guid value result new → CountsOnce old new
uninstalls ds old handle guid value result new h =
    frees (removal_refusal old.handles handle guid value) (can_be_freed ds old handle guid) (λ done. new ≡ uninstalled handle guid (freed handle guid old)) result old new (λ done e. gone_counts old new handle guid e) h

replaced_counts : {A : Type 0} (ds : List Meaning) (old new : Lists) (handle : ℕ) (guid : List ℕ) (value : ℕ) (events : Vec ℕ A) → Replaces ds handle guid value (freed handle guid old) events new → CountsOnce old new
replaced_counts ds old new handle guid value events h = λ n k.
    let r : Lists = replaced handle guid value (freed handle guid old) in
    let part : CountUpTo (n + 1) r.opens = one_higher n r.opens ((freed_part old handle guid).counts n k) in
    subst (CountUpTo (n + 1)) (sym (ap (λ (l : Lists). l.opens) h.1)) (connect_counts (n + 1) (levels_below true) (site ds r.registrations handle) [] (first_progress r.handles r.opens) (omega arith) part)

pub reinstalls : {A : Type 0} (ds : List Meaning) (old : Lists) (handle : ℕ) (guid : List ℕ) (old_value value : ℕ) (result : Result (Vec ℕ A) Status) (new : Lists) → Reinstalls ds old handle guid old_value value result new → CountsOnce old new
reinstalls ds old handle guid old_value value result new h =
    frees (removal_refusal old.handles handle guid old_value) (can_be_freed ds old handle guid) (λ events. Replaces ds handle guid value (freed handle guid old) events new) result old new
    (λ events e. replaced_counts ds old new handle guid value events e) h

-- ---- connecting and disconnecting

pub connects_controller : {A : Type 0} (ds : List Meaning) (old : Lists) (handle : ℕ) (named : List ℕ) (recursive : Bool) (result : Result (Vec ℕ A) Status) (new : Lists) → ConnectsController ds old handle named recursive result new
    → CountsOnce old new
connects_controller ds old handle named recursive result new h = connect_raises (site ds old.registrations handle) named recursive old.handles old.opens (result_map_both (λ v. v.items) (λ e. e) result) new.handles new.opens h.0

pub disconnects_controller : (ds : List Meaning) (old : Lists) (handle driver : ℕ) (result : Result (Unit {0}) Status) (new : Lists) → DisconnectsController ds old handle driver result new → CountsOnce old new
disconnects_controller ds old handle driver result new h = (disconnect_raised ds old handle driver result new.handles new.opens h.0).counts
