-- The rules of the protocol services keep their lists proper.
use Rattle.std.proofs.Common.{◌≡◌, ℕ, ◌≤◌, ◌==◌, ◌&&◌, ◌||◌, nat_lt, not, Bool, true, false, List, [], ◌∷◌, length, Option, Some, None, Result, Ok, Err, inl, inr, refl, sym, ◌∙◌, subst, arith}
use Rattle.std.specs.List.{filter, list_any, list_all}
use Rattle.std.proofs.lemmas.Bool.{cases_Bool, and_parts, ltb-false, not-true, or_parts}
use Rattle.std.proofs.lemmas.Bool.Decides.{eqb_tells}
use Rattle.page_ranges.specs.declared.statuses.Status.{Status}
use Rattle.page_ranges.specs.declared.statuses.Status.TheVariants as status
use Rattle.guid_handles.specs.HandleTables.{HandleTable, is_live, numbers}
use Rattle.guid_handles.specs.HandleChanges.{Installs, has_guid_twice, install_many_refusal, install_refusal, is_dead, is_taken, max_installed, past_limit, refusal}
use Rattle.guid_handles.specs.declared.records.Pair.{Pair}
use Rattle.open_agents.specs.declared.items.OpenRecord.{OpenRecord}
use Rattle.driver_connect.specs.Drivers.{Meaning}
use Rattle.driver_connect.specs.Stopping.{can_be_stopped, has_agent, is_made_by, is_one_of, is_unobstructed, made_by, may_stop, spares_opener, stop_set, without_handles}
use Rattle.boot_calls.specs.declared.replies.Installed.{Installed}
use Rattle.boot_calls.specs.declared.replies.LocateReply.{LocateReply}
use Rattle.protocol_services.specs.Lists.{Lists, OnHandles}
use Rattle.protocol_services.specs.Installing.{InstallsPairs, Registers, many_refusal, unless_path}
use Rattle.protocol_services.specs.Searches.{LocatesHandles, LocatesProtocol, after_search, by_register_notify, once_found, once_taken}
use Rattle.protocol_services.specs.Opening.{opened_by}
use Rattle.protocol_services.specs.Stopping.{once_stopped}
use Rattle.protocol_services.specs.ProperLists.{AreProperLists}
use Rattle.protocol_services.proofs.ProperTables.{IsProperTable, filtered_proper, installed_live, installed_proper, live_filtered, not_dead}
use Rattle.protocol_services.proofs.ProperItems.{all_named, stopped_apart, stopped_named}
use Rattle.protocol_services.proofs.ProperStarts.{IsProper}

pub parts_proper : (l : Lists) → AreProperLists l → IsProper l.handles l.opens
parts_proper l s = record { table = record { table = s.table; limit = s.limit; guids = s.guids }; names = s.names; holders = s.holders }

pub lists_proper : (l : Lists) → IsProper l.handles l.opens → AreProperLists l
lists_proper l s = record { table = s.table.table; limit = s.table.limit; guids = s.table.guids; names = s.names; holders = s.holders }

pub same : (old new : Lists) → AreProperLists old → new ≡ old → AreProperLists new
same old new s e = subst AreProperLists (sym e) s

-- ---- installing

-- what is known where an installation is not refused
pub record CanInstall (t : HandleTable) (handle : ℕ) (pairs : List (List ℕ × ℕ)) : Type 0 where
  pub few : length pairs ≤ max_installed
  dead : is_dead t handle ≡ false
  taken : list_any (λ p. is_taken t handle p.0) pairs ≡ false
  once : has_guid_twice pairs ≡ false
  limit : past_limit t handle ≡ false

none_refused : (invalid full : Bool) → refusal invalid full ≡ None → (invalid ≡ false) × (full ≡ false)
none_refused true full e = absurd cc
none_refused false true e = absurd cc
none_refused false false e = (refl, refl)

one_allowed : (t : HandleTable) (handle : ℕ) (guid : List ℕ) (value kind : ℕ) → install_refusal t handle guid kind ≡ None → CanInstall t handle ((guid, value) ∷ [])
one_allowed t handle guid value kind e =
    let a = none_refused (not (kind == 0) || (is_dead t handle || is_taken t handle guid)) (past_limit t handle) e in
    let b = or_parts (not (kind == 0)) (is_dead t handle || is_taken t handle guid) a.0 in
    let c = or_parts (is_dead t handle) (is_taken t handle guid) b.1 in
    record { few = omega arith; dead = c.0; taken = rw c.1 refl; once = refl; limit = a.1 }

pub many_allowed : (t : HandleTable) (handle : ℕ) (pairs : List (List ℕ × ℕ)) → install_many_refusal t handle pairs ≡ None → CanInstall t handle pairs
many_allowed t handle pairs e =
    let taken : Bool = list_any (λ p. is_taken t handle p.0) pairs in
    let a = none_refused ((length pairs == 0) || (nat_lt max_installed (length pairs) || (is_dead t handle || (has_guid_twice pairs || taken)))) (past_limit t handle) e in
    let b = or_parts (length pairs == 0) (nat_lt max_installed (length pairs) || (is_dead t handle || (has_guid_twice pairs || taken))) a.0 in
    let c = or_parts (nat_lt max_installed (length pairs)) (is_dead t handle || (has_guid_twice pairs || taken)) b.1 in
    let d = or_parts (is_dead t handle) (has_guid_twice pairs || taken) c.1 in
    let f = or_parts (has_guid_twice pairs) taken d.1 in
    record { few = ltb-false max_installed (length pairs) c.0; dead = d.0; taken = f.1; once = f.0; limit = a.1 }

pub unless_none : (has_path : Bool) (r : Option Status) → unless_path has_path r ≡ None → r ≡ None
unless_none false r e = e
unless_none true None e = refl
unless_none true (Some status.InvalidParameter) e = cc
unless_none true (Some s) e = cc

installs_proper : (t : HandleTable) (handle : ℕ) (pairs : List (List ℕ × ℕ)) (r : Option Status) (result : Result ℕ Status) (new : HandleTable) → IsProperTable t → (r ≡ None → CanInstall t handle pairs) → Installs t handle pairs r result new
    → IsProperTable new × ((n : ℕ) → is_live t n ≡ true → is_live new n ≡ true)
installs_proper t handle pairs None (Ok n) new s f h =
    let c = f refl in
    subst (λ (u : HandleTable). IsProperTable u × ((n : ℕ) → is_live t n ≡ true → is_live u n ≡ true)) (sym h.1)
    (installed_proper handle pairs t s c.dead c.taken c.once c.limit, installed_live handle pairs t)
installs_proper t handle pairs None (Err e) new s f h = subst (λ (u : HandleTable). IsProperTable u × ((n : ℕ) → is_live t n ≡ true → is_live u n ≡ true)) (sym h.1) (s, λ n l. l)
installs_proper t handle pairs (Some r) (Ok n) new s f h = absurd h
installs_proper t handle pairs (Some r) (Err e) new s f h = subst (λ (u : HandleTable). IsProperTable u × ((n : ℕ) → is_live t n ≡ true → is_live u n ≡ true)) (sym h.1) (s, λ n l. l)

on_handles : (old new : Lists) (handle : ℕ) (pairs : List (List ℕ × ℕ)) (r : Option Status) (result : Result ℕ Status) → AreProperLists old → (r ≡ None → CanInstall old.handles handle pairs)
    → OnHandles (Installs old.handles handle pairs r result) old new → AreProperLists new
on_handles old new handle pairs r result s f h =
    let p = parts_proper old s in
    let k = installs_proper old.handles handle pairs r result new.handles p.table f h.0 in
    lists_proper new (subst (λ (os : List OpenRecord). IsProper new.handles os) (sym h.1) (record { table = k.0; names = all_named old.handles new.handles old.opens k.1 s.names; holders = s.holders }))

installs_pairs : {A : Type 0} (old : Lists) (handle : ℕ) (pairs : List (List ℕ × ℕ)) (r : Option Status) (result : Result (Installed A) Status) (new : Lists) → AreProperLists old → (r ≡ None → CanInstall old.handles handle pairs)
    → InstallsPairs old handle pairs r result new → AreProperLists new
installs_pairs old handle pairs r (Ok done) new s f h = on_handles old new handle pairs r (Ok done.handle) s f h.0
installs_pairs old handle pairs r (Err e) new s f h = on_handles old new handle pairs r (Err e) s f h

pub installs_one : {A : Type 0} (old : Lists) (handle : ℕ) (guid : List ℕ) (kind value : ℕ) (result : Result (Installed A) Status) (new : Lists) → AreProperLists old
    → InstallsPairs old handle ((guid, value) ∷ []) (install_refusal old.handles handle guid kind) result new → AreProperLists new
installs_one old handle guid kind value result new s h =
    installs_pairs old handle ((guid, value) ∷ []) (install_refusal old.handles handle guid kind) result new s (one_allowed old.handles handle guid value kind) h

pub installs_many : {A : Type 0} (old : Lists) (handle : ℕ) (pairs : List (List ℕ × ℕ)) (has_path : Bool) (result : Result (Installed A) Status) (new : Lists) → AreProperLists old
    → InstallsPairs old handle pairs (many_refusal old handle pairs has_path) result new → AreProperLists new
installs_many old handle pairs has_path result new s h =
    installs_pairs old handle pairs (many_refusal old handle pairs has_path) result new s
    (λ e. many_allowed old.handles handle pairs (unless_none has_path (install_many_refusal old.handles handle pairs) e)) h

-- ---- registrations and searches

pub registers : (old : Lists) (guid : List ℕ) (event : ℕ) (result : Result ℕ Status) (new : Lists) → AreProperLists old → Registers old guid event result new → AreProperLists new
registers old guid event (Ok key) new s h = subst AreProperLists (sym h.1) (lists_proper _ (parts_proper old s))
registers old guid event (Err status.OutOfResources) new s h = same old new s h
registers old guid event (Err e) new s h = absurd h

taken_proper : (key : ℕ) (l : Lists) → AreProperLists l → AreProperLists (once_taken key l)
taken_proper key l s = lists_proper (once_taken key l) (parts_proper l s)

pub found_proper : (search key : ℕ) (l : Lists) → AreProperLists l → AreProperLists (once_found search key l)
found_proper search key l s = elim (cases_Bool (search == by_register_notify)) [
  | inl e ↦ rw e (taken_proper key l s)
  | inr e ↦ rw e s
]

searched_proper : (st : Status) (search key : ℕ) (l : Lists) → AreProperLists l → AreProperLists (after_search st search key l)
searched_proper status.Success search key l s = found_proper search key l s
searched_proper st search key l s = s

pub locates_handles : {A : Type 0} (old : Lists) (search : ℕ) (guid : List ℕ) (key room : ℕ) (returned : LocateReply A) (new : Lists) → AreProperLists old → LocatesHandles old search guid key room returned new → AreProperLists new
locates_handles old search guid key room returned new s h = subst AreProperLists (sym h.1) (searched_proper returned.status search key old s)

pub locates_protocol : (old : Lists) (guid : List ℕ) (key : ℕ) (result : Result ℕ Status) (new : Lists) → AreProperLists old → LocatesProtocol old guid key result new → AreProperLists new
locates_protocol old guid key (Ok value) new s h =
    subst AreProperLists (sym h.3)
    (elim (cases_Bool (key == 0)) [
      | inl e ↦ rw e s
      | inr e ↦ rw e (taken_proper key old s)
    ])
locates_protocol old guid key (Err status.InvalidParameter) new s h = same old new s h.1
locates_protocol old guid key (Err status.NotFound) new s h = same old new s h.1
locates_protocol old guid key (Err e) new s h = absurd h

-- ---- stopping

pub stopped_proper : (pairs : List Pair) (l : Lists) → AreProperLists l → AreProperLists (once_stopped pairs l)
stopped_proper pairs l s =
    let set = stop_set l.handles l.opens pairs in
    let ns = made_by l.handles set in
    lists_proper (once_stopped pairs l) (record {
      table = filtered_proper (λ m. not (is_one_of ns m)) l.handles (parts_proper l s).table;
      names = stopped_named ns set l.handles l.opens s.names;
      holders = stopped_apart ns set l.opens s.holders;
    })

not_one : (q : ℕ → Bool) (ns : List ℕ) (n : ℕ) → q n ≡ false → is_one_of (filter q ns) n ≡ false
not_one q [] n h = refl
not_one q (m ∷ ms) n h = elim (cases_Bool (q m)) [
  | inl e ↦ elim (eqb_tells n m) [
    | inl t ↦ absurd (let k : q n ≡ true = rw t.1 e in let c : false ≡ true = sym h ∙ k in cc)
    | inr f ↦ rw e (rw f.0 (not_one q ms n h))
  ]
  | inr e ↦ rw e (not_one q ms n h)
]

-- a handle that the set did not make stays live
pub spared_live : (t : HandleTable) (set : List Pair) (n : ℕ) → is_made_by t set n ≡ false → is_live t n ≡ true → is_live (without_handles (made_by t set) t) n ≡ true
spared_live t set n h l = live_filtered (λ m. not (is_one_of (made_by t set) m)) t n l (rw (not_one (is_made_by t set) (numbers t) n h) refl)

pub spared_dead : (t : HandleTable) (set : List Pair) (n : ℕ) → is_made_by t set n ≡ false → is_dead t n ≡ false → is_dead (without_handles (made_by t set) t) n ≡ false
spared_dead t set n h d = elim (cases_Bool (n == 0)) [
  | inl z ↦ rw z refl
  | inr z ↦ rw z (rw (spared_live t set n h (not_dead t n z d)) refl)
]

pub handle_spared : (ds : List Meaning) (t : HandleTable) (opens : List OpenRecord) (set : List Pair) (handle : ℕ) (opener : Option Pair) → can_be_stopped ds t opens set handle opener ≡ true
    → (is_made_by t set handle ≡ false) × (spares_opener t set opener ≡ true)
handle_spared ds t opens set handle opener h =
    let a = and_parts (list_all (may_stop ds t opens) set) (is_unobstructed t opens set && (not (is_made_by t set handle) && spares_opener t set opener)) h in
    let b = and_parts (is_unobstructed t opens set) (not (is_made_by t set handle) && spares_opener t set opener) a.1 in
    let c = and_parts (not (is_made_by t set handle)) (spares_opener t set opener) b.1 in
    (not-true (is_made_by t set handle) c.0, c.1)

pub opener_spared : (t : HandleTable) (set : List Pair) (agent controller : ℕ) → spares_opener t set (opened_by agent controller) ≡ true → (is_made_by t set agent ≡ false) × (is_made_by t set controller ≡ false)
opener_spared t set agent controller h =
    let a = and_parts (not (has_agent set agent)) (not (is_made_by t set agent) && not (is_made_by t set controller)) h in
    let b = and_parts (not (is_made_by t set agent)) (not (is_made_by t set controller)) a.1 in
    (not-true (is_made_by t set agent) b.0, not-true (is_made_by t set controller) b.1)
