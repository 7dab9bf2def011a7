-- UninstallMultipleProtocolInterfaces as calls of UninstallProtocolInterface.
use Rattle.std.proofs.Common.{◌≡◌, ℕ, ◌+◌, ◌<◌, Bool, true, false, List, [], ◌∷◌, length, Some, None, Result, Ok, Err, inl, inr, refl, subst, arith}
use Rattle.std.proofs.lemmas.Bool.{cases_Bool}
use Rattle.page_ranges.specs.declared.statuses.Status.{Status}
use Rattle.page_ranges.specs.declared.statuses.Status.TheVariants.{Unsupported}
use Rattle.page_services.specs.PageRules.{Book}
use Rattle.pool_services.specs.Extents.{Extent}
use Rattle.driver_connect.specs.Drivers.{Meaning}
use Rattle.protocol_services.specs.Lists.{Lists}
use Rattle.protocol_services.specs.RemovingMany.{UninstallsMany, all_uninstalled, can_be_uninstalled, max_uninstalled, once_uninstalled}
use Rattle.protocol_services.proofs.RemovedMany.{can_go, too_many_refused}
use Rattle.boot_core.specs.Machines.{Parts, State, parts_of}
use Rattle.boot_core.specs.Steps.{CallRun, OnLists, WhileOpen}
use Rattle.boot_core.specs.Removals.{UninstallStep, all_done, uninstalls}

-- a state before the exit
abbrev open_state : Book → List Extent → ℕ → Lists → State
open_state book pools calls l = record { parts = parts_of book pools l; exited = false; calls_left = calls }

each_run : (A : Type 0) (ds : List Meaning) (handle : ℕ) (pairs : List (List ℕ × ℕ)) (book : Book) (pools : List Extent) (l new : Lists) (calls : ℕ) → all_uninstalled ds handle pairs l ≡ Some new
    → CallRun {A = A} ds (open_state book pools (length pairs + calls) l) (uninstalls A handle pairs) (all_done A pairs) (open_state book pools calls new)
each_run A ds handle [] book pools l new calls e = let s : new ≡ l = cc in let z : 0 + calls ≡ calls = omega arith in rw (s, z) refl
each_run A ds handle (p ∷ pairs) book pools l new calls e = elim (cases_Bool (can_be_uninstalled ds l handle p)) [
  | inl t ↦ (
    open_state book pools (length pairs + calls) (once_uninstalled handle p l),
    record { answers = (Ok tt, refl, (can_go ds l handle p t, refl, refl)); exited = refl; calls_left = omega arith },
    each_run A ds handle pairs book pools (once_uninstalled handle p l) new calls (rw t at e),
  )
  | inr f ↦ let n : None ≡ Some new = rw f at e in absurd (cc)
]

run_of : (A : Type 0) (ds : List Meaning) (handle : ℕ) (pairs : List (List ℕ × ℕ)) (old new : Parts) (exited : Bool) (calls : ℕ)
    → WhileOpen exited old new (OnLists (UninstallsMany ds old.lists handle pairs (Ok tt)) old new) (◌≡◌ {A = Result (Unit {0}) Status} (Ok tt) (Err Unsupported))
    → CallRun {A = A} ds (record { parts = old; exited = exited; calls_left = length pairs + calls }) (uninstalls A handle pairs) (all_done A pairs) (record { parts = new; exited = exited; calls_left = calls })
run_of A ds handle pairs old new true calls h = let never = h.0 in absurd (cc)
run_of A ds handle pairs old new false calls h =
    let run = each_run A ds handle pairs old.book old.pools old.lists new.lists calls h.0.1 in
    let same : parts_of old.book old.pools new.lists ≡ new = rw (← h.1, ← h.2) refl in
    subst (λ (p : Parts). CallRun {A = A} ds (record { parts = old; exited = false; calls_left = length pairs + calls }) (uninstalls A handle pairs) (all_done A pairs) (record { parts = p; exited = false; calls_left = calls })) same run

pub uninstall_run : (A : Type 0) (ds : List Meaning) (old : State) (handle : ℕ) (pairs : List (List ℕ × ℕ)) (new : State) (calls : ℕ) → UninstallStep ds old handle pairs (Ok tt) new
    → CallRun {A = A} ds (record { parts = old.parts; exited = old.exited; calls_left = length pairs + calls }) (uninstalls A handle pairs) (all_done A pairs) (record { parts = new.parts; exited = new.exited; calls_left = calls })
uninstall_run A ds old handle pairs new calls s = rw s.exited (run_of A ds handle pairs old.parts new.parts old.exited calls s.answers)

long_rule : (ds : List Meaning) (exited : Bool) (old new : Parts) (handle : ℕ) (ps qs : List (List ℕ × ℕ)) (result : Result (Unit {0}) Status) → max_uninstalled < length ps → max_uninstalled < length qs
    → WhileOpen exited old new (OnLists (UninstallsMany ds old.lists handle ps result) old new) (result ≡ Err Unsupported) → WhileOpen exited old new (OnLists (UninstallsMany ds old.lists handle qs result) old new) (result ≡ Err Unsupported)
long_rule ds true old new handle ps qs result p q w = w
long_rule ds false old new handle ps qs result p q w = (too_many_refused ds old.lists handle ps qs result new.lists p q w.0, w.1, w.2)

-- Too many are refused, whatever they are.
pub long_step : (ds : List Meaning) (old new : State) (handle : ℕ) (ps qs : List (List ℕ × ℕ)) (result : Result (Unit {0}) Status) → max_uninstalled < length ps → max_uninstalled < length qs
    → UninstallStep ds old handle ps result new → UninstallStep ds old handle qs result new
long_step ds old new handle ps qs result p q s = record {
  answers = long_rule ds old.exited old.parts new.parts handle ps qs result p q s.answers;
  exited = s.exited;
  calls_left = s.calls_left;
}
