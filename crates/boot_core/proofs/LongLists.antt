-- InstallMultipleProtocolInterfaces of more pairs than may be installed at once: it is refused, whatever they are.
use Rattle.std.proofs.Common.{◌≡◌, ℕ, ◌<◌, ◌||◌, ◌==◌, nat_lt, List, length, Bool, true, false, Option, Some, Result, Ok, Err, refl, sym, subst}
use Rattle.std.proofs.lemmas.Bool.{lt-ltb}
use Rattle.page_ranges.specs.declared.statuses.Status.{Status}
use Rattle.page_ranges.specs.declared.statuses.Status.TheVariants.{InvalidParameter}
use Rattle.guid_handles.specs.HandleChanges.{max_installed, refusal}
use Rattle.driver_connect.specs.Drivers.{Meaning}
use Rattle.boot_calls.specs.declared.calls.Call.TheVariants as call
use Rattle.boot_calls.specs.declared.replies.Installed.{Installed}
use Rattle.boot_replies.specs.declared.replies.Reply.{Reply}
use Rattle.protocol_services.specs.Lists.{Lists}
use Rattle.protocol_services.specs.Installing.{InstallsPairs, many_refusal, unless_path}
use Rattle.boot_core.specs.Machines.{Parts, State}
use Rattle.boot_core.specs.Steps.{OnLists, Step, WhileOpen}

-- ---- the refusal

either : (a b c : Bool) → b ≡ true → (a || (b || c)) ≡ true
either true b c e = refl
either false b c e = rw e refl

invalid : (a has_path full : Bool) → a ≡ true → unless_path has_path (refusal a full) ≡ Some InvalidParameter
invalid a true full e = rw e refl
invalid a false full e = rw e refl

refused : (l : Lists) (handle : ℕ) (pairs : List (List ℕ × ℕ)) (has_path : Bool) → max_installed < length pairs → many_refusal l handle pairs has_path ≡ Some InvalidParameter
refused l handle pairs has_path e = invalid _ has_path _ (either (length pairs == 0) (nat_lt max_installed (length pairs)) _ (lt-ltb max_installed (length pairs) e))

-- ---- the step

refuses_both : {A : Type 0} (l : Lists) (handle : ℕ) (ps qs : List (List ℕ × ℕ)) (result : Result (Installed A) Status) (new : Lists) →
    InstallsPairs l handle ps (Some InvalidParameter) result new → InstallsPairs l handle qs (Some InvalidParameter) result new
refuses_both l handle ps qs (Ok done) new ((never, opens, registrations), events) = absurd never
refuses_both l handle ps qs (Err status) new i = i

rule_for_more : {A : Type 0} (old new : Parts) (handle : ℕ) (ps qs : List (List ℕ × ℕ)) (a b : Bool) (result : Result (Installed A) Status) → max_installed < length ps → max_installed < length qs →
    OnLists (InstallsPairs old.lists handle ps (many_refusal old.lists handle ps a) result) old new → OnLists (InstallsPairs old.lists handle qs (many_refusal old.lists handle qs b) result) old new
rule_for_more old new handle ps qs a b result p q (i, book, pools) =
    let first = subst (λ (r : Option Status). InstallsPairs old.lists handle ps r result new.lists) (refused old.lists handle ps a p) i in
    let both = refuses_both old.lists handle ps qs result new.lists first in
    (subst (λ (r : Option Status). InstallsPairs old.lists handle qs r result new.lists) (sym (refused old.lists handle qs b q)) both, book, pools)

while_open : (exited : Bool) (old new : Parts) (R S Refusal : Type 0) → (R → S) → WhileOpen exited old new R Refusal → WhileOpen exited old new S Refusal
while_open true old new R S Refusal f w = w
while_open false old new R S Refusal f w = f w

-- What a step with such a list does, one with any other such list does.
pub step_for_more : {A : Type 0} (ds : List Meaning) (old new : State) (handle : ℕ) (ps qs : List (List ℕ × ℕ)) (answer : Reply A) → max_installed < length ps → max_installed < length qs →
    Step ds old (call.InstallMultipleProtocolInterfaces handle ps) answer new → Step ds old (call.InstallMultipleProtocolInterfaces handle qs) answer new
step_for_more ds old new handle ps qs answer p q s =
    let a = s.answers in
    record {
      answers = (a.0, a.1, while_open old.exited old.parts new.parts _ _ _ (rule_for_more old.parts new.parts handle ps qs _ _ a.0 p q) a.2);
      exited = s.exited;
      calls_left = s.calls_left;
    }
