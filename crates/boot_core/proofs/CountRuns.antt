-- The counts of the open items along runs.
use Rattle.std.proofs.Common.{◌≡◌, ℕ, ◌+◌, ◌≤◌, Bool, List, [], ◌∷◌, length, refl, sym, subst, arith}
use Rattle.std.specs.List.{AllByRecursion}
use Rattle.guid_handles.specs.HandleChanges.{install_refusal}
use Rattle.guid_handles.proofs.SortedLists.{all_map}
use Rattle.open_agents.specs.declared.items.OpenRecord.{OpenRecord}
use Rattle.open_agents.specs.OpenItems.{once_more}
use Rattle.driver_connect.specs.Drivers.{Meaning}
use Rattle.protocol_services.specs.Installing.{many_refusal}
use Rattle.protocol_services.proofs.OpenCounts.{CountUpTo}
use Rattle.protocol_services.proofs.CountRules.{CountsOnce, closes, connects_controller, disconnects_controller, finds, handles_protocol, installs, lists_stay, locates_handles, locates_protocol, opens_protocol, registers, reinstalls, uninstalls}
use Rattle.boot_calls.specs.declared.calls.Call.{Call}
use Rattle.boot_replies.specs.declared.replies.Reply.{Reply}
use Rattle.boot_machines.specs.Machines.{MachineValue}
use Rattle.boot_core.specs.Machines.{State, all_calls, prepared_state}
use Rattle.boot_core.specs.Steps.{Setting, CallRunBy}
use Rattle.boot_core.proofs.ListRules.{KeepRules, by_rules}

-- each rule raises each count by 1 at most
count_rules : (ds : List Meaning) → KeepRules ds CountsOnce
count_rules ds = record {
  same = λ l. lists_stay l l refl;
  installs_one = λ l handle guid kind value result new h. installs l handle ((guid, value) ∷ []) (install_refusal l.handles handle guid kind) result new h;
  installs_many = λ l handle pairs has_path result new h. installs l handle pairs (many_refusal l handle pairs has_path) result new h;
  uninstalls = uninstalls ds;
  reinstalls = λ l handle guid old_value value result new h. reinstalls ds l handle guid old_value value result new h;
  registers = registers;
  locates_handles = λ l search guid key room returned new h. locates_handles l search guid key room returned new h;
  finds = finds;
  locates_protocol = locates_protocol;
  opens_protocol = opens_protocol ds;
  handles_protocol = handles_protocol;
  closes = closes;
  connects_controller = λ l handle named recursive result new h. connects_controller ds l handle named recursive result new h;
  disconnects_controller = disconnects_controller ds;
}

-- the calls of a run raise no count by more than their number
run_counts : {A : Type 0} (S : Setting) (old : State) (calls : List (Call A)) (replies : List (Reply A)) (new : State) (n : ℕ) → CountUpTo n old.parts.lists.opens → CallRunBy S old calls replies new
    → CountUpTo (length calls + n) new.parts.lists.opens
run_counts {A = A} S old [] [] new n s run =
    let none : n ≡ length {A = Call A} [] + n = omega arith in
    subst (λ (m : ℕ). CountUpTo m new.parts.lists.opens) none (subst (λ (st : State). CountUpTo n st.parts.lists.opens) (sym run) s)
run_counts S old (c ∷ calls) (r ∷ replies) new n s (next, step, run) =
    let once : CountsOnce old.parts.lists next.parts.lists = by_rules S CountsOnce (count_rules S.drivers) old.exited old.parts c r next.parts step.answers in
    let rest : CountUpTo (length calls + (n + 1)) new.parts.lists.opens = run_counts S next calls replies new (n + 1) (once n s) run in
    let one_more : length calls + (n + 1) ≡ length (c ∷ calls) + n = omega arith in
    subst (λ (m : ℕ). CountUpTo m new.parts.lists.opens) one_more rest
run_counts S old [] (r ∷ replies) new n s run = absurd run
run_counts S old (c ∷ calls) [] new n s run = absurd run

-- no item's count is above the number of calls, so within those that a machine serves each rises by 1
pub counts_after : {A : Type 0} (S : Setting) (placements : ℕ) (certifies : Bool) (machine : MachineValue) (calls : List (Call A)) (replies : List (Reply A)) (new : State) → CallRunBy S (prepared_state placements certifies machine) calls replies new
    → AllByRecursion (λ o. (o.count ≤ length calls) × (length calls ≤ all_calls → once_more o.count ≡ o.count + 1)) new.parts.lists.opens
counts_after S placements certifies machine calls replies new run =
    let bound : CountUpTo (length calls + 0) new.parts.lists.opens = run_counts S (prepared_state placements certifies machine) calls replies new 0 tt run in
    all_map (λ (o : OpenRecord). o.count ≤ length calls + 0) (λ (o : OpenRecord). (o.count ≤ length calls) × (length calls ≤ all_calls → once_more o.count ≡ o.count + 1)) (λ o l. (omega (arith, l), λ few. omega (arith, l, few))) new.parts.lists.opens bound
