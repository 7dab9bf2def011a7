-- The last number and the last stamp along runs.
use Rattle.std.proofs.Common.{ℕ, ◌+◌, ◌*◌, ◌≤◌, Bool, List, [], ◌∷◌, length, refl, ap, arith}
use Rattle.std.specs.List.{AllByRecursion}
use Rattle.driver_connect.specs.Drivers.{HasShortPlans, Meaning}
use Rattle.protocol_services.specs.Lists.{HasRoom, most_given}
use Rattle.protocol_services.proofs.RoomRules.{GivesFewIn, closes, connects_controller, disconnects_controller, finds, handles_protocol, installs_many, installs_one, lists_stay, locates_handles, locates_protocol, opens_protocol, registers, reinstalls, uninstalls}
use Rattle.boot_calls.specs.declared.calls.Call.{Call}
use Rattle.boot_replies.specs.declared.replies.Reply.{Reply}
use Rattle.boot_machines.specs.Machines.{MachineValue}
use Rattle.boot_core.specs.Machines.{State, all_calls, prepared_state}
use Rattle.boot_core.specs.Steps.{Setting, CallRunBy}
use Rattle.boot_core.proofs.ListRules.{KeepRules, by_rules}

-- each rule gives few numbers and stamps
few_rules : (ds : List Meaning) → AllByRecursion HasShortPlans ds → KeepRules ds GivesFewIn
few_rules ds short = record {
  same = λ l. lists_stay l l refl;
  installs_one = λ l handle guid kind value result new h. installs_one l handle guid kind value result new h;
  installs_many = λ l handle pairs has_path result new h. installs_many l handle pairs has_path result new h;
  uninstalls = uninstalls ds;
  reinstalls = λ l handle guid old_value value result new h. reinstalls ds l handle guid old_value value result new short h;
  registers = registers;
  locates_handles = λ l search guid key room returned new h. locates_handles l search guid key room returned new h;
  finds = finds;
  locates_protocol = locates_protocol;
  opens_protocol = opens_protocol ds;
  handles_protocol = handles_protocol;
  closes = closes;
  connects_controller = λ l handle named recursive result new h. connects_controller ds l handle named recursive result new short h;
  disconnects_controller = λ l handle driver result new h. disconnects_controller ds l handle driver result new h;
}

-- at most as many numbers and stamps as calls may give
record GivesFewFor (n : ℕ) (old new : State) : Type 0 where
  numbers : new.parts.lists.handles.last_number ≤ old.parts.lists.handles.last_number + most_given * n
  stamps : new.parts.lists.handles.last_stamp ≤ old.parts.lists.handles.last_stamp + most_given * n

run_few : {A : Type 0} (S : Setting) (old : State) (calls : List (Call A)) (replies : List (Reply A)) (new : State) → AllByRecursion HasShortPlans S.drivers → CallRunBy S old calls replies new → GivesFewFor (length calls) old new
run_few S old [] [] new short run =
    let same = ap (λ (st : State). st.parts.lists.handles.last_number) run in
    let stamp = ap (λ (st : State). st.parts.lists.handles.last_stamp) run in
    record { numbers = omega (arith, same); stamps = omega (arith, stamp) }
run_few S old (c ∷ calls) (r ∷ replies) new short (next, step, run) =
    let one : GivesFewIn old.parts.lists next.parts.lists = by_rules S GivesFewIn (few_rules S.drivers short) old.exited old.parts c r next.parts step.answers in
    let rest : GivesFewFor (length calls) next new = run_few S next calls replies new short run in
    record { numbers = omega (arith, one.numbers, rest.numbers); stamps = omega (arith, one.stamps, rest.stamps) }
run_few S old [] (r ∷ replies) new short run = absurd run
run_few S old (c ∷ calls) [] new short run = absurd run

-- after the calls that a machine serves there is room for another
pub room_after : {A : Type 0} (S : Setting) (placements : ℕ) (certifies : Bool) (machine : MachineValue) (calls : List (Call A)) (replies : List (Reply A)) (new : State) → AllByRecursion HasShortPlans S.drivers → length calls ≤ all_calls
    → CallRunBy S (prepared_state placements certifies machine) calls replies new → HasRoom new.parts.lists
room_after S placements certifies machine calls replies new short most run =
    let few : GivesFewFor (length calls) (prepared_state placements certifies machine) new = run_few S (prepared_state placements certifies machine) calls replies new short run in
    record { numbers = omega (arith, few.numbers, most); stamps = omega (arith, few.stamps, most) }
