-- The lists of the protocol services are proper along runs.
use Rattle.std.proofs.Common.{ℕ, Bool, List, [], ◌∷◌, sym, subst, arith}
use Rattle.driver_connect.specs.Drivers.{Meaning}
use Rattle.protocol_services.specs.Lists.{Lists, no_lists}
use Rattle.protocol_services.specs.ProperLists.{AreProperLists}
use Rattle.protocol_services.proofs.ProperRules.{found_proper, installs_many, installs_one, locates_handles, locates_protocol, registers}
use Rattle.protocol_services.proofs.ProperOpens.{closes, handles_protocol, opens_protocol}
use Rattle.protocol_services.proofs.ProperRemovals.{connects_controller, disconnects_controller, reinstalls, uninstalls}
use Rattle.boot_calls.specs.declared.calls.Call.{Call}
use Rattle.boot_replies.specs.declared.replies.Reply.{Reply}
use Rattle.boot_machines.specs.Machines.{MachineValue}
use Rattle.boot_core.specs.Machines.{State, prepared_state}
use Rattle.boot_core.specs.Steps.{Setting, CallRunBy}
use Rattle.boot_core.proofs.ListRules.{KeepRules, by_rules}

-- proper lists stay proper
abbrev StayProper : Lists → Lists → Type 0
StayProper old new = AreProperLists old → AreProperLists new

proper_rules : (ds : List Meaning) → KeepRules ds StayProper
proper_rules ds = record {
  same = λ l s. s;
  installs_one = λ l handle guid kind value result new h s. installs_one l handle guid kind value result new s h;
  installs_many = λ l handle pairs has_path result new h s. installs_many l handle pairs has_path result new s h;
  uninstalls = λ l handle guid value result new h s. uninstalls ds l handle guid value result new s h;
  reinstalls = λ l handle guid old_value value result new h s. reinstalls ds l handle guid old_value value result new s h;
  registers = λ l guid event result new h s. registers l guid event result new s h;
  locates_handles = λ l search guid key room returned new h s. locates_handles l search guid key room returned new s h;
  finds = λ search key l new e s. subst AreProperLists (sym e) (found_proper search key l s);
  locates_protocol = λ l guid key result new h s. locates_protocol l guid key result new s h;
  opens_protocol = λ l handle guid agent controller a result new h s. opens_protocol ds l handle guid agent controller a result new s h;
  handles_protocol = λ l handle guid result new h s. handles_protocol l handle guid result new s h;
  closes = λ l handle guid agent controller result new h s. closes l handle guid agent controller result new s h;
  connects_controller = λ l handle named recursive result new h s. connects_controller ds l handle named recursive result new s h;
  disconnects_controller = λ l handle driver result new h s. disconnects_controller ds l handle driver result new s h;
}

run_proper : {A : Type 0} (S : Setting) (old : State) (calls : List (Call A)) (replies : List (Reply A)) (new : State) → AreProperLists old.parts.lists → CallRunBy S old calls replies new → AreProperLists new.parts.lists
run_proper S old [] [] new s run = subst (λ (st : State). AreProperLists st.parts.lists) (sym run) s
run_proper S old (c ∷ calls) (r ∷ replies) new s (next, step, run) =
    run_proper S next calls replies new (by_rules S StayProper (proper_rules S.drivers) old.exited old.parts c r next.parts step.answers s) run
run_proper S old [] (r ∷ replies) new s run = absurd run
run_proper S old (c ∷ calls) [] new s run = absurd run

-- there is nothing in the first lists
first_proper : AreProperLists no_lists
first_proper = record { table = record { ascending = tt; given = tt; limit = omega arith; on_live = tt }; limit = omega arith; guids = tt; names = tt; holders = tt }

pub proper_after : {A : Type 0} (S : Setting) (placements : ℕ) (certifies : Bool) (machine : MachineValue) (calls : List (Call A)) (replies : List (Reply A)) (new : State) → CallRunBy S (prepared_state placements certifies machine) calls replies new → AreProperLists new.parts.lists
proper_after S placements certifies machine calls replies new run = run_proper S (prepared_state placements certifies machine) calls replies new first_proper run
