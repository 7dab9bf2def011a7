-- What the calls so far can have brought, one call more.
use Rattle.std.proofs.Common.{◌≡◌, ℕ, ◌+◌, ◌<◌, ◌≤◌, ◌^◌, Bool, List, [], ◌∷◌, length, sym, subst, arith}
use Rattle.std.specs.List.{AllByRecursion}
use Rattle.open_agents.specs.declared.items.OpenRecord.{OpenRecord}
use Rattle.protocol_services.specs.Lists.{Lists, IsRaised}
use Rattle.boot_machines.specs.Machines.{MachineValue}
use Rattle.boot_core.specs.Machines.{Parts, CoreValue, Given, FollowsCalls, IsUnused, all_calls, first_state}

weaken : (P Q : OpenRecord → Type 0) → ((o : OpenRecord) → P o → Q o) → (opens : List OpenRecord) → AllByRecursion P opens → AllByRecursion Q opens
weaken P Q f [] a = tt
weaken P Q f (o ∷ opens) a = (f o a.0, weaken P Q f opens a.1)

-- lists that stay are raised by nothing
pub not_raised : (old new : Lists) → new ≡ old → IsRaised old new
not_raised old new e = subst (IsRaised old) (sym e) (record {
  numbers = omega arith;
  stamps = omega arith;
  keys = omega arith;
  counts = λ n a. weaken (λ o. o.count ≤ n) (λ o. o.count ≤ n + 1) (λ o h. omega (arith, h)) old.opens a;
})

-- what begins a call says of the parts that a core has
pub follows_now : {D : Type 0} (p : Parts) (exited : Bool) (n : ℕ) (gs : Given D) (v : CoreValue D) → record { state = record { parts = p; exited = exited; calls_left = n }; given = gs } ≡ v
    → FollowsCalls v.state.parts (v.state.calls_left + 1) → FollowsCalls p (n + 1)
follows_now {D = D} p exited n gs v is follows = subst (λ (w : CoreValue D). FollowsCalls w.state.parts (w.state.calls_left + 1)) (sym is) follows

pub follows_on : (old new : Parts) (n : ℕ) → FollowsCalls old (n + 1) → new.book.key ≤ old.book.key + 1 → IsRaised old.lists new.lists → FollowsCalls new n
follows_on old new n follows key raised =
    record {
      key = omega (arith, follows.key, key);
      registrations = omega (arith, follows.registrations, raised.keys);
    }

-- there is a key for a registration by a call that may still be made
pub has_room_to_register : (p : Parts) (n : ℕ) → FollowsCalls p (n + 1) → length p.lists.registrations < 2 ^ 62
has_room_to_register p n follows = omega (arith, follows.registrations)

-- before any call
pub first_follows : (machine : MachineValue) → FollowsCalls (first_state machine).parts all_calls
first_follows machine = record { key = omega arith; registrations = omega arith }

pub first_unused : (machine : MachineValue) → IsUnused (first_state machine).parts
first_unused machine = record { key = omega arith; registrations = omega arith }
