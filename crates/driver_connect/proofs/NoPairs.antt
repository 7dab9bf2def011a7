-- A stop of no pairs takes out nothing, and nothing hinders it.
use Rattle.std.proofs.Common.{◌≡◌, ℕ, zero, suc, ◌+◌, ◌==◌, ◌||◌, not, Bool, true, false, List, [], ◌∷◌, length, Option, Some, None, refl, arith}
use Rattle.std.specs.List.{filter, list_all}
use Rattle.std.proofs.lemmas.Bool.{eqb-true}
use Rattle.guid_handles.specs.declared.records.Pair.{Pair}
use Rattle.guid_handles.specs.HandleTables.{HandleTable, maker_of, numbers}
use Rattle.guid_handles.proofs.GuidOrder.{and_false}
use Rattle.open_agents.specs.declared.items.OpenRecord.{OpenRecord}
use Rattle.open_agents.specs.OpenItems.{is_for_driver}
use Rattle.driver_connect.specs.Drivers.{Meaning}
use Rattle.driver_connect.specs.Stopping.{can_be_stopped, is_maker, is_made_by, is_no_obstacle, made_by, managers_of_made, manages_made, rounds, spares_opener, stop_set}

none_made : (t : HandleTable) (n : ℕ) → is_made_by t [] n ≡ false
none_made t n = no_maker (maker_of t n)
  where
    no_maker : (m : Option Pair) → is_maker [] m ≡ false
    no_maker None = refl
    no_maker (Some m) = refl

none_pass : {X : Type 0} (p : X → Bool) → ((x : X) → p x ≡ false) → (xs : List X) → filter p xs ≡ []
none_pass p h [] = refl
none_pass p h (x ∷ xs) = rw (h x) (none_pass p h xs)

none_managed : (t : HandleTable) (opens : List OpenRecord) → managers_of_made t opens [] ≡ []
none_managed t opens = rw (none_pass (manages_made t []) (λ o. rw (none_made t o.controller) (and_false (is_for_driver o.attributes))) opens) refl

no_rounds : (k : ℕ) (t : HandleTable) (opens : List OpenRecord) → rounds k t opens [] ≡ []
no_rounds zero t opens = refl
no_rounds (suc k) t opens = rw (none_managed t opens) (no_rounds k t opens)

-- the stop set of no pairs is empty
pub empty_set : (t : HandleTable) (opens : List OpenRecord) → stop_set t opens [] ≡ []
empty_set t opens = no_rounds (length t.handles + length opens) t opens

-- and has no handles
pub none_made_by : (t : HandleTable) → made_by t [] ≡ []
none_made_by t = none_pass (is_made_by t []) (none_made t) (numbers t)

clear : (t : HandleTable) (os : List OpenRecord) → list_all (λ o. not (is_made_by t [] o.handle) || is_no_obstacle t [] o) os ≡ true
clear t [] = refl
clear t (o ∷ os) = rw (none_made t o.handle) (clear t os)

spared : (t : HandleTable) (opener : Option Pair) → spares_opener t [] opener ≡ true
spared t None = refl
spared t (Some o) = rw (none_made t o.agent) (rw (none_made t o.controller) refl)

pub nothing_hinders : (ds : List Meaning) (t : HandleTable) (opens : List OpenRecord) (handle : ℕ) (opener : Option Pair) → can_be_stopped ds t opens [] handle opener ≡ true
nothing_hinders ds t opens handle opener = rw (clear t opens) (rw (none_made t handle) (rw (spared t opener) refl))

pub none_in : {X : Type 0} (xs : List X) → (length xs == 0) ≡ true → xs ≡ []
none_in [] h = refl
none_in (x ∷ xs) h = absurd (let e : suc (length xs) ≡ 0 = eqb-true (suc (length xs)) 0 h in omega (arith, e))
