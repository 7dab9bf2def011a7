-- The stop of pairs that made no handle takes out these pairs alone.
use Rattle.std.proofs.Common.{◌≡◌, ◌+◌, ◌≤◌, List, [], ◌∷◌, length, refl, sym, ap, ◌∙◌, arith}
use Rattle.guid_handles.specs.HandleTables.{HandleTable}
use Rattle.guid_handles.proofs.GuidOrder.{and_false}
use Rattle.guid_handles.specs.declared.records.Pair.{Pair}
use Rattle.open_agents.specs.declared.items.OpenRecord.{OpenRecord}
use Rattle.open_agents.specs.OpenItems.{is_for_driver, managers_of_any}
use Rattle.driver_connect.specs.Stopping.{made_by, managers_of_made, planned_stop, round, rounds, stop_set, with_pairs}
use Rattle.driver_connect.specs.StopOrder.{by_controller, stop_order}
use Rattle.driver_connect.proofs.MadeHandles.{managers_of_made_handles}
use Rattle.driver_connect.proofs.Rounds.{rounds_end}

no_managers : (opens : List OpenRecord) → managers_of_any opens [] ≡ []
no_managers [] = refl
no_managers (o ∷ os) = rw (and_false (is_for_driver o.attributes)) (no_managers os)

no_round : (t : HandleTable) (opens : List OpenRecord) (set : List Pair) → made_by t set ≡ [] → round t opens set ≡ set
no_round t opens set none =
    let managers : managers_of_made t opens set ≡ [] = sym (managers_of_made_handles t opens set) ∙ ap (managers_of_any opens) none ∙ no_managers opens in
    ap (with_pairs set) managers

alone : (t : HandleTable) (opens : List OpenRecord) (pairs set : List Pair) → set ≡ with_pairs [] pairs → made_by t set ≡ [] → stop_set t opens pairs ≡ set
alone t opens pairs set e none =
    ap (rounds (length t.handles + length opens) t opens) (sym e) ∙ rounds_end (length t.handles + length opens) t opens set (no_round t opens set none)

-- the stop of pairs that made no handle takes out these alone
pub childless : (t : HandleTable) (opens : List OpenRecord) (pairs set : List Pair) → set ≡ with_pairs [] pairs → made_by t set ≡ [] → record { pairs = set; handles = [] } ≡ planned_stop t opens pairs
childless t opens pairs set e none = rw (alone t opens pairs set e none) (rw none refl)

pub one_stop : (t : HandleTable) (opens : List OpenRecord) (pairs : List Pair) → length pairs ≡ 1 → made_by t pairs ≡ [] → pairs ≡ stop_order (planned_stop t opens pairs)
one_stop t opens [] l none = absurd (omega (arith, l))
one_stop t opens (p ∷ []) l none = sym (ap (by_controller []) (alone t opens (p ∷ []) (p ∷ []) refl none))
one_stop t opens (p ∷ q ∷ ps) l none = absurd (omega (arith, l))

-- a single pair, or none, is a set
pub one_set : (pairs : List Pair) → length pairs ≤ 1 → pairs ≡ with_pairs [] pairs
one_set [] l = refl
one_set (p ∷ []) l = refl
one_set (p ∷ q ∷ ps) l = absurd (omega (arith, l))
