-- How far calls raise numbers, stamps and counts.
use Rattle.std.proofs.Common.{◌≡◌, ℕ, ◌+◌, ◌≤◌, Bool, not, List, Result, Ok, Err, OnOk, ap, subst, sym, arith}
use Rattle.std.specs.List.{AllByRecursion}
use Rattle.page_ranges.specs.declared.statuses.Status.{Status}
use Rattle.page_ranges.specs.declared.statuses.Status.TheVariants.{InvalidParameter, NotFound, OutOfResources, DeviceError}
use Rattle.guid_handles.specs.HandleTables.{HandleTable}
use Rattle.guid_handles.proofs.SortedLists.{all_filter}
use Rattle.guid_handles.specs.declared.records.Pair.{Pair}
use Rattle.open_agents.specs.declared.items.OpenRecord.{OpenRecord}
use Rattle.open_agents.specs.OpenItems.{without_items, manager_of}
use Rattle.driver_connect.specs.Drivers.{Meaning}
use Rattle.driver_connect.specs.Stopping.{Disconnects, has_pair, names_any, without_opens}
use Rattle.driver_connect.specs.Starting.{Site}
use Rattle.driver_connect.specs.Connecting.{Connects, first_progress, levels_below}
use Rattle.driver_connect.proofs.Counts.{connect_counts}
use Rattle.protocol_services.specs.Lists.{Lists, IsRaised}
use Rattle.protocol_services.proofs.OpenCounts.{CountUpTo, one_higher}

-- what holds holds of a success
pub on_ok : {T E : Type 0} (result : Result T E) (P : Type 0) → P → OnOk result P
on_ok (Ok value) P p = p
on_ok (Err error) P p = tt

-- where all stays, nothing is raised
pub stays_raised : (l : Lists) → IsRaised l l
stays_raised l = record { numbers = omega arith; stamps = omega arith; keys = omega arith; counts = λ n h. one_higher n l.opens h }

-- what is so of all items is so of those that a stop leaves
pub all_left : (P : OpenRecord → Type 0) (ns : List ℕ) (pairs : List Pair) (opens : List OpenRecord) → AllByRecursion P opens → AllByRecursion P (without_opens ns pairs opens)
all_left P ns pairs opens h = all_filter P (λ o. not (has_pair pairs (manager_of o))) (without_items (names_any ns) opens) (all_filter P (λ o. not (names_any ns o)) opens h)

pub left_counts : (ns : List ℕ) (pairs : List Pair) (opens : List OpenRecord) (n : ℕ) → CountUpTo n opens → CountUpTo (n + 1) (without_opens ns pairs opens)
left_counts ns pairs opens n h = all_left (λ o. o.count ≤ n + 1) ns pairs opens (one_higher n opens h)

same_raised : (l : Lists) (t : HandleTable) (opens : List OpenRecord) → t ≡ l.handles → opens ≡ l.opens → IsRaised l (record l { handles = t; opens = opens })
same_raised l t opens a b = rw a (rw b (stays_raised l))

-- a disconnect
pub disconnect_raised : (ds : List Meaning) (l : Lists) (handle driver : ℕ) (result : Result (Unit {0}) Status) (t : HandleTable) (opens : List OpenRecord)
    → Disconnects ds l.handles l.opens handle driver result t opens → IsRaised l (record l { handles = t; opens = opens })
disconnect_raised ds l handle driver (Ok done) t opens h = rw h.1.1 (rw h.1.2 record {
  numbers = omega arith;
  stamps = omega arith;
  keys = omega arith;
  counts = λ n k. left_counts _ _ l.opens n k;
})
disconnect_raised ds l handle driver (Err InvalidParameter) t opens h = same_raised l t opens h.1 h.2
disconnect_raised ds l handle driver (Err DeviceError) t opens h = same_raised l t opens h.1.1 h.1.2
disconnect_raised ds l handle driver (Err OutOfResources) t opens h = same_raised l t opens h.1 h.2
disconnect_raised ds l handle driver (Err status) t opens h = absurd h

same_counts : (opens new : List OpenRecord) (n : ℕ) → new ≡ opens → CountUpTo n opens → CountUpTo (n + 1) new
same_counts opens new n e h = rw e (one_higher n opens h)

-- the counts after a connect
pub connect_raises : (c : Site) (named : List ℕ) (recursive : Bool) (t : HandleTable) (opens : List OpenRecord) (result : Result (List ℕ) Status) (new_t : HandleTable) (new : List OpenRecord)
    → Connects c named recursive t opens result new_t new → (n : ℕ) → CountUpTo n opens → CountUpTo (n + 1) new
connect_raises c named recursive t opens (Ok events) new_t new h n k =
    subst (CountUpTo (n + 1)) (sym (ap (λ p. p.opens) h.2)) (connect_counts (n + 1) (levels_below recursive) c named (first_progress t opens) (omega arith) (one_higher n opens k))
connect_raises c named recursive t opens (Err InvalidParameter) new_t new h n k = same_counts opens new n h.2 k
connect_raises c named recursive t opens (Err NotFound) new_t new h n k = same_counts opens new n h.3 k
connect_raises c named recursive t opens (Err OutOfResources) new_t new h n k = same_counts opens new n h.2 k
connect_raises c named recursive t opens (Err status) new_t new h n k = absurd h
