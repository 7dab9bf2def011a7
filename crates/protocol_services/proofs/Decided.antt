-- What the open rule decides: where there is an equal item, and which drivers are asked.
use Rattle.std.proofs.Common.{◌≡◌, ℕ, ◌==◌, ◌&&◌, not, Bool, true, false, List, [], ◌∷◌, Option, Some, None, Result, Ok, Err, inl, inr}
use Rattle.std.proofs.lemmas.Bool.{cases_Bool}
use Rattle.page_ranges.specs.declared.statuses.Status.{Status}
use Rattle.page_ranges.specs.declared.statuses.Status.TheVariants.{InvalidParameter, Unsupported, AccessDenied, AlreadyStarted}
use Rattle.guid_handles.specs.HandleTables.{HandleTable, carries}
use Rattle.open_agents.specs.declared.items.Decision.TheVariants.{Add, Count, Refuse}
use Rattle.open_agents.specs.declared.items.OpenRecord.{OpenRecord}
use Rattle.open_agents.specs.OpenItems.{is_exclusive, is_for_driver}
use Rattle.open_agents.specs.OpenRule.{add_or_stop, driver_item, first_line, has_equal, has_exclusive, has_holder, has_of_agent, is_known, names_badly, open_rule}
use Rattle.driver_connect.specs.Drivers.{Meaning}
use Rattle.protocol_services.specs.Lists.{Lists}
use Rattle.protocol_services.specs.Opening.{OpensAs}

-- an open that stops no driver asks none
pub counted_by_any : (ds : List Meaning) (l : Lists) (n : ℕ) (guid : List ℕ) (agent controller a : ℕ) (result : Result (Option ℕ) Status) (new : Lists)
    → OpensAs [] Count l n guid agent controller a result new → OpensAs ds Count l n guid agent controller a result new
counted_by_any ds l n guid agent controller a (Ok value) new h = h
counted_by_any ds l n guid agent controller a (Err status) new h = h

pub added_by_any : (ds : List Meaning) (l : Lists) (n : ℕ) (guid : List ℕ) (agent controller a : ℕ) (result : Result (Option ℕ) Status) (new : Lists)
    → OpensAs [] Add l n guid agent controller a result new → OpensAs ds Add l n guid agent controller a result new
added_by_any ds l n guid agent controller a (Ok value) new h = h
added_by_any ds l n guid agent controller a (Err status) new h = h

not_counted : (b c d e f g x : Bool) (o : Option OpenRecord)
    → first_line ((b, Refuse InvalidParameter) ∷ (c, Refuse InvalidParameter) ∷ (d, Refuse Unsupported) ∷ (e, Refuse AlreadyStarted) ∷ (f, Refuse AccessDenied) ∷ (g, Refuse AccessDenied) ∷ []) (add_or_stop x o) ≡ Count → ⊥
not_counted true c d e f g x o h = cc
not_counted false true d e f g x o h = cc
not_counted false false true e f g x o h = cc
not_counted false false false true f g x o h = cc
not_counted false false false false true g x o h = cc
not_counted false false false false false true x o h = cc
not_counted false false false false false false x None h = cc
not_counted false false false false false false true (Some o) h = cc
not_counted false false false false false false false (Some o) h = cc

-- an open that is counted has an equal item
pub equal_counted : (t : HandleTable) (opens : List OpenRecord) (n : ℕ) (guid : List ℕ) (agent controller a : ℕ) → open_rule t opens n guid agent controller a ≡ Count → has_equal opens n guid agent controller a ≡ true
equal_counted t opens n guid agent controller a h = elim (cases_Bool (has_equal opens n guid agent controller a)) [
  | inl e ↦ e
  | inr e ↦ absurd (
      not_counted (not (is_known a)) (names_badly t n agent controller a) (not (carries t guid n)) (is_for_driver a && has_of_agent opens n guid agent a) ((a == 0x10) && has_holder opens n guid) (is_exclusive a && has_exclusive opens n guid)
      (is_exclusive a) (driver_item opens n guid) (rw e at h)
      )
]

not_added : (b c d e f : Bool) → first_line ((b, Refuse InvalidParameter) ∷ (c, Refuse InvalidParameter) ∷ (d, Refuse Unsupported) ∷ (e, Refuse AlreadyStarted) ∷ (f, Refuse AccessDenied) ∷ []) Count ≡ Add → ⊥
not_added true c d e f h = cc
not_added false true d e f h = cc
not_added false false true e f h = cc
not_added false false false true f h = cc
not_added false false false false true h = cc
not_added false false false false false h = cc

-- one that has a new item has none
pub none_added : (t : HandleTable) (opens : List OpenRecord) (n : ℕ) (guid : List ℕ) (agent controller a : ℕ) → open_rule t opens n guid agent controller a ≡ Add → has_equal opens n guid agent controller a ≡ false
none_added t opens n guid agent controller a h = elim (cases_Bool (has_equal opens n guid agent controller a)) [
  | inl e ↦ absurd (not_added (not (is_known a)) (names_badly t n agent controller a) (not (carries t guid n)) (is_for_driver a) (a == 0x20) (rw e at h))
  | inr e ↦ e
]
