-- What a search returns carries the GUID.
use Rattle.std.proofs.Common.{◌≡◌, ℕ, true, cond, List, [], ◌∷◌, Option, Some, None, is_some, inl, inr, refl, sym, subst}
use Rattle.std.specs.List.{slice_get, AllByRecursion}
use Rattle.std.specs.Option.{option_map, option_and_then}
use Rattle.std.proofs.lemmas.Bool.{cases_Bool}
use Rattle.std.proofs.lemmas.Option.{same_Some}
use Rattle.guid_handles.specs.HandleTables.{HandleTable, carries, holders_of, interface_at, is_live, value_at}
use Rattle.guid_handles.specs.HandleChanges.{IsHandleTable}
use Rattle.guid_handles.specs.declared.records.Interface.{Interface}
use Rattle.guid_handles.proofs.Found.{carried_live, holders_carry, next_carries}
use Rattle.guid_handles.proofs.GuidOrder.{same_guid-true}
use Rattle.protocol_notify.specs.declared.notify.Registration.{Registration}
use Rattle.protocol_notify.specs.Registrations.{is_for, next_handle, next_of, registration_of}
use Rattle.protocol_services.specs.Lists.{Lists}
use Rattle.protocol_services.specs.Removing.{is_value}
use Rattle.protocol_services.specs.Searches.{next_of_guid}

first_one : {X : Type 0} (P : X → Type 0) (xs : List X) (x : X) → AllByRecursion P xs → Some x ≡ slice_get xs 0 → P x
first_one P [] x a e = absurd cc
first_one P (y ∷ ys) x a e = subst P (sym (same_Some x y e)) a.0

-- the lowest holder carries the GUID
pub first_carries : (t : HandleTable) (guid : List ℕ) (n : ℕ) → Some n ≡ slice_get (holders_of t guid) 0 → carries t guid n ≡ true
first_carries t guid n e = first_one (λ m. carries t guid m ≡ true) (holders_of t guid) n (holders_carry t guid) e

handle_returned : (P : ℕ → Type 0) (o : Option (ℕ × ℕ)) (n : ℕ) → ((m : ℕ × ℕ) → o ≡ Some m → P m.0) → option_map (λ m. m.0) o ≡ Some n → P n
handle_returned P None n f e = absurd cc
handle_returned P (Some m) n f e = subst P (same_Some m.0 n e) (f m refl)

next_returned : (t : HandleTable) (guid : List ℕ) (o : Option Registration) (x : Option ℕ) (n : ℕ) → option_and_then (λ r. cond (is_for guid r) (Some x) None) o ≡ Some x
    → option_map (λ m. m.0) (option_and_then (next_of t) o) ≡ Some n → carries t guid n ≡ true
next_returned t guid None x n g e = absurd cc
next_returned t guid (Some r) x n g e = elim (cases_Bool (is_for guid r)) [
  | inl k ↦
      subst (λ (k : List ℕ). carries t k n ≡ true) (same_guid-true r.guid guid k)
      (handle_returned (λ m. carries t r.guid m ≡ true) (next_of t r) n (next_carries t r.guid r.mark) e)
  | inr k ↦ let none = rw k at g in absurd cc
]

-- the next handle for a key of a GUID carries it
pub next_one_carries : (l : Lists) (guid : List ℕ) (key n : ℕ) → next_of_guid l guid key ≡ Some (next_handle l.handles l.registrations key) → next_handle l.handles l.registrations key ≡ Some n
    → carries l.handles guid n ≡ true
next_one_carries l guid key n g e = next_returned l.handles guid (registration_of l.registrations key) (next_handle l.handles l.registrations key) n g e

valued_some : (value : ℕ) (o : Option Interface) → is_value value (option_map (λ i. i.value) o) ≡ true → is_some o ≡ true
valued_some value None e = absurd cc
valued_some value (Some i) e = refl

-- a handle that carries a GUID with a value is live
pub valued_live : (t : HandleTable) → IsHandleTable t → (n : ℕ) (guid : List ℕ) (value : ℕ) → is_value value (value_at t n guid) ≡ true → is_live t n ≡ true
valued_live t h n guid value e = carried_live t h guid n (valued_some value (interface_at t n guid) e)
