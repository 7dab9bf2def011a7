-- Interfaces that are uninstalled one after the other where a GUID is named twice: one of them is refused.
use Rattle.std.proofs.Common.{◌≡◌, ℕ, ◌&&◌, not, cond, Bool, true, false, List, [], ◌∷◌, Option, Some, None, is_some, inl, inr, refl, sym, ap, ◌∙◌}
use Rattle.std.specs.List.{filter, find, list_any}
use Rattle.std.specs.Option.{option_map}
use Rattle.std.proofs.lemmas.Bool.{cases_Bool}
use Rattle.page_ranges.specs.declared.statuses.Status.TheVariants.{InvalidParameter, NotFound}
use Rattle.guid_handles.specs.declared.records.Interface.{Interface}
use Rattle.guid_handles.specs.HandleTables.{HandleTable, carries, interface_at, is_at, is_live, is_on, same_guid}
use Rattle.guid_handles.specs.HandleChanges.{has_guid_twice, unless_bare, without_interface}
use Rattle.guid_handles.proofs.GuidOrder.{same_guid-true}
use Rattle.driver_connect.specs.Drivers.{Meaning}
use Rattle.protocol_services.specs.Lists.{Lists}
use Rattle.protocol_services.specs.Removing.{can_be_freed, freed, is_value, uninstalled, without_dead}
use Rattle.protocol_services.specs.RemovingMany.{all_uninstalled, can_be_uninstalled, once_uninstalled}

-- ---- what a handle lacks

none_kept : {X : Type 0} (p r : X → Bool) (xs : List X) → is_some (find p xs) ≡ false → is_some (find p (filter r xs)) ≡ false
none_kept p r [] h = h
none_kept p r (x ∷ xs) h = elim (cases_Bool (p x)) [
  | inl e ↦ absurd (let k : true ≡ false = rw e at h in cc)
  | inr e ↦
      let rest = none_kept p r xs (rw e at h) in
      elim (cases_Bool (r x)) [
        | inl k ↦ rw k (rw e rest)
        | inr k ↦ rw k rest
      ]
]

none_left : {X : Type 0} (p : X → Bool) (xs : List X) → is_some (find p (filter (λ x. not (p x)) xs)) ≡ false
none_left p [] = refl
none_left p (x ∷ xs) = elim (cases_Bool (p x)) [
  | inl e ↦ rw e (none_left p xs)
  | inr e ↦ rw e (rw e (none_left p xs))
]

bare_lacks : (n : ℕ) (guid : List ℕ) (t : HandleTable) → carries t guid n ≡ false → carries (unless_bare n t) guid n ≡ false
bare_lacks n guid t h = elim (cases_Bool (list_any (is_on n) t.interfaces)) [
  | inl e ↦ rw e h
  | inr e ↦ rw e (none_kept (is_at n guid) (λ i. not (is_on n i)) t.interfaces h)
]

dead_handles : (n : ℕ) (l : Lists) → (without_dead n l).handles ≡ l.handles
dead_handles n l = elim (cases_Bool (is_live l.handles n)) [
  | inl e ↦ rw e refl
  | inr e ↦ rw e refl
]

uninstalled_handles : (n : ℕ) (guid : List ℕ) (l : Lists) → (uninstalled n guid l).handles ≡ without_interface n guid l.handles
uninstalled_handles n guid l = dead_handles n (record l { handles = without_interface n guid l.handles })

-- a handle lacks what it lacked, and an interface that went
still_lacks : (n : ℕ) (guid : List ℕ) (p : List ℕ × ℕ) (l : Lists) → carries l.handles guid n ≡ false → carries (once_uninstalled n p l).handles guid n ≡ false
still_lacks n guid p l h =
    let left : HandleTable = (freed n p.0 l).handles in
    let before : carries left guid n ≡ false = none_kept (is_at n guid) _ l.handles.interfaces h in
    let after : carries (without_interface n p.0 left) guid n ≡ false = bare_lacks n guid (record left { interfaces = filter (λ i. not (is_at n p.0 i)) left.interfaces }) (none_kept (is_at n guid) (λ i. not (is_at n p.0 i)) left.interfaces before) in
    ap (λ (t : HandleTable). carries t guid n) (uninstalled_handles n p.0 (freed n p.0 l)) ∙ after

lacks_gone : (n : ℕ) (p : List ℕ × ℕ) (l : Lists) → carries (once_uninstalled n p l).handles p.0 n ≡ false
lacks_gone n p l =
    let left : HandleTable = (freed n p.0 l).handles in
    let after : carries (without_interface n p.0 left) p.0 n ≡ false = bare_lacks n p.0 (record left { interfaces = filter (λ i. not (is_at n p.0 i)) left.interfaces }) (none_left (is_at n p.0) left.interfaces) in
    ap (λ (t : HandleTable). carries t p.0 n) (uninstalled_handles n p.0 (freed n p.0 l)) ∙ after

-- ---- what is refused

abbrev RefusedBy : Bool → Option Interface → ℕ → Type 0
RefusedBy live found value = is_some (cond live (cond (is_value value (option_map (λ i. i.value) found)) None (Some NotFound)) (Some InvalidParameter)) ≡ true

refused_by : (live : Bool) (found : Option Interface) (value : ℕ) → is_some found ≡ false → RefusedBy live found value
refused_by live None value h = elim (cases_Bool live) [
  | inl e ↦ rw e refl
  | inr e ↦ rw e refl
]
refused_by live (Some i) value h = absurd cc

lacking_refused : (ds : List Meaning) (n : ℕ) (p : List ℕ × ℕ) (l : Lists) → carries l.handles p.0 n ≡ false → can_be_uninstalled ds l n p ≡ false
lacking_refused ds n p l h =
    ap (λ (b : Bool). not b && can_be_freed ds l n p.0) (refused_by (is_live l.handles n) (interface_at l.handles n p.0) p.1 h)

-- interfaces among which is one that the handle lacks
absent_refused : (ds : List Meaning) (n : ℕ) (guid : List ℕ) (pairs : List (List ℕ × ℕ)) (l : Lists) → carries l.handles guid n ≡ false → list_any (λ q. same_guid guid q.0) pairs ≡ true → all_uninstalled ds n pairs l ≡ None
absent_refused ds n guid [] l h k = absurd cc
absent_refused ds n guid (q ∷ pairs) l h k = elim (cases_Bool (can_be_uninstalled ds l n q)) [
  | inl e ↦ elim (cases_Bool (same_guid guid q.0)) [
    | inl s ↦
        let same : guid ≡ q.0 = same_guid-true guid q.0 s in
        let lacks : carries l.handles q.0 n ≡ false = rw same at h in
        absurd (let f : true ≡ false = sym e ∙ lacking_refused ds n q l lacks in cc)
    | inr s ↦ rw e (absent_refused ds n guid pairs (once_uninstalled n q l) (still_lacks n guid q l h) (rw s at k))
  ]
  | inr e ↦ rw e refl
]

pub twice_refused : (ds : List Meaning) (n : ℕ) (pairs : List (List ℕ × ℕ)) (l : Lists) → has_guid_twice pairs ≡ true → all_uninstalled ds n pairs l ≡ None
twice_refused ds n [] l k = absurd cc
twice_refused ds n (p ∷ pairs) l k = elim (cases_Bool (can_be_uninstalled ds l n p)) [
  | inl e ↦ elim (cases_Bool (list_any (λ q. same_guid p.0 q.0) pairs)) [
    | inl s ↦ rw e (absent_refused ds n p.0 pairs (once_uninstalled n p l) (lacks_gone n p l) s)
    | inr s ↦ rw e (twice_refused ds n pairs (once_uninstalled n p l) (rw s at k))
  ]
  | inr e ↦ rw e refl
]
