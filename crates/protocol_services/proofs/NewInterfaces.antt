-- Interfaces that come one after the other on a handle that has none of their GUIDs.
use Rattle.std.proofs.Common.{◌≡◌, ℕ, ◌==◌, Bool, true, false, List, [], ◌∷◌, ◌++◌, Option, Some, None, Err, inl, inr, refl, ◌∙◌}
use Rattle.std.specs.List.{find, list_any, AllByRecursion}
use Rattle.std.proofs.lemmas.Bool.{cases_Bool}
use Rattle.page_ranges.specs.declared.statuses.Status.{Status}
use Rattle.page_ranges.specs.declared.statuses.Status.TheVariants.{InvalidParameter}
use Rattle.guid_handles.specs.declared.records.Interface.{Interface}
use Rattle.guid_handles.specs.HandleTables.{HandleTable, same_guid, is_at}
use Rattle.guid_handles.specs.HandleChanges.{Installs, has_guid_twice}
use Rattle.guid_handles.specs.Indexes.{AreAbsent}
use Rattle.guid_handles.proofs.GuidOrder.{and_false}
use Rattle.guid_handles.proofs.SortedLists.{find_push_other}
use Rattle.driver_connect.proofs.Opened.{none_any}
use Rattle.protocol_services.specs.Installing.{or_out_of_memory, unless_path}

-- the first of some pairs is not there, and once it is, none of the others is
pub record IsNextAdded (n : ℕ) (p : List ℕ × ℕ) (ps : List (List ℕ × ℕ)) (i : Interface) (listed : List Interface) : Type 0 where
  pub absent : find (is_at n p.0) listed ≡ None
  pub others : AreAbsent n ps (listed ++ i ∷ [])
  pub once : has_guid_twice ps ≡ false

others_absent : (i : Interface) (ps : List (List ℕ × ℕ)) (listed : List Interface) → AllByRecursion (λ q. same_guid i.guid q.0 ≡ false) ps → AreAbsent i.handle ps listed → AreAbsent i.handle ps (listed ++ i ∷ [])
others_absent i [] listed d a = tt
others_absent i (q ∷ qs) listed d a =
    (find_push_other (is_at i.handle q.0) listed i (rw d.0 (and_false (i.handle == i.handle))) ∙ a.0, others_absent i qs listed d.1 a.1)

pub next_added : (n : ℕ) (p : List ℕ × ℕ) (ps : List (List ℕ × ℕ)) (value stamp : ℕ) (listed : List Interface) → AreAbsent n (p ∷ ps) listed → has_guid_twice (p ∷ ps) ≡ false
    → IsNextAdded n p ps (record { handle = n; guid = p.0; value = value; stamp = stamp }) listed
next_added n p ps value stamp listed a t = elim (cases_Bool (list_any (λ q. same_guid p.0 q.0) ps)) [
  | inl e ↦ let k = rw e at t in cc
  | inr e ↦ record {
    absent = a.0;
    others = others_absent (record { handle = n; guid = p.0; value = value; stamp = stamp }) ps listed (none_any (λ q. same_guid p.0 q.0) ps e) a.1;
    once = rw e at t;
  }
]

-- an installation that is refused, or runs out of memory, leaves all handles
pub not_installed : (t : HandleTable) (handle : ℕ) (pairs : List (List ℕ × ℕ)) (refusal : Option Status) (status : Status) → status ≡ or_out_of_memory refusal → Installs t handle pairs refusal (Err status) t
not_installed t handle pairs None status e = (e, refl)
not_installed t handle pairs (Some refusal) status e = (e, refl)

-- where nothing refuses an installation, neither do the handles
pub no_refusal : (has_path : Bool) (refusal : Option Status) → unless_path has_path refusal ≡ None → refusal ≡ None
no_refusal false refusal h = h
no_refusal true None h = refl
no_refusal true (Some InvalidParameter) h = cc
no_refusal true (Some status) h = cc
