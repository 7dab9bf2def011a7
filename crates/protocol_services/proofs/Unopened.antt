-- An interface that no driver has open is freed without a stop.
use Rattle.std.proofs.Common.{◌≡◌, ℕ, ◌&&◌, not, Bool, true, false, List, [], ◌∷◌, None, Ok, Err, inl, inr, refl, sym, ap, ◌∙◌}
use Rattle.std.specs.List.{filter, list_any}
use Rattle.std.proofs.lemmas.Bool.{cases_Bool}
use Rattle.page_ranges.specs.declared.statuses.Status.TheVariants.{AccessDenied}
use Rattle.open_agents.specs.OpenItems.{is_driven, is_for_driver, is_kept, is_open_on, items_on}
use Rattle.guid_handles.specs.declared.records.Pair.{Pair}
use Rattle.open_agents.specs.declared.items.OpenRecord.{OpenRecord}
use Rattle.driver_connect.specs.Drivers.{Meaning}
use Rattle.driver_connect.specs.Stopping.{PlannedStop, without_handles}
use Rattle.driver_connect.proofs.Filters.{handles_none, names_none, pairs_none}
use Rattle.driver_connect.proofs.NoPairs.{empty_set, none_made_by, nothing_hinders}
use Rattle.protocol_services.specs.Lists.{Lists, IsRaised}
use Rattle.protocol_services.specs.Stopping.{can_stop, once_stopped}
use Rattle.protocol_services.specs.Removing.{can_be_freed, drivers_on, freed, once_freed, removal_refusal, uninstalled, without_opens_on, Uninstalls}
use Rattle.protocol_services.specs.RemovalSteps.{stop_to_free, uninstalled_idle}
use Rattle.protocol_services.proofs.Freed.{uninstalled_raised}
use Rattle.protocol_services.proofs.OpenCounts.{none_gone}

-- nothing hinders a stop of no pairs
idle_stop : (ds : List Meaning) (l : Lists) (handle : ℕ) → can_stop ds l [] handle None ≡ true
idle_stop ds l handle = rw (empty_set l.handles l.opens) (nothing_hinders ds l.handles l.opens handle None)

-- which leaves all as it was
idle_stopped : (l : Lists) → once_stopped [] l ≡ l
idle_stopped l =
    rw (empty_set l.handles l.opens)
    (rw (none_made_by l.handles) (rw (← handles_none l.handles) (rw (← names_none l.opens) (rw (← pairs_none l.opens) refl))))

none_passed : {X : Type 0} (p : X → Bool) (xs : List X) → list_any p xs ≡ false → filter p xs ≡ []
none_passed p [] e = refl
none_passed p (x ∷ xs) e = elim (cases_Bool (p x)) [
  | inl k ↦ let f = rw k at e in absurd (cc)
  | inr k ↦ rw k (none_passed p xs (rw k at e))
]

no_drivers : (l : Lists) (handle : ℕ) (guid : List ℕ) → is_driven l.opens handle guid ≡ false → drivers_on l.opens handle guid ≡ []
no_drivers l handle guid e = rw (none_passed (λ i. is_for_driver i.attributes) (items_on l.opens handle guid) e) refl

once_freed_same : (l : Lists) (handle : ℕ) (guid : List ℕ) → is_driven l.opens handle guid ≡ false → once_freed handle guid l ≡ l
once_freed_same l handle guid e = ap (λ pairs. once_stopped pairs l) (no_drivers l handle guid e) ∙ idle_stopped l

both : (can kept : Bool) → can ≡ true → (can && not kept) ≡ not kept
both can kept c = rw c refl

idle_free : (ds : List Meaning) (l : Lists) (handle : ℕ) (guid : List ℕ) → is_driven l.opens handle guid ≡ false → can_be_freed ds l handle guid ≡ not (is_kept l.opens handle guid)
idle_free ds l handle guid e =
    both (can_stop ds l (drivers_on l.opens handle guid) handle None) (is_kept (once_freed handle guid l).opens handle guid)
    (ap (λ (pairs : List Pair). can_stop ds l pairs handle None) (no_drivers l handle guid e) ∙ idle_stop ds l handle)
    ∙ ap (λ (m : Lists). not (is_kept m.opens handle guid)) (once_freed_same l handle guid e)

pub idle_freed : (l : Lists) (handle : ℕ) (guid : List ℕ) → is_driven l.opens handle guid ≡ false → freed handle guid l ≡ without_opens_on handle guid l
idle_freed l handle guid e = ap (without_opens_on handle guid) (once_freed_same l handle guid e)

-- It is what UninstallProtocolInterface leaves.
pub uninstalled_in_place : (ds : List Meaning) (l : Lists) (handle : ℕ) (guid : List ℕ) (value : ℕ) → removal_refusal l.handles handle guid value ≡ None → is_driven l.opens handle guid ≡ false
    → is_kept l.opens handle guid ≡ false → Uninstalls ds l handle guid value (Ok tt) (uninstalled_idle handle guid l)
uninstalled_in_place ds l handle guid value none idle free =
    rw none (idle_free ds l handle guid idle ∙ ap not free, ap (uninstalled handle guid) (sym (idle_freed l handle guid idle)))

-- No number is given then, and no count rises.
pub in_place_raised : (l : Lists) (handle : ℕ) (guid : List ℕ) → is_driven l.opens handle guid ≡ false → IsRaised l (uninstalled_idle handle guid l)
in_place_raised l handle guid idle = uninstalled_raised l (without_opens_on handle guid l) handle guid (sym (idle_freed l handle guid idle))

-- What is kept stays.
pub kept_in_place : (ds : List Meaning) (l : Lists) (handle : ℕ) (guid : List ℕ) (value : ℕ) → removal_refusal l.handles handle guid value ≡ None → is_driven l.opens handle guid ≡ false
    → is_kept l.opens handle guid ≡ true → Uninstalls ds l handle guid value (Err AccessDenied) l
kept_in_place ds l handle guid value none idle kept = rw none (idle_free ds l handle guid idle ∙ ap not kept, refl)

-- ---- what is put back

none_open : (l : Lists) (handle : ℕ) (guid : List ℕ) → list_any (is_open_on handle guid) l.opens ≡ false → is_driven l.opens handle guid ≡ false
none_open l handle guid e = rw (none_passed (is_open_on handle guid) l.opens e) refl

-- Where nothing has an interface open, all is as it was once it is freed.
pub nothing_goes : (l : Lists) (handle : ℕ) (guid : List ℕ) → list_any (is_open_on handle guid) l.opens ≡ false → freed handle guid l ≡ l
nothing_goes l handle guid e =
    idle_freed l handle guid (none_open l handle guid e) ∙ ap (λ (opens : List OpenRecord). record l { opens = opens }) (none_gone (is_open_on handle guid) l.opens e)

-- Where its stop takes out no handle, the handles are as they were.
pub no_handles_go : (l : Lists) (plan : PlannedStop) (handle : ℕ) (guid : List ℕ) (opens : List OpenRecord) → plan ≡ stop_to_free l handle guid → plan.handles ≡ [] → opens ≡ l.opens
    → record { handles = (freed handle guid l).handles; opens = opens; registrations = l.registrations } ≡ l
no_handles_go l plan handle guid opens p none o =
    let stay : without_handles plan.handles l.handles ≡ l.handles = ap (λ (ns : List ℕ). without_handles ns l.handles) none ∙ sym (handles_none l.handles) in
    let those : (freed handle guid l).handles ≡ l.handles = ap (λ (q : PlannedStop). without_handles q.handles l.handles) (sym p) ∙ stay in
    rw (those, o) refl
