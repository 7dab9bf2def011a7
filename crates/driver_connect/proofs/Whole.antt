-- What a start, the passes and a stop leave, from what their parts leave.
use Rattle.std.proofs.Common.{◌≡◌, ℕ, ◌-◌, ◌≤◌, Bool, true, List, [], ◌++◌, Option, refl, sym, ap, ◌∙◌, append-nil, arith}
use Rattle.guid_handles.specs.HandleTables.{HandleTable}
use Rattle.guid_handles.specs.declared.records.Pair.{Pair}
use Rattle.open_agents.specs.declared.items.OpenRecord.{OpenRecord}
use Rattle.protocol_notify.specs.declared.notify.Registration.{Registration}
use Rattle.driver_connect.specs.declared.agents.Agent.{Agent}
use Rattle.driver_connect.specs.declared.starting.Start.{Start}
use Rattle.driver_connect.specs.Drivers.{Meaning, Plan}
use Rattle.driver_connect.specs.Starting.{Site, Progress, Passed, with_driver_items, with_children, events_of_all, carried_out, joined, passes}
use Rattle.driver_connect.specs.Stopping.{PlannedStop, planned_stop, without_handles, without_opens, can_be_stopped, Stops}

-- a plan was carried out by its three parts
pub carried_whole : (rs : List Registration) (n a : ℕ) (plan : Plan) (p q : Progress) (opens : List (List ℕ)) (made signaled : List (List (List ℕ × ℕ)))
    → opens ≡ plan.opens → made ≡ plan.children → signaled ≡ plan.children
    → q.opens ≡ with_driver_items n a opens p.opens → q.handles ≡ with_children (record { controller = n; agent = a }) made p.handles → q.events ≡ p.events ++ events_of_all rs signaled
    → q ≡ carried_out rs n a plan p
carried_whole rs n a plan p q opens made signaled e f g o h v =
    let oe = rw e at o in
    let he = rw f at h in
    let ve = rw g at v in
    rw (← oe) (rw (← he) (rw (← ve) refl))

-- all passes were made
pub passes_done : (c : Site) (starts : List Start) (agents : List Agent) (n k : ℕ) (p : Progress) (whole : Passed) → n ≤ k → joined starts [] (passes (n - k) c agents p) ≡ whole
    → (starts ≡ whole.starts) × (p ≡ whole.progress)
passes_done c starts agents n k p whole l h =
    let e : n - k ≡ 0 = omega arith in
    let w : joined starts [] (passes 0 c agents p) ≡ whole = rw e at h in
    (sym (append-nil starts) ∙ ap (λ r. r.starts) w, ap (λ r. r.progress) w)

-- a stop that could be made was carried out
pub stopped_whole : (ds : List Meaning) (t : HandleTable) (opens : List OpenRecord) (pairs : List Pair) (handle : ℕ) (opener : Option Pair) (plan : PlannedStop) (can : Bool) (new_t : HandleTable) (new_opens : List OpenRecord)
    → plan ≡ planned_stop t opens pairs → can ≡ can_be_stopped ds t opens plan.pairs handle opener → can ≡ true
    → new_t ≡ without_handles plan.handles t → new_opens ≡ without_opens plan.handles plan.pairs opens
    → Stops ds t opens pairs handle opener true new_t new_opens
stopped_whole ds t opens pairs handle opener plan can new_t new_opens p c y h o = (
  ap (λ (q : PlannedStop). can_be_stopped ds t opens q.pairs handle opener) (sym p) ∙ sym c ∙ y,
  h ∙ ap (λ (q : PlannedStop). without_handles q.handles t) p,
  o ∙ ap (λ (q : PlannedStop). without_opens q.handles q.pairs opens) p,
)
