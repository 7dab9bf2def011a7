-- A pass over drivers, one turn after the other.
use Rattle.std.proofs.Common.{◌≡◌, ℕ, suc, ◌+◌, ◌-◌, ◌<◌, ◌≤◌, ◌==◌, ◌&&◌, nat_le, not, Bool, true, false, cond, Some, List, [], ◌∷◌, ◌++◌, map, length, inl, inr, refl, sym, ap, ◌∙◌, append_assoc, append-nil, arith}
use Rattle.std.specs.List.{list_all, filter, AllByRecursion}
use Rattle.std.proofs.lemmas.Bool.{and_parts, cases_Bool, leb-true, not-true}
use Rattle.std.proofs.lemmas.Bool.Decides.{eqb_tells}
use Rattle.guid_handles.specs.declared.records.Interface.{Interface}
use Rattle.guid_handles.specs.HandleTables.{HandleTable, same_guid, is_on}
use Rattle.guid_handles.specs.HandleChanges.{max_handles}
use Rattle.guid_handles.proofs.GuidOrder.{same_guid-true}
use Rattle.open_agents.specs.declared.items.OpenRecord.{OpenRecord}
use Rattle.open_agents.specs.OpenRule.{has_holder}
use Rattle.driver_connect.specs.declared.agents.Agent.{Agent}
use Rattle.driver_connect.specs.declared.starting.Start.{Start}
use Rattle.driver_connect.specs.declared.view.ProtocolView.{ProtocolView}
use Rattle.driver_connect.specs.Drivers.{Plan, protocol_view, protocols_on, is_free}
use Rattle.driver_connect.specs.Room.{HasRoom, Grows}
use Rattle.driver_connect.specs.Sites.{passed}
use Rattle.driver_connect.specs.Starting.{Site, Progress, Passed, can_start, carried_out, has_twice, is_carried_out, is_child, is_supported, joined, plan_for, turn, after_turn, pass, passes}

pub grows_same : (t : HandleTable) → Grows t t
grows_same t = record { handles = omega arith; numbers = omega arith; stamps = omega arith }

pub grows_further : (s t u : HandleTable) → Grows s t → Grows t u → Grows s u
grows_further s t u a b = record {
  handles = omega (arith, a.handles, b.handles);
  numbers = omega (arith, a.numbers, b.numbers);
  stamps = omega (arith, a.stamps, b.stamps);
}

pub room_stays : (s t : HandleTable) → HasRoom s → Grows s t → HasRoom t
room_stays s t r a = record {
  numbers = omega (arith, r.numbers, a.numbers);
  stamps = omega (arith, r.stamps, a.stamps);
}

-- ---- what can be started is not held

pub free_unheld : (opens : List OpenRecord) (n : ℕ) (guid : List ℕ) (is : List Interface) → is_free (map (protocol_view opens) (filter (is_on n) is)) guid ≡ true → has_holder opens n guid ≡ false
free_unheld opens n guid [] h = cc
free_unheld opens n guid (i ∷ is) h = elim (eqb_tells i.handle n) [
  | inr f ↦ free_unheld opens n guid is (rw f.0 at h)
  | inl t ↦
      let k = rw t.0 at h in
      elim (cases_Bool (same_guid i.guid guid)) [
        | inr f ↦ free_unheld opens n guid is (rw f at k)
        | inl s ↦ elim (cases_Bool (has_holder opens i.handle i.guid)) [
          | inr u ↦ rw (← t.1) (rw (← same_guid-true i.guid guid s) u)
          | inl u ↦ free_unheld opens n guid is (rw u at (rw s at k))
        ]
      ]
]

-- what is known of a plan that can be carried out
pub record IsSound (t : HandleTable) (protocols : List ProtocolView) (plan : Plan) : Type 0 where
  pub some : (length plan.opens == 0) ≡ false
  pub once : has_twice plan.opens ≡ false
  pub free : list_all (is_free protocols) plan.opens ≡ true
  pub children : list_all is_child plan.children ≡ true
  pub room : length t.handles + length plan.children ≤ max_handles

pub sound_plan : (t : HandleTable) (protocols : List ProtocolView) (plan : Plan) → can_start t protocols plan ≡ true → IsSound t protocols plan
sound_plan t protocols plan h =
    let room : Bool = nat_le (length t.handles + length plan.children) max_handles in
    let a = and_parts (not (length plan.opens == 0)) (not (has_twice plan.opens) && (list_all (is_free protocols) plan.opens && (list_all is_child plan.children && room))) h in
    let b = and_parts (not (has_twice plan.opens)) (list_all (is_free protocols) plan.opens && (list_all is_child plan.children && room)) a.1 in
    let c = and_parts (list_all (is_free protocols) plan.opens) (list_all is_child plan.children && room) b.1 in
    let d = and_parts (list_all is_child plan.children) room c.1 in
    record {
      some = not-true (length plan.opens == 0) a.0;
      once = not-true (has_twice plan.opens) b.0;
      free = c.0;
      children = d.0;
      room = leb-true (length t.handles + length plan.children) max_handles d.1;
    }

pub all_unheld : (t : HandleTable) (opens : List OpenRecord) (n : ℕ) (guids : List (List ℕ)) → list_all (is_free (protocols_on t opens n)) guids ≡ true → AllByRecursion (λ guid. has_holder opens n guid ≡ false) guids
all_unheld t opens n [] h = tt
all_unheld t opens n (g ∷ gs) h = elim (cases_Bool (is_free (protocols_on t opens n) g)) [
  | inl e ↦ (free_unheld opens n g t.interfaces e, all_unheld t opens n gs (rw e at h))
  | inr e ↦ absurd (let k = rw e at h in cc)
]

-- the GUIDs of a plan that can be carried out are not held
pub planned_unheld : (p : Progress) (n : ℕ) (plan : Plan) → can_start p.handles (protocols_on p.handles p.opens n) plan ≡ true → AllByRecursion (λ guid. has_holder p.opens n guid ≡ false) plan.opens
planned_unheld p n plan h = all_unheld p.handles p.opens n plan.opens (sound_plan p.handles (protocols_on p.handles p.opens n) plan h).free

-- ---- turns

joined_twice : (s u : List Start) (l m : List Agent) (r : Passed) → joined s l (joined u m r) ≡ joined (s ++ u) (l ++ m) r
joined_twice s u l m r = rw (append_assoc s u r.starts) (rw (append_assoc l m r.left) refl)

-- the last turn was taken
pub turns_end : (c : Site) (starts : List Start) (left : List Agent) (p : Progress) (whole : Passed) → joined starts left (pass c [] p) ≡ whole → passed starts left p ≡ whole
turns_end c starts left p whole h = ap (λ s. passed s left p) (sym (append-nil starts)) ∙ ap (λ l. passed (starts ++ []) l p) (sym (append-nil left)) ∙ h

-- what comes of a turn
pub turn_of : (c : Site) (p : Progress) (a : Agent) (can : Bool) → is_supported c p a ≡ true → is_carried_out c p a ≡ can
    → (Some can ≡ turn c p a) × (cond can (carried_out c.registrations c.controller a.handle (plan_for c p a) p) p ≡ after_turn c p a)
turn_of c p a can s k = (rw (s, k) refl, rw (s, k) refl)

-- ---- passes

-- a pass that starts none is the last
pub passes_end : (c : Site) (starts : List Start) (agents : List Agent) (n k : ℕ) (p : Progress) (whole made : Passed) → made ≡ pass c agents p → k < n → (length made.starts == 0) ≡ true
    → joined starts [] (passes (n - k) c agents p) ≡ whole → (starts ++ made.starts ≡ whole.starts) × (made.progress ≡ whole.progress)
passes_end c starts agents n k p whole made m l z h =
    let e : n - k ≡ suc (n - (k + 1)) = omega arith in
    let w : joined starts [] (pass c agents p) ≡ whole = rw (rw m at z) at (rw e at h) in
    rw m (ap (λ r. r.starts) w, ap (λ r. r.progress) w)

-- one pass more
pub passes_more : (c : Site) (starts : List Start) (agents : List Agent) (n k : ℕ) (p : Progress) (whole made : Passed) → made ≡ pass c agents p → k < n → (length made.starts == 0) ≡ false
    → joined starts [] (passes (n - k) c agents p) ≡ whole
    → joined (starts ++ made.starts) [] (passes (n - (k + 1)) c made.left made.progress) ≡ whole
passes_more c starts agents n k p whole made m l z h =
    let e : n - k ≡ suc (n - (k + 1)) = omega arith in
    let w : joined starts [] (joined (pass c agents p).starts [] (passes (n - (k + 1)) c (pass c agents p).left (pass c agents p).progress)) ≡ whole = rw (rw m at z) at (rw e at h) in
    rw m (sym (joined_twice starts (pass c agents p).starts [] [] (passes (n - (k + 1)) c (pass c agents p).left (pass c agents p).progress)) ∙ w)
