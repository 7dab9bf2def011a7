-- How many handles a connect makes at most, and how many stamps it gives.
use Rattle.std.proofs.Common.{◌≡◌, ℕ, zero, suc, ◌+◌, ◌≤◌, List, [], ◌∷◌, length, Some, inl, inr, arith}
use Rattle.std.specs.List.{AllByRecursion}
use Rattle.std.proofs.lemmas.Bool.{cases_Bool}
use Rattle.std.proofs.lemmas.List.{length-append}
use Rattle.guid_handles.specs.declared.records.Pair.{Pair}
use Rattle.guid_handles.specs.HandleTables.{HandleTable}
use Rattle.guid_handles.specs.HandleChanges.{max_handles}
use Rattle.driver_connect.specs.declared.agents.Agent.{Agent}
use Rattle.driver_connect.specs.Drivers.{HasShortPlans, IsShortPlan, Meaning, Plan, ViewValue, plan_at, protocols_on}
use Rattle.driver_connect.specs.Room.{Grows}
use Rattle.driver_connect.specs.Starting.{Progress, Site, after_turn, is_carried_out, is_supported, plan_for, view_at, with_child, with_children}
use Rattle.driver_connect.specs.Connecting.{connected}
use Rattle.driver_connect.proofs.ByTurns.{by_connect}
use Rattle.driver_connect.proofs.Passes.{grows_further, grows_same, sound_plan}

-- each child is one handle more
children_counted : (maker : Pair) (children : List (List (List ℕ × ℕ))) (t : HandleTable) → length (with_children maker children t).handles ≡ length t.handles + length children
children_counted maker [] t = omega arith
children_counted maker (pairs ∷ children) t =
    let more : length (with_child maker pairs t).handles ≡ length t.handles + 1 = length-append t.handles (record { number = t.last_number + 1; maker = Some maker } ∷ []) in
    omega (arith, children_counted maker children (with_child maker pairs t), more)

-- there are at most a number of handles
abbrev HasFew : ℕ → Progress → Type 0
HasFew m p = length p.handles.handles ≤ m

few_after_turn : (m : ℕ) → max_handles ≤ m → (c : Site) (p : Progress) (a : Agent) → Unit {0} → HasFew m p → HasFew m (after_turn c p a)
few_after_turn m most c p a ds h = elim (cases_Bool (is_supported c p a)) [
  | inl e ↦ elim (cases_Bool (is_carried_out c p a)) [
    | inl f ↦
        let plan = plan_for c p a in
        let s = sound_plan p.handles (protocols_on p.handles p.opens c.controller) plan f in
        let those = children_counted (record { controller = c.controller; agent = a.handle }) plan.children p.handles in
        rw e (rw f (omega (arith, s.room, those, most)))
    | inr f ↦ rw e (rw f h)
  ]
  | inr e ↦ rw e h
]

-- a connect makes at most as many handles as may be live
few_more : (k : ℕ) (c : Site) (named : List ℕ) (p : Progress) → length (connected k c named p).handles.handles ≤ length p.handles.handles + max_handles
few_more k c named p =
    let m : ℕ = length p.handles.handles + max_handles in
    let most : max_handles ≤ m = omega arith in
    let few : HasFew m p = omega arith in
    by_connect (λ ds. Unit {0}) (HasFew m) (few_after_turn m most) k c named p tt few

-- ---- what their plans allow

-- each child takes a number, and a stamp for each of its interfaces
children_grow : (maker : Pair) (children : List (List (List ℕ × ℕ))) (t : HandleTable) → AllByRecursion (λ pairs. length pairs ≤ 4) children → Grows t (with_children maker children t)
children_grow maker [] t h = grows_same t
children_grow maker (pairs ∷ children) t h =
    let u : HandleTable = with_child maker pairs t in
    let more : length u.handles ≡ length t.handles + 1 = length-append t.handles (record { number = t.last_number + 1; maker = Some maker } ∷ []) in
    let one : Grows t u = record { handles = omega (arith, more); numbers = omega (arith, more); stamps = omega (arith, more, h.0) } in
    grows_further t u (with_children maker children u) one (children_grow maker children u h.1)

short_if : (ds : List Meaning) (i : ℕ) (s : ViewValue) → AllByRecursion HasShortPlans ds → IsShortPlan (plan_at ds i s)
short_if [] i s h = tt
short_if (m ∷ ds) zero s h = h.0 s
short_if (m ∷ ds) (suc i) s h = short_if ds i s h.1

grown_after_turn : (t : HandleTable) (c : Site) (p : Progress) (a : Agent) → AllByRecursion HasShortPlans c.drivers → Grows t p.handles → Grows t (after_turn c p a).handles
grown_after_turn t c p a ds h = elim (cases_Bool (is_supported c p a)) [
  | inl e ↦ elim (cases_Bool (is_carried_out c p a)) [
    | inl f ↦
        let maker : Pair = record { controller = c.controller; agent = a.handle } in
        let plan : Plan = plan_for c p a in
        let those : Grows p.handles (with_children maker plan.children p.handles) = children_grow maker plan.children p.handles (short_if c.drivers a.driver (view_at c p a) ds) in
        rw e (rw f (grows_further t p.handles (with_children maker plan.children p.handles) h those))
    | inr f ↦ rw e (rw f h)
  ]
  | inr e ↦ rw e h
]

connect_grows : (k : ℕ) (c : Site) (named : List ℕ) (p : Progress) → AllByRecursion HasShortPlans c.drivers → Grows p.handles (connected k c named p).handles
connect_grows k c named p ds = by_connect (λ ds. AllByRecursion HasShortPlans ds) (λ q. Grows p.handles q.handles) (grown_after_turn p.handles) k c named p ds (grows_same p.handles)

-- a connect gives at most a number to each handle that may be live, and four stamps
pub numbers_given : (k : ℕ) (c : Site) (named : List ℕ) (p : Progress) → AllByRecursion HasShortPlans c.drivers → (connected k c named p).handles.last_number ≤ p.handles.last_number + 4096
numbers_given k c named p ds = omega (arith, (connect_grows k c named p ds).numbers, few_more k c named p)

pub stamps_given : (k : ℕ) (c : Site) (named : List ℕ) (p : Progress) → AllByRecursion HasShortPlans c.drivers → (connected k c named p).handles.last_stamp ≤ p.handles.last_stamp + 16384
stamps_given k c named p ds = omega (arith, (connect_grows k c named p ds).stamps, few_more k c named p)

-- ---- what they take

module _ (p q : Progress) (k : ℕ) (c : Site) (named : List ℕ) (whole : q ≡ connected k c named p) (g : Grows p.handles q.handles) where
  few : length q.handles.handles ≤ length p.handles.handles + max_handles
  few = rw whole (few_more k c named p)

  -- each takes a number and at most four stamps
  pub numbers_rise : q.handles.last_number ≤ p.handles.last_number + 4096
  numbers_rise = omega (arith, g.numbers, few)

  pub stamps_rise : q.handles.last_stamp ≤ p.handles.last_stamp + 16384
  stamps_rise = omega (arith, g.stamps, few)
