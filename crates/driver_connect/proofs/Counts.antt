-- The counts of the open items along a connect: a start's items are new ones, so none is counted once more.
use Rattle.std.proofs.Common.{◌≡◌, ℕ, ◌<◌, ◌≤◌, ◌==◌, true, false, List, [], ◌∷◌, inl, inr}
use Rattle.std.specs.List.{list_any, AllByRecursion}
use Rattle.std.proofs.lemmas.Bool.{cases_Bool}
use Rattle.guid_handles.proofs.SortedLists.{all_push, any_none}
use Rattle.open_agents.specs.declared.items.OpenRecord.{OpenRecord}
use Rattle.open_agents.specs.OpenItems.{is_equal_item, with_item}
use Rattle.open_agents.specs.OpenRule.{has_holder}
use Rattle.protocol_notify.specs.declared.notify.Registration.{Registration}
use Rattle.driver_connect.specs.declared.agents.Agent.{Agent}
use Rattle.driver_connect.specs.Drivers.{Plan, protocols_on}
use Rattle.driver_connect.specs.Starting.{Site, Progress, can_start, with_driver_items, carried_out, plan_for, is_supported, is_carried_out, after_turn}
use Rattle.driver_connect.specs.Connecting.{connected}
use Rattle.driver_connect.proofs.Opened.{AreToOpen, none_equal, next_opened}
use Rattle.driver_connect.proofs.ByTurns.{by_connect}
use Rattle.driver_connect.proofs.Passes.{planned_unheld, sound_plan}

-- counts that are so high at most
abbrev pub CountUpTo : ℕ → List OpenRecord → Type 0
CountUpTo m opens = AllByRecursion (λ o. o.count ≤ m) opens

-- an item of BY_DRIVER on an interface that is not held is a new one
item_counts : (m n : ℕ) (guid : List ℕ) (agent : ℕ) (opens : List OpenRecord) → 0 < m → has_holder opens n guid ≡ false → CountUpTo m opens → CountUpTo m (with_item n guid agent n 0x10 opens)
item_counts m n guid agent opens l u h =
    let e : list_any (is_equal_item n guid agent n 0x10) opens ≡ false = any_none (is_equal_item n guid agent n 0x10) opens (none_equal n guid agent opens u) in
    elim (cases_Bool (agent == 0)) [
      | inl z ↦ rw e (rw z h)
      | inr z ↦ rw e (rw z (all_push (λ o. o.count ≤ m) opens _ h l))
    ]

items_counts : (m n agent : ℕ) (guids : List (List ℕ)) (opens : List OpenRecord) → 0 < m → AreToOpen n opens guids → CountUpTo m opens → CountUpTo m (with_driver_items n agent guids opens)
items_counts m n agent [] opens l a h = h
items_counts m n agent (g ∷ gs) opens l a h = items_counts m n agent gs (with_item n g agent n 0x10 opens) l (next_opened n opens g gs agent a) (item_counts m n g agent opens l a.free.0 h)

carried_counts : (m : ℕ) (rs : List Registration) (n agent : ℕ) (plan : Plan) (p : Progress) → 0 < m → can_start p.handles (protocols_on p.handles p.opens n) plan ≡ true → CountUpTo m p.opens
    → CountUpTo m (carried_out rs n agent plan p).opens
carried_counts m rs n agent plan p l e h =
    items_counts m n agent plan.opens p.opens l (record { free = planned_unheld p n plan e; once = (sound_plan p.handles (protocols_on p.handles p.opens n) plan e).once }) h

turn_counts : (m : ℕ) (c : Site) (p : Progress) (a : Agent) → 0 < m → CountUpTo m p.opens → CountUpTo m (after_turn c p a).opens
turn_counts m c p a l h = elim (cases_Bool (is_supported c p a)) [
  | inl e ↦ elim (cases_Bool (is_carried_out c p a)) [
    | inl f ↦ rw e (rw f (carried_counts m c.registrations c.controller a.handle (plan_for c p a) p l f h))
    | inr f ↦ rw e (rw f h)
  ]
  | inr e ↦ rw e h
]

-- a connect raises no count above a bound of 1 or more
pub connect_counts : (m k : ℕ) (c : Site) (named : List ℕ) (p : Progress) → 0 < m → CountUpTo m p.opens → CountUpTo m (connected k c named p).opens
connect_counts m k c named p l h = by_connect (λ ds. Unit {0}) (λ p. CountUpTo m p.opens) (λ c p a ds g. turn_counts m c p a l g) k c named p tt h
