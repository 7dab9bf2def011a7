-- The handles that a connect makes, and the items of their makers.
use Rattle.std.proofs.Common.{◌≡◌, ℕ, zero, suc, ◌+◌, ◌<◌, ◌≤◌, ◌==◌, ◌&&◌, ◌||◌, nat_lt, nat_eq, Bool, true, false, List, [], ◌∷◌, ◌++◌, map, length, Option, Some, None, is_some, inl, inr, refl, sym, ap, ◌∙◌, append_assoc, append-nil, arith}
use Rattle.std.specs.List.{list_any, find, cons_option, AllByRecursion}
use Rattle.std.specs.Option.{option_map}
use Rattle.std.proofs.lemmas.Bool.{cases_Bool}
use Rattle.std.proofs.lemmas.Bool.Decides.{eqb_tells}
use Rattle.guid_handles.specs.declared.records.Interface.{Interface}
use Rattle.guid_handles.specs.declared.records.LiveHandle.{LiveHandle}
use Rattle.guid_handles.specs.declared.records.Pair.{Pair}
use Rattle.guid_handles.specs.HandleTables.{HandleTable, numbers, is_at, holders_of}
use Rattle.guid_handles.specs.HandleChanges.{IsHandleTable, stamped}
use Rattle.guid_handles.specs.Sorting.{kept_if}
use Rattle.guid_handles.proofs.SortedLists.{all_map, all_append, all_insert, any_member, any_push, any_last}
use Rattle.guid_handles.proofs.Indexed.{at_handle}
use Rattle.open_agents.specs.declared.items.OpenRecord.{OpenRecord}
use Rattle.open_agents.specs.OpenItems.{is_open_on, is_of_pair, is_equal_item, counted, with_item}
use Rattle.protocol_notify.specs.declared.notify.Registration.{Registration}
use Rattle.driver_connect.specs.declared.agents.Agent.{Agent}
use Rattle.driver_connect.specs.Drivers.{Meaning, Plan, driver_binding, agent_of, version_at, protocols_on}
use Rattle.driver_connect.specs.Starting.{Site, Progress, site, is_listed, with_named, with_all_named, with_agent, by_version, other, others_among, agents_for, with_driver_items, with_child, with_children, carried_out, plan_for, is_supported, is_carried_out, turn, after_turn, left_of, pass, passes, starts_on}
use Rattle.driver_connect.specs.Connecting.{made_after, for_each, connected}
use Rattle.driver_connect.proofs.Passes.{sound_plan}
use Rattle.driver_connect.specs.Laws.{is_of_maker, has_makers_item, MakesHandles}

-- no interface is on handle 0
abbrev pub IsZeroFree : HandleTable → Type 0
IsZeroFree t = AllByRecursion (λ i. 0 < i.handle) t.interfaces

-- Handles were made, with their makers' items, and what is known of makers and of handle 0 stays.
pub record Makes (p q : Progress) : Type 0 where
  pub made : List LiveHandle
  pub handles : q.handles.handles ≡ p.handles.handles ++ made
  pub items : AllByRecursion (λ h. has_makers_item q.opens h ≡ true) made
  pub kept : (m : Option Pair) → list_any (is_of_maker m) p.opens ≡ true → list_any (is_of_maker m) q.opens ≡ true
  pub zero_free : IsZeroFree p.handles → IsZeroFree q.handles

makes_same : (p : Progress) → Makes p p
makes_same p = record { made = []; handles = sym (append-nil p.handles.handles); items = tt; kept = λ m h. h; zero_free = λ h. h }

makes_further : (p q r : Progress) → Makes p q → Makes q r → Makes p r
makes_further p q r a b = record {
  made = a.made ++ b.made;
  handles = b.handles ∙ ap (λ l. l ++ b.made) a.handles ∙ append_assoc p.handles.handles a.made b.made;
  items = all_append (λ h. has_makers_item r.opens h ≡ true) a.made b.made
      (all_map (λ h. has_makers_item q.opens h ≡ true) (λ h. has_makers_item r.opens h ≡ true) (λ h e. b.kept h.maker e) a.made a.items) b.items;
  kept = λ m h. b.kept m (a.kept m h);
  zero_free = λ h. b.zero_free (a.zero_free h);
}

-- ---- items

abbrev by : ℕ → ℕ → Pair
by controller agent = record { controller = controller; agent = agent }

counted_same : (m : Option Pair) (e : OpenRecord → Bool) (o : OpenRecord) → is_of_maker m (counted e o) ≡ is_of_maker m o
counted_same None e o = refl
counted_same (Some m) e o = elim (cases_Bool (e o)) [
  | inl k ↦ rw k refl
  | inr k ↦ rw k refl
]

all_counted : (m : Option Pair) (e : OpenRecord → Bool) (opens : List OpenRecord) → list_any (is_of_maker m) (map (counted e) opens) ≡ list_any (is_of_maker m) opens
all_counted m e [] = refl
all_counted m e (o ∷ os) = rw (counted_same m e o) (ap (λ b. is_of_maker m o || b) (all_counted m e os))

item_kept : (m : Option Pair) (n : ℕ) (guid : List ℕ) (agent : ℕ) (opens : List OpenRecord) → list_any (is_of_maker m) opens ≡ true → list_any (is_of_maker m) (with_item n guid agent n 0x10 opens) ≡ true
item_kept m n guid agent opens h = elim (cases_Bool (list_any (is_equal_item n guid agent n 0x10) opens)) [
  | inl e ↦ rw e (all_counted m (is_equal_item n guid agent n 0x10) opens ∙ h)
  | inr e ↦ elim (cases_Bool (agent == 0)) [
    | inl z ↦ rw e (rw z h)
    | inr z ↦ rw e (rw z (any_push (is_of_maker m) opens _ h))
  ]
]

equal_is_makers : (n : ℕ) (guid : List ℕ) (agent : ℕ) (opens : List OpenRecord) → list_any (is_equal_item n guid agent n 0x10) opens ≡ true → list_any (is_of_maker (Some (by n agent))) opens ≡ true
equal_is_makers n guid agent [] h = h
equal_is_makers n guid agent (o ∷ os) h = elim (cases_Bool (is_of_pair n agent o && (o.attributes == 0x10))) [
  | inl e ↦ rw e refl
  | inr e ↦ rw e (equal_is_makers n guid agent os (elim (cases_Bool (is_open_on n guid o)) [
    | inl f ↦ rw e at (rw f at h)
    | inr f ↦ rw f at h
  ]))
]

own_item : (n agent : ℕ) → ((agent == agent) && (n == n)) ≡ true
own_item n agent = elim (eqb_tells agent agent) [
  | inl a ↦ elim (eqb_tells n n) [
    | inl b ↦ rw a.0 (rw b.0 refl)
    | inr b ↦ absurd (omega (arith, b.1))
  ]
  | inr a ↦ absurd (omega (arith, a.1))
]

item_made : (n : ℕ) (guid : List ℕ) (agent : ℕ) (opens : List OpenRecord) → 0 < agent → list_any (is_of_maker (Some (by n agent))) (with_item n guid agent n 0x10 opens) ≡ true
item_made n guid agent opens l = elim (cases_Bool (list_any (is_equal_item n guid agent n 0x10) opens)) [
  | inl e ↦ rw e (all_counted (Some (by n agent)) (is_equal_item n guid agent n 0x10) opens ∙ equal_is_makers n guid agent opens e)
  | inr e ↦ elim (eqb_tells agent 0) [
    | inl z ↦ absurd (omega (arith, z.1, l))
    | inr z ↦ rw e (rw z.0 (any_last (is_of_maker (Some (by n agent))) opens _ (rw (own_item n agent) refl)))
  ]
]

items_kept : (m : Option Pair) (n agent : ℕ) (guids : List (List ℕ)) (opens : List OpenRecord) → list_any (is_of_maker m) opens ≡ true → list_any (is_of_maker m) (with_driver_items n agent guids opens) ≡ true
items_kept m n agent [] opens h = h
items_kept m n agent (g ∷ gs) opens h = items_kept m n agent gs (with_item n g agent n 0x10 opens) (item_kept m n g agent opens h)

items_made : (n agent : ℕ) (guids : List (List ℕ)) (opens : List OpenRecord) → 0 < agent → (length guids == 0) ≡ false → list_any (is_of_maker (Some (by n agent))) (with_driver_items n agent guids opens) ≡ true
items_made n agent [] opens l h = cc
items_made n agent (g ∷ gs) opens l h = items_kept (Some (by n agent)) n agent gs (with_item n g agent n 0x10 opens) (item_made n g agent opens l)

-- ---- children

children_made : (maker : Pair) (children : List (List (List ℕ × ℕ))) (t : HandleTable)
    → (made : List LiveHandle) × ((with_children maker children t).handles ≡ t.handles ++ made) × AllByRecursion (λ h. h.maker ≡ Some maker) made
children_made maker [] t = ([], sym (append-nil t.handles), tt)
children_made maker (pairs ∷ children) t =
    let r = children_made maker children (with_child maker pairs t) in
    (record { number = t.last_number + 1; maker = Some maker } ∷ r.0, r.1 ∙ append_assoc t.handles (record { number = t.last_number + 1; maker = Some maker } ∷ []) r.0, (refl, r.2))

stamped_above : (n stamp : ℕ) (pairs : List (List ℕ × ℕ)) → 0 < n → AllByRecursion (λ i. 0 < i.handle) (stamped n stamp pairs)
stamped_above n stamp [] l = tt
stamped_above n stamp (p ∷ ps) l = (l, stamped_above n (stamp + 1) ps l)

children_above : (maker : Pair) (children : List (List (List ℕ × ℕ))) (t : HandleTable) → IsZeroFree t → IsZeroFree (with_children maker children t)
children_above maker [] t h = h
children_above maker (pairs ∷ children) t h =
    children_above maker children (with_child maker pairs t)
    (all_append (λ i. 0 < i.handle) t.interfaces (stamped (t.last_number + 1) t.last_stamp pairs) h (stamped_above (t.last_number + 1) t.last_stamp pairs (omega arith)))

-- ---- starts

carried_makes : (rs : List Registration) (n agent : ℕ) (plan : Plan) (p : Progress) → 0 < agent → (length plan.opens == 0) ≡ false → Makes p (carried_out rs n agent plan p)
carried_makes rs n agent plan p l e =
    let r = children_made (by n agent) plan.children p.handles in
    record {
      made = r.0;
      handles = r.1;
      items = all_map (λ h. h.maker ≡ Some (by n agent)) (λ h. has_makers_item (with_driver_items n agent plan.opens p.opens) h ≡ true) (λ h k. rw k (items_made n agent plan.opens p.opens l e)) r.0 r.2;
      kept = λ m h. items_kept m n agent plan.opens p.opens h;
      zero_free = children_above (by n agent) plan.children p.handles;
    }

turn_makes : (c : Site) (p : Progress) (a : Agent) → 0 < a.handle → Makes p (after_turn c p a)
turn_makes c p a l = elim (cases_Bool (is_supported c p a)) [
  | inl e ↦ elim (cases_Bool (is_carried_out c p a)) [
    | inl f ↦ rw e (rw f (carried_makes c.registrations c.controller a.handle (plan_for c p a) p l (sound_plan p.handles (protocols_on p.handles p.opens c.controller) (plan_for c p a) f).some))
    | inr f ↦ rw e (rw f (makes_same p))
  ]
  | inr e ↦ rw e (makes_same p)
]

left_above : (a : Agent) (t : Option Bool) → 0 < a.handle → AllByRecursion (λ b. 0 < b.handle) (left_of a t)
left_above a None l = (l, tt)
left_above a (Some b) l = tt

pass_makes : (c : Site) (agents : List Agent) (p : Progress) → AllByRecursion (λ a. 0 < a.handle) agents → Makes p (pass c agents p).progress × AllByRecursion (λ a. 0 < a.handle) (pass c agents p).left
pass_makes c [] p h = (makes_same p, tt)
pass_makes c (a ∷ agents) p h =
    let r = pass_makes c agents (after_turn c p a) h.1 in (
      makes_further p (after_turn c p a) (pass c agents (after_turn c p a)).progress (turn_makes c p a h.0) r.0,
      all_append (λ b. 0 < b.handle) (left_of a (turn c p a)) (pass c agents (after_turn c p a)).left (left_above a (turn c p a) h.0) r.1,
    )

passes_make : (k : ℕ) (c : Site) (agents : List Agent) (p : Progress) → AllByRecursion (λ a. 0 < a.handle) agents → Makes p (passes k c agents p).progress
passes_make zero c agents p h = makes_same p
passes_make (suc k) c agents p h =
    let r = pass_makes c agents p h in
    elim (cases_Bool (length (pass c agents p).starts == 0)) [
      | inl e ↦ rw e r.0
      | inr e ↦ rw e (makes_further p (pass c agents p).progress (passes k c (pass c agents p).left (pass c agents p).progress).progress r.0 (passes_make k c (pass c agents p).left (pass c agents p).progress r.1))
    ]

-- ---- the list of drivers

found_above : (n : ℕ) (guid : List ℕ) (is : List Interface) → AllByRecursion (λ i. 0 < i.handle) is → is_some (find (is_at n guid) is) ≡ true → 0 < n
found_above n guid [] a h = cc
found_above n guid (i ∷ is) a h = elim (cases_Bool (is_at n guid i)) [
  | inl e ↦ rw (← at_handle n guid i e) a.0
  | inr e ↦ found_above n guid is a.1 (rw e at h)
]

agent_above_if : (ds : List Meaning) (n : ℕ) (o : Option Interface) → (is_some o ≡ true → 0 < n)
    → AllByRecursion (λ (a : Agent). 0 < a.handle) (cons_option (option_map (λ i. record { handle = n; driver = i; version = version_at ds i }) (kept_if (λ v. nat_lt v (length ds)) (option_map (λ i. i.value) o))) [])
agent_above_if ds n None h = tt
agent_above_if ds n (Some i) h = elim (cases_Bool (nat_lt i.value (length ds))) [
  | inl e ↦ rw e (h refl, tt)
  | inr e ↦ rw e tt
]

agent_above : (ds : List Meaning) (t : HandleTable) (n : ℕ) → IsZeroFree t → AllByRecursion (λ a. 0 < a.handle) (cons_option (agent_of ds t n) [])
agent_above ds t n z = agent_above_if ds n (find (is_at n driver_binding) t.interfaces) (found_above n driver_binding t.interfaces z)

named_above : (ds : List Meaning) (t : HandleTable) → IsZeroFree t → (agents : List Agent) (ns : List ℕ) → AllByRecursion (λ a. 0 < a.handle) agents → AllByRecursion (λ a. 0 < a.handle) (with_all_named ds t agents ns)
named_above ds t z agents [] h = h
named_above ds t z agents (n ∷ ns) h =
    named_above ds t z (with_named ds t agents n) ns
    (elim (cases_Bool (is_listed agents n)) [
      | inl e ↦ rw e h
      | inr e ↦ rw e (all_append (λ a. 0 < a.handle) agents (cons_option (agent_of ds t n) []) h (agent_above ds t n z))
    ])

others_above : (ds : List Meaning) (t : HandleTable) → IsZeroFree t → (agents : List Agent) (ns : List ℕ) → AllByRecursion (λ a. 0 < a.handle) (others_among ds t agents ns)
others_above ds t z agents [] = tt
others_above ds t z agents (n ∷ ns) =
    all_append (λ a. 0 < a.handle) (other ds t agents n) (others_among ds t agents ns)
    (elim (cases_Bool (is_listed agents n)) [
      | inl e ↦ rw e tt
      | inr e ↦ rw e (agent_above ds t n z)
    ])
    (others_above ds t z agents ns)

versions_above : (agents more : List Agent) → AllByRecursion (λ a. 0 < a.handle) agents → AllByRecursion (λ a. 0 < a.handle) more → AllByRecursion (λ a. 0 < a.handle) (by_version agents more)
versions_above agents [] h k = h
versions_above agents (a ∷ more) h k = versions_above (with_agent agents a) more (all_insert (λ b. 0 < b.handle) agents _ a h k.0) k.1

agents_above : (ds : List Meaning) (t : HandleTable) (named : List ℕ) → IsZeroFree t → AllByRecursion (λ a. 0 < a.handle) (agents_for ds t named)
agents_above ds t named z =
    all_append (λ a. 0 < a.handle) (with_all_named ds t [] named) _ (named_above ds t z [] named tt)
    (versions_above [] _ tt (others_above ds t z (with_all_named ds t [] named) (holders_of t driver_binding)))

-- ---- levels

each_makes : (f : ℕ → Progress → Progress) → ((n : ℕ) (q : Progress) → IsZeroFree q.handles → Makes q (f n q)) → (ns : List ℕ) (p : Progress) → IsZeroFree p.handles → Makes p (for_each f ns p)
each_makes f h [] p z = makes_same p
each_makes f h (n ∷ ns) p z = let a = h n p z in makes_further p (f n p) (for_each f ns (f n p)) a (each_makes f h ns (f n p) (a.zero_free z))

starts_make : (c : Site) (named : List ℕ) (p : Progress) → IsZeroFree p.handles → Makes p (starts_on c named p).progress
starts_make c named p z = passes_make (length (agents_for c.drivers p.handles named)) c (agents_for c.drivers p.handles named) p (agents_above c.drivers p.handles named z)

connect_makes : (k : ℕ) (c : Site) (named : List ℕ) (p : Progress) → IsZeroFree p.handles → Makes p (connected k c named p)
connect_makes zero c named p z = starts_make c named p z
connect_makes (suc k) c named p z =
    let a = starts_make c named p z in
    makes_further p (starts_on c named p).progress _ a
    (each_makes (λ n q. connected k (site c.drivers c.registrations n) [] q) (λ n q y. connect_makes k (site c.drivers c.registrations n) [] q y)
    (made_after p.handles.last_number (starts_on c named p).progress.handles) (starts_on c named p).progress (a.zero_free z))

table_zero_free : (t : HandleTable) → IsHandleTable t → IsZeroFree t
table_zero_free t h =
    all_map (λ i. list_any (λ n. nat_eq n i.handle) (numbers t) ≡ true) (λ i. 0 < i.handle)
    (λ i m. any_member i.handle (numbers t) (λ n. 0 < n) (all_map (λ n. (0 < n) × (n ≤ t.last_number)) (λ n. 0 < n) (λ n k. k.0) (numbers t) h.given) m) t.interfaces h.on_live

pub makers_stand_beside : (levels : ℕ) (c : Site) (named : List ℕ) (p : Progress) → IsHandleTable p.handles → MakesHandles p (connected levels c named p)
makers_stand_beside levels c named p t =
    let a = connect_makes levels c named p (table_zero_free p.handles t) in
    record { made = a.made; handles = a.handles; items = a.items }
