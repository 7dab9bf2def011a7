-- Connecting keeps handles and open items proper, and takes out no handle.
use Rattle.std.proofs.Common.{◌≡◌, ℕ, zero, suc, ◌==◌, nat_lt, Bool, true, false, List, [], ◌∷◌, length, Option, Some, None, is_some, inl, inr, refl}
use Rattle.std.specs.List.{find, cons_option, AllByRecursion}
use Rattle.std.specs.Option.{option_map}
use Rattle.std.proofs.lemmas.Bool.{cases_Bool}
use Rattle.guid_handles.specs.declared.records.Interface.{Interface}
use Rattle.guid_handles.specs.HandleTables.{HandleTable, numbers, is_at, is_live, holders_of}
use Rattle.guid_handles.specs.HandleChanges.{is_dead}
use Rattle.guid_handles.specs.Sorting.{Ascending, kept_if}
use Rattle.guid_handles.proofs.Found.{carried_live, numbers_live}
use Rattle.guid_handles.proofs.SortedLists.{all_map, all_append, all_filter, all_insert}
use Rattle.open_agents.specs.declared.items.OpenRecord.{OpenRecord}
use Rattle.open_agents.specs.OpenItems.{with_item}
use Rattle.protocol_notify.specs.declared.notify.Registration.{Registration}
use Rattle.driver_connect.specs.declared.agents.Agent.{Agent}
use Rattle.driver_connect.specs.Drivers.{Meaning, Plan, agent_of, driver_binding, protocols_on, version_at}
use Rattle.driver_connect.specs.Starting.{Progress, Site, site, after_turn, agents_for, by_version, can_start, carried_out, is_carried_out, is_listed, is_supported, left_of, other, others_among, pass, passes, plan_for, starts_on, turn, with_agent, with_all_named, with_driver_items, with_named}
use Rattle.driver_connect.specs.Connecting.{connected, for_each, made_after}
use Rattle.driver_connect.proofs.Opened.{AreToOpen, next_opened}
use Rattle.driver_connect.proofs.Passes.{planned_unheld, sound_plan}
use Rattle.protocol_services.specs.ProperLists.{NamesLive, HoldApart}
use Rattle.protocol_services.proofs.ProperTables.{IsProperTable, children_live, children_proper}
use Rattle.protocol_services.proofs.ProperItems.{all_named, with_item_named, with_item_apart}

-- proper handles, and proper open items of them
pub record IsProper (t : HandleTable) (opens : List OpenRecord) : Type 0 where
  pub table : IsProperTable t
  pub names : AllByRecursion (NamesLive t) opens
  pub holders : Ascending HoldApart opens

-- a connect comes from one progress to another, which is proper, with no handle taken out
pub record Comes (p q : Progress) : Type 0 where
  pub proper : IsProper q.handles q.opens
  pub live : (n : ℕ) → is_live p.handles n ≡ true → is_live q.handles n ≡ true

comes_nowhere : (p : Progress) → IsProper p.handles p.opens → Comes p p
comes_nowhere p s = record { proper = s; live = λ n l. l }

comes_further : (p q r : Progress) → Comes p q → Comes q r → Comes p r
comes_further p q r a b = record { proper = b.proper; live = λ n l. b.live n (a.live n l) }

-- ---- a start

pub alive : (t : HandleTable) (n : ℕ) → is_live t n ≡ true → is_dead t n ≡ false
alive t n h = elim (cases_Bool (n == 0)) [
  | inl z ↦ rw z refl
  | inr z ↦ rw z (rw h refl)
]

items_named : (t : HandleTable) (n agent : ℕ) (guids : List (List ℕ)) (opens : List OpenRecord) → is_live t n ≡ true → is_live t agent ≡ true → AllByRecursion (NamesLive t) opens
    → AllByRecursion (NamesLive t) (with_driver_items n agent guids opens)
items_named t n agent [] opens l m h = h
items_named t n agent (g ∷ gs) opens l m h = items_named t n agent gs (with_item n g agent n 0x10 opens) l m (with_item_named t n g agent n 0x10 opens l (alive t agent m) (alive t n l) h)

items_apart : (n agent : ℕ) (guids : List (List ℕ)) (opens : List OpenRecord) → AreToOpen n opens guids → Ascending HoldApart opens → Ascending HoldApart (with_driver_items n agent guids opens)
items_apart n agent [] opens a s = s
items_apart n agent (g ∷ gs) opens a s =
    items_apart n agent gs (with_item n g agent n 0x10 opens) (next_opened n opens g gs agent a) (with_item_apart n g agent n 0x10 opens (λ e k. a.free.0) s)

carried_comes : (rs : List Registration) (n agent : ℕ) (plan : Plan) (p : Progress) → IsProper p.handles p.opens → is_live p.handles n ≡ true → is_live p.handles agent ≡ true
    → can_start p.handles (protocols_on p.handles p.opens n) plan ≡ true → Comes p (carried_out rs n agent plan p)
carried_comes rs n agent plan p s l m h =
    let k = sound_plan p.handles (protocols_on p.handles p.opens n) plan h in
    let live : (i : ℕ) → is_live p.handles i ≡ true → is_live (carried_out rs n agent plan p).handles i ≡ true = children_live (record { controller = n; agent = agent }) plan.children p.handles in
    record {
      proper = record {
        table = children_proper (record { controller = n; agent = agent }) plan.children p.handles s.table k.children k.room;
        names = items_named (carried_out rs n agent plan p).handles n agent plan.opens p.opens (live n l) (live agent m) (all_named p.handles (carried_out rs n agent plan p).handles p.opens live s.names);
        holders = items_apart n agent plan.opens p.opens (record { free = planned_unheld p n plan h; once = k.once }) s.holders;
      };
      live = live;
    }

turn_comes : (c : Site) (p : Progress) (a : Agent) → IsProper p.handles p.opens → is_live p.handles c.controller ≡ true → is_live p.handles a.handle ≡ true → Comes p (after_turn c p a)
turn_comes c p a s l m = elim (cases_Bool (is_supported c p a)) [
  | inl e ↦ elim (cases_Bool (is_carried_out c p a)) [
    | inl f ↦ rw e (rw f (carried_comes c.registrations c.controller a.handle (plan_for c p a) p s l m f))
    | inr f ↦ rw e (rw f (comes_nowhere p s))
  ]
  | inr e ↦ rw e (comes_nowhere p s)
]

-- ---- passes

abbrev pub AreLive : HandleTable → List Agent → Type 0
AreLive t agents = AllByRecursion (λ a. is_live t a.handle ≡ true) agents

still_live : (t u : HandleTable) (agents : List Agent) → ((n : ℕ) → is_live t n ≡ true → is_live u n ≡ true) → AreLive t agents → AreLive u agents
still_live t u agents f h = all_map (λ a. is_live t a.handle ≡ true) (λ a. is_live u a.handle ≡ true) (λ a l. f a.handle l) agents h

left_live : (t : HandleTable) (a : Agent) (o : Option Bool) → is_live t a.handle ≡ true → AreLive t (left_of a o)
left_live t a None l = (l, tt)
left_live t a (Some b) l = tt

pass_comes : (c : Site) (agents : List Agent) (p : Progress) → IsProper p.handles p.opens → is_live p.handles c.controller ≡ true → AreLive p.handles agents
    → Comes p (pass c agents p).progress × AreLive (pass c agents p).progress.handles (pass c agents p).left
pass_comes c [] p s l h = (comes_nowhere p s, tt)
pass_comes c (a ∷ agents) p s l h =
    let q = after_turn c p a in
    let t : Comes p q = turn_comes c p a s l h.0 in
    let r = pass_comes c agents q t.proper (t.live c.controller l) (still_live p.handles q.handles agents t.live h.1) in (
      comes_further p q (pass c agents q).progress t r.0,
      all_append (λ b. is_live (pass c agents q).progress.handles b.handle ≡ true) (left_of a (turn c p a)) (pass c agents q).left
          (left_live (pass c agents q).progress.handles a (turn c p a) (r.0.live a.handle (t.live a.handle h.0))) r.1,
    )

passes_come : (k : ℕ) (c : Site) (agents : List Agent) (p : Progress) → IsProper p.handles p.opens → is_live p.handles c.controller ≡ true → AreLive p.handles agents → Comes p (passes k c agents p).progress
passes_come zero c agents p s l h = comes_nowhere p s
passes_come (suc k) c agents p s l h =
    let r = pass_comes c agents p s l h in
    elim (cases_Bool (length (pass c agents p).starts == 0)) [
      | inl e ↦ rw e r.0
      | inr e ↦ rw e (comes_further p (pass c agents p).progress (passes k c (pass c agents p).left (pass c agents p).progress).progress r.0
          (passes_come k c (pass c agents p).left (pass c agents p).progress r.0.proper (r.0.live c.controller l) r.1))
    ]

-- ---- the list of drivers

agent_live_if : (ds : List Meaning) (t : HandleTable) (n : ℕ) (o : Option Interface) → (is_some o ≡ true → is_live t n ≡ true)
    → AllByRecursion (λ (a : Agent). is_live t a.handle ≡ true) (cons_option (option_map (λ i. record { handle = n; driver = i; version = version_at ds i }) (kept_if (λ v. nat_lt v (length ds)) (option_map (λ i. i.value) o))) [])
agent_live_if ds t n None h = tt
agent_live_if ds t n (Some i) h = elim (cases_Bool (nat_lt i.value (length ds))) [
  | inl e ↦ rw e (h refl, tt)
  | inr e ↦ rw e tt
]

-- a driver handle is live, as it carries the driver binding protocol
agent_live : (ds : List Meaning) (t : HandleTable) (n : ℕ) → IsProperTable t → AreLive t (cons_option (agent_of ds t n) [])
agent_live ds t n s = agent_live_if ds t n (find (is_at n driver_binding) t.interfaces) (carried_live t s.table driver_binding n)

named_live : (ds : List Meaning) (t : HandleTable) → IsProperTable t → (agents : List Agent) (ns : List ℕ) → AreLive t agents → AreLive t (with_all_named ds t agents ns)
named_live ds t s agents [] h = h
named_live ds t s agents (n ∷ ns) h =
    named_live ds t s (with_named ds t agents n) ns
    (elim (cases_Bool (is_listed agents n)) [
      | inl e ↦ rw e h
      | inr e ↦ rw e (all_append (λ a. is_live t a.handle ≡ true) agents (cons_option (agent_of ds t n) []) h (agent_live ds t n s))
    ])

others_live : (ds : List Meaning) (t : HandleTable) → IsProperTable t → (agents : List Agent) (ns : List ℕ) → AreLive t (others_among ds t agents ns)
others_live ds t s agents [] = tt
others_live ds t s agents (n ∷ ns) =
    all_append (λ a. is_live t a.handle ≡ true) (other ds t agents n) (others_among ds t agents ns)
    (elim (cases_Bool (is_listed agents n)) [
      | inl e ↦ rw e tt
      | inr e ↦ rw e (agent_live ds t n s)
    ])
    (others_live ds t s agents ns)

versions_live : (t : HandleTable) (agents more : List Agent) → AreLive t agents → AreLive t more → AreLive t (by_version agents more)
versions_live t agents [] h k = h
versions_live t agents (a ∷ more) h k = versions_live t (with_agent agents a) more (all_insert (λ b. is_live t b.handle ≡ true) agents _ a h k.0) k.1

agents_live : (ds : List Meaning) (t : HandleTable) (named : List ℕ) → IsProperTable t → AreLive t (agents_for ds t named)
agents_live ds t named s =
    all_append (λ a. is_live t a.handle ≡ true) (with_all_named ds t [] named) _ (named_live ds t s [] named tt)
    (versions_live t [] _ tt (others_live ds t s (with_all_named ds t [] named) (holders_of t driver_binding)))

-- ---- levels

abbrev AreThere : HandleTable → List ℕ → Type 0
AreThere t ns = AllByRecursion (λ n. is_live t n ≡ true) ns

each_comes : (f : ℕ → Progress → Progress) → ((n : ℕ) (q : Progress) → IsProper q.handles q.opens → is_live q.handles n ≡ true → Comes q (f n q)) → (ns : List ℕ) (p : Progress) → IsProper p.handles p.opens → AreThere p.handles ns
    → Comes p (for_each f ns p)
each_comes f h [] p s l = comes_nowhere p s
each_comes f h (n ∷ ns) p s l =
    let a = h n p s l.0 in
    comes_further p (f n p) (for_each f ns (f n p)) a
    (each_comes f h ns (f n p) a.proper (all_map (λ m. is_live p.handles m ≡ true) (λ m. is_live (f n p).handles m ≡ true) a.live ns l.1))

starts_come : (c : Site) (named : List ℕ) (p : Progress) → IsProper p.handles p.opens → is_live p.handles c.controller ≡ true → Comes p (starts_on c named p).progress
starts_come c named p s l = passes_come (length (agents_for c.drivers p.handles named)) c (agents_for c.drivers p.handles named) p s l (agents_live c.drivers p.handles named s.table)

made_there : (last : ℕ) (t : HandleTable) → AreThere t (made_after last t)
made_there last t = all_filter (λ n. is_live t n ≡ true) (λ n. nat_lt last n) (numbers t) (numbers_live t)

-- a connect of a live handle
pub connected_comes : (k : ℕ) (c : Site) (named : List ℕ) (p : Progress) → IsProper p.handles p.opens → is_live p.handles c.controller ≡ true → Comes p (connected k c named p)
connected_comes zero c named p s l = starts_come c named p s l
connected_comes (suc k) c named p s l =
    let q = (starts_on c named p).progress in
    let a : Comes p q = starts_come c named p s l in
    comes_further p q _ a
    (each_comes (λ n r. connected k (site c.drivers c.registrations n) [] r) (λ n r y m. connected_comes k (site c.drivers c.registrations n) [] r y m)
    (made_after p.handles.last_number q.handles) q a.proper (made_there p.handles.last_number q.handles))
