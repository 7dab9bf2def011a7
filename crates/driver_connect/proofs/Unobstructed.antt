-- The items on the handles that go, asked handle by handle.
use Rattle.std.proofs.Common.{◌≡◌, ℕ, zero, suc, ◌+◌, ◌<◌, length, drop, get_or, arith, ◌==◌, ◌&&◌, ◌||◌, not, Bool, true, false, List, [], ◌∷◌, inl, inr, refl, sym, ap, ◌∙◌}
use Rattle.std.specs.List.{filter, list_all}
use Rattle.std.proofs.lemmas.Bool.{cases_Bool}
use Rattle.guid_handles.specs.HandleTables.{HandleTable}
use Rattle.guid_handles.proofs.SortedLists.{drop_next}
use Rattle.guid_handles.specs.declared.records.Pair.{Pair}
use Rattle.open_agents.specs.declared.items.OpenRecord.{OpenRecord}
use Rattle.open_agents.specs.Blocks.{is_near}
use Rattle.open_agents.proofs.Asked.{handle_near}
use Rattle.driver_connect.specs.Stopping.{is_made_by, is_no_obstacle, is_one_of, is_unobstructed, made_by}
use Rattle.driver_connect.proofs.MadeHandles.{is_one_made}

-- an item is not on a handle, or passes a test
abbrev pub on_only : (OpenRecord → Bool) → ℕ → OpenRecord → Bool
on_only r n o = not (o.handle == n) || r o

-- ---- one handle

-- all items near a handle are asked where all are
pub all_near : (r : OpenRecord → Bool) (n : ℕ) (opens : List OpenRecord) → list_all (on_only r n) (filter (is_near n) opens) ≡ list_all (on_only r n) opens
all_near r n [] = refl
all_near r n (o ∷ os) = elim (cases_Bool (is_near n o)) [
  | inl e ↦ rw e (ap (λ b. on_only r n o && b) (all_near r n os))
  | inr e ↦ elim (cases_Bool (o.handle == n)) [
    | inl f ↦ absurd (let w : true ≡ false = sym (handle_near n o f) ∙ e in cc)
    | inr f ↦ rw e (rw f (all_near r n os))
  ]
]

-- ---- all handles

all_so : (opens : List OpenRecord) (q : OpenRecord → Bool) → ((o : OpenRecord) → q o ≡ true) → list_all q opens ≡ true
all_so [] q h = refl
all_so (o ∷ os) q h = rw (h o) (all_so os q h)

both : (p q s : OpenRecord → Bool) → ((o : OpenRecord) → (p o && q o) ≡ s o) → (opens : List OpenRecord) → (list_all p opens && list_all q opens) ≡ list_all s opens
both p q s h [] = refl
both p q s h (o ∷ os) = regroup (p o) (list_all p os) (q o) (list_all q os) ∙ ap (λ b. b && (list_all p os && list_all q os)) (h o) ∙ ap (λ b. s o && b) (both p q s h os)
  where
    regroup : (a b c d : Bool) → ((a && b) && (c && d)) ≡ ((a && c) && (b && d))
    regroup true true c d = refl
    regroup true false true d = refl
    regroup true false false d = refl
    regroup false b c d = refl

either : (a b r : Bool) → ((not a || r) && (not b || r)) ≡ (not (a || b) || r)
either true true true = refl
either true true false = refl
either true false true = refl
either true false false = refl
either false true true = refl
either false true false = refl
either false false r = refl

by_handles : (r : OpenRecord → Bool) (ns : List ℕ) (opens : List OpenRecord) → list_all (λ n. list_all (on_only r n) opens) ns ≡ list_all (λ o. not (is_one_of ns o.handle) || r o) opens
by_handles r [] opens = sym (all_so opens (λ o. true) (λ o. refl))
by_handles r (n ∷ ns) opens =
    ap (λ b. list_all (on_only r n) opens && b) (by_handles r ns opens)
    ∙ both (on_only r n) (λ o. not (is_one_of ns o.handle) || r o) (λ o. not (is_one_of (n ∷ ns) o.handle) || r o) (λ o. either (o.handle == n) (is_one_of ns o.handle) (r o)) opens

same_all : (p q : OpenRecord → Bool) → ((o : OpenRecord) → p o ≡ q o) → (opens : List OpenRecord) → list_all p opens ≡ list_all q opens
same_all p q h [] = refl
same_all p q h (o ∷ os) = ap (λ b. b && list_all p os) (h o) ∙ ap (λ b. q o && b) (same_all p q h os)

-- the items on the handles that a set made are no obstacles where those on each of them are none
pub handle_by_handle : (t : HandleTable) (opens : List OpenRecord) (set : List Pair) (made : List ℕ) → made ≡ made_by t set
    → list_all (λ n. list_all (on_only (is_no_obstacle t set) n) opens) made ≡ is_unobstructed t opens set
handle_by_handle t opens set made e =
    ap (list_all (λ n. list_all (on_only (is_no_obstacle t set) n) opens)) e
    ∙ by_handles (is_no_obstacle t set) (made_by t set) opens
    ∙ same_all (λ o. not (is_one_of (made_by t set) o.handle) || is_no_obstacle t set o) (λ o. not (is_made_by t set o.handle) || is_no_obstacle t set o)
    (λ o. ap (λ b. not b || is_no_obstacle t set o) (is_one_made t set o.handle)) opens

-- ---- one handle after the other

same_or : (ns : List ℕ) (k a b : ℕ) → k < length ns → get_or ns k a ≡ get_or ns k b
same_or [] k a b l = absurd (omega (arith, l))
same_or (n ∷ ns) zero a b l = refl
same_or (n ∷ ns) (suc k) a b l = same_or ns k a b (omega (arith, l))

-- what the rest of some handles says, by the next and those after it
pub next_on : (f : ℕ → Bool) (ns : List ℕ) (i : ℕ) (b u : Bool) → i < length ns → f (get_or ns i 0) ≡ b → u ≡ list_all f (drop i ns) → u ≡ (b && list_all f (drop (i + 1) ns))
next_on f ns i b u l e h =
    let first : drop i ns ≡ get_or ns i 0 ∷ drop (i + 1) ns = drop_next ns i (get_or ns i 0) l (same_or ns i 0 (get_or ns i 0) l) in
    h ∙ ap (list_all f) first ∙ ap (λ c. c && list_all f (drop (i + 1) ns)) e
