-- Handles that are still to be connected, one more or one less.
use Rattle.std.proofs.Common.{◌≡◌, ℕ, ◌+◌, ◌-◌, ◌<◌, ◌≤◌, nat_lt, Bool, true, false, not, List, [], ◌∷◌, ◌++◌, map, length, drop, take, refl, sym, ap, ◌∙◌, append_assoc, arith, inl, inr}
use Rattle.std.proofs.lemmas.Bool.{cases_Bool, lt-ltb, ltb-true}
use Rattle.std.specs.List.{filter}
use Rattle.std.proofs.lemmas.List.{length-append, length-drop, length-map, take_all}
use Rattle.guid_handles.specs.declared.records.LiveHandle.{LiveHandle}
use Rattle.guid_handles.specs.HandleTables.{HandleTable, numbers}
use Rattle.guid_handles.specs.HandleChanges.{IsHandleTable}
use Rattle.guid_handles.proofs.Filters.{filter_append}
use Rattle.guid_handles.specs.Sorting.{Ascending, place}
use Rattle.guid_handles.proofs.SortedLists.{Falls, after_place, all_map, all_of, filter_same, filter_shorter, map_append}
use Rattle.protocol_notify.specs.declared.notify.Registration.{Registration}
use Rattle.driver_connect.specs.declared.connecting.Pending.{Pending}
use Rattle.driver_connect.specs.Drivers.{Meaning}
use Rattle.driver_connect.specs.Starting.{Progress, site, starts_on}
use Rattle.driver_connect.specs.Connecting.{connected, each_connected, made_after}
use Rattle.driver_connect.specs.Pending.{all_connected, first_last}
use Rattle.driver_connect.specs.GoingOn.{HasMade}
use Rattle.driver_connect.proofs.Idle.{none_made}
use Rattle.driver_connect.proofs.Levels.{connected_none, levels_joined}

-- the last one is connected first
pub last_connected : (ds : List Meaning) (rs : List Registration) (xs : List Pending) (x : Pending) (p : Progress)
    → all_connected ds rs (xs ++ x ∷ []) p ≡ all_connected ds rs xs (connected x.levels (site ds rs x.handle) [] p)
last_connected ds rs [] x p = refl
last_connected ds rs (y ∷ ys) x p = ap (connected y.levels (site ds rs y.handle) []) (last_connected ds rs ys x p)

-- some handles after others are connected before these, in their own order
those_last : (ds : List Meaning) (rs : List Registration) (k : ℕ) (ns : List ℕ) (p : Progress)
    → all_connected ds rs (first_last k ns) p ≡ each_connected k ds rs ns p
those_last ds rs k [] p = refl
those_last ds rs k (n ∷ ns) p =
    last_connected ds rs (first_last k ns) (record { handle = n; levels = k }) p
    ∙ those_last ds rs k ns (connected k (site ds rs n) [] p)

pub those_connected : (ds : List Meaning) (rs : List Registration) (xs : List Pending) (k : ℕ) (ns : List ℕ) (p : Progress)
    → all_connected ds rs (xs ++ first_last k ns) p ≡ all_connected ds rs xs (each_connected k ds rs ns p)
those_connected ds rs [] k ns p = those_last ds rs k ns p
those_connected ds rs (y ∷ ys) k ns p = ap (connected y.levels (site ds rs y.handle) []) (those_connected ds rs ys k ns p)

-- the last of some handles comes first
pub last_first : (k : ℕ) (ns : List ℕ) (n : ℕ) → first_last k (ns ++ n ∷ []) ≡ record { handle = n; levels = k } ∷ first_last k ns
last_first k [] n = refl
last_first k (m ∷ ms) n = ap (λ (xs : List Pending). xs ++ record { handle = m; levels = k } ∷ []) (last_first k ms n)

-- the last of some handles is noted
pub moved_last : (k : ℕ) (xs : List Pending) (ns : List ℕ) (n : ℕ) (ms : List ℕ) → ms ≡ ns ++ n ∷ []
    → (xs ++ record { handle = n; levels = k } ∷ []) ++ first_last k ns ≡ xs ++ first_last k ms
moved_last k xs ns n ms e =
    append_assoc xs (record { handle = n; levels = k } ∷ []) (first_last k ns)
    ∙ ap (λ (ys : List Pending). xs ++ ys) (sym (last_first k ns n) ∙ ap (first_last k) (sym e))

-- ---- a handle has its starts

-- no handles are noted where there is no level below
pub one_alone : (ds : List Meaning) (rs : List Registration) (xs : List Pending) (x : Pending) (named : List ℕ) (p q : Progress)
    → x.levels ≤ 0 → q ≡ (starts_on (site ds rs x.handle) named p).progress
    → all_connected ds rs xs q ≡ all_connected ds rs xs (connected x.levels (site ds rs x.handle) named p)
one_alone ds rs xs x named p q l e = ap (all_connected ds rs xs) (e ∙ connected_none x.levels (site ds rs x.handle) named p l)

-- those made are noted where there is a level below
pub one_and_made : (ds : List Meaning) (rs : List Registration) (xs : List Pending) (x : Pending) (named : List ℕ) (p q : Progress)
    (last : ℕ) (made : List ℕ) (ys : List Pending) → 0 < x.levels → q ≡ (starts_on (site ds rs x.handle) named p).progress
    → last ≡ p.handles.last_number → made ≡ made_after last q.handles → ys ≡ xs ++ first_last (x.levels - 1) made
    → all_connected ds rs ys q ≡ all_connected ds rs xs (connected x.levels (site ds rs x.handle) named p)
one_and_made ds rs xs x named p q last made ys l a b m e =
    ap (λ zs. all_connected ds rs zs q) e ∙ those_connected ds rs xs (x.levels - 1) made q
    ∙ ap (all_connected ds rs xs) (levels_joined x.levels (site ds rs x.handle) named p q (each_connected (x.levels - 1) ds rs made q) last made l a b m refl)

-- a number above one that is above the last is too
late : (last m n : ℕ) → m < n → not (nat_lt last m) ≡ false → not (nat_lt last n) ≡ false
late last m n l h = elim (cases_Bool (nat_lt last m)) [
  | inl t ↦ let k : nat_lt last n ≡ true = lt-ltb last n (omega (arith, l, ltb-true last m t)) in rw k refl
  | inr f ↦ let w : true ≡ false = rw f at h in cc
]

-- once a number is above the last one those after it are
pub numbers_fall : (last : ℕ) (ns : List ℕ) → Ascending (λ a b. a < b) ns → Falls (λ n. not (nat_lt last n)) ns
numbers_fall last [] a = tt
numbers_fall last (n ∷ ns) a = (λ h. all_map (λ m. n < m) (λ m. not (nat_lt last m) ≡ false) (λ m l. late last n m l h) ns a.0, numbers_fall last ns a.1)

-- the handles made are those after the ones up to the last number
pub made_later : (last : ℕ) (t : HandleTable) (ns : List ℕ) (at : ℕ) → IsHandleTable t → ns ≡ numbers t → at ≡ place (λ n. not (nat_lt last n)) ns → take (length ns - at) (drop at ns) ≡ made_after last t
made_later last t ns at h e k =
    take_all (length ns - at) (drop at ns) (omega (arith, length-drop at ns))
    ∙ rw (k, e)
    (after_place (λ n. not (nat_lt last n)) (numbers t) (numbers_fall last (numbers t) h.ascending)
    ∙ filter_same (λ n. not (not (nat_lt last n))) (λ n. nat_lt last n) (numbers t) (all_of (λ n. not (not (nat_lt last n)) ≡ nat_lt last n) (λ n. twice (nat_lt last n)) (numbers t)))
  where
    twice : (b : Bool) → not (not b) ≡ b
    twice true = refl
    twice false = refl

-- no more handles are noted than were made
pub few_made : (t u : HandleTable) → IsHandleTable t → HasMade t u → length (made_after t.last_number u) + length t.handles ≤ length u.handles
few_made t u h m =
    let p : ℕ → Bool = λ (n : ℕ). nat_lt t.last_number n in
    let number : LiveHandle → ℕ = λ (x : LiveHandle). x.number in
    let those : made_after t.last_number u ≡ filter p (map number m.made)
    = ap (λ (xs : List LiveHandle). filter p (map number xs)) m.handles ∙ ap (filter p) (map_append number t.handles m.made) ∙ filter_append p (numbers t) (map number m.made)
    ∙ ap (λ ns. ns ++ filter p (map number m.made)) (none_made t h) in
    let long : length u.handles ≡ length t.handles + length m.made = ap length m.handles ∙ length-append t.handles m.made in
    rw those (omega (arith, long, filter_shorter p (map number m.made), length-map m.made number))

pub length_noted : (k : ℕ) (ns : List ℕ) → length (first_last k ns) ≡ length ns
length_noted k [] = refl
length_noted k (n ∷ ns) = length-append (first_last k ns) (record { handle = n; levels = k } ∷ []) ∙ omega (arith, length_noted k ns)

-- what is still to be connected grows by no more than the handles
pub few_noted : (k last : ℕ) (xs ys : List Pending) (made : List ℕ) (t u : HandleTable) → IsHandleTable t → HasMade t u → last ≡ t.last_number → made ≡ made_after last u
    → ys ≡ xs ++ first_last k made → length ys + length t.handles ≤ length xs + length u.handles
few_noted k last xs ys made t u h m a b e =
    let few = few_made t u h m in
    let those : length made ≡ length (made_after t.last_number u) = ap length (rw a at b) in
    rw e (omega (arith, length-append xs (first_last k made), length_noted k made, those, few))
