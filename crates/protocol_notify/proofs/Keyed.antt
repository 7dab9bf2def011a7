-- Registrations whose keys count up: which one a key finds, and what keeps them so.
use Rattle.std.proofs.Math.ListN.{set}
use Rattle.std.proofs.Common.{◌≡◌, ℕ, zero, suc, ◌+◌, ◌<◌, ◌≤◌, ◌==◌, Bool, true, false, if◌then◌else◌, List, [], ◌∷◌, ◌++◌, map, get_or, length, ◌⊎◌, Option, Some, None, inl, inr, refl, sym, ap, ◌∙◌, arith, subst}
use Rattle.std.specs.List.{find, slice_get}
use Rattle.std.proofs.lemmas.Bool.{cases_Bool, eq-eqb, eqb-true, ne_eqb}
use Rattle.guid_handles.specs.HandleTables.{HandleTable}
use Rattle.protocol_notify.specs.declared.notify.Registration.{Registration}
use Rattle.protocol_notify.specs.Registrations.{AreKeyedFrom, has_key, marked_at, next_for, next_of, taken}

-- ---- finding

keyed_found : (n : ℕ) (rs : List Registration) (k : ℕ) → AreKeyedFrom n rs → find (has_key (n + k)) rs ≡ slice_get rs k
keyed_found n [] k h = refl
keyed_found n (r ∷ rs) zero h = let t : (r.key == n + 0) ≡ true = eq-eqb r.key (n + 0) (omega (arith, h.0)) in rw t refl
keyed_found n (r ∷ rs) (suc k) h =
    let f : (r.key == n + suc k) ≡ false = ne_eqb r.key (n + suc k) (λ e. omega (arith, e, h.0)) in
    let same : suc n + k ≡ n + suc k = omega arith in
    rw f (subst (λ m. find (has_key m) rs ≡ slice_get rs k) same (keyed_found (suc n) rs k h.1))

none_below : (n key : ℕ) (rs : List Registration) → key < n → AreKeyedFrom n rs → find (has_key key) rs ≡ None
none_below n key [] l h = refl
none_below n key (r ∷ rs) l h =
    let f : (r.key == key) ≡ false = ne_eqb r.key key (λ e. omega (arith, e, l, h.0)) in
    rw f (none_below (suc n) key rs (omega (arith, l)) h.1)

pub found_at : (rs : List Registration) (key at : ℕ) → AreKeyedFrom 1 rs → key ≡ 1 + at → find (has_key key) rs ≡ slice_get rs at
found_at rs key at h e = subst (λ m. find (has_key m) rs ≡ slice_get rs at) (sym e) (keyed_found 1 rs at h)

pub none_at_zero : (rs : List Registration) (key : ℕ) → AreKeyedFrom 1 rs → key ≡ 0 → find (has_key key) rs ≡ None
none_at_zero rs key h e = none_below 1 key rs (omega (arith, e)) h

-- ---- marking

untaken_below : (t : HandleTable) (n key : ℕ) (rs : List Registration) → key < n → AreKeyedFrom n rs → map (taken t key) rs ≡ rs
untaken_below t n key [] l h = refl
untaken_below t n key (r ∷ rs) l h =
    let f : (r.key == key) ≡ false = ne_eqb r.key key (λ e. omega (arith, e, l, h.0)) in
    rw f (ap (λ x. r ∷ x) (untaken_below t (suc n) key rs (omega (arith, l)) h.1))

unmarked_below : (n key stamp : ℕ) (rs : List Registration) → key < n → AreKeyedFrom n rs → map (marked_at key stamp) rs ≡ rs
unmarked_below n key stamp [] l h = refl
unmarked_below n key stamp (r ∷ rs) l h =
    let f : (r.key == key) ≡ false = ne_eqb r.key key (λ e. omega (arith, e, l, h.0)) in
    rw f (ap (λ x. r ∷ x) (unmarked_below (suc n) key stamp rs (omega (arith, l)) h.1))

unmarked_above : (n key stamp : ℕ) (rs : List Registration) → n + length rs ≤ key → AreKeyedFrom n rs → map (marked_at key stamp) rs ≡ rs
unmarked_above n key stamp [] l h = refl
unmarked_above n key stamp (r ∷ rs) l h =
    let f : (r.key == key) ≡ false = ne_eqb r.key key (λ e. omega (arith, e, h.0, l)) in
    rw f (ap (λ x. r ∷ x) (unmarked_above (suc n) key stamp rs (omega (arith, l)) h.1))

marked_one : (n stamp : ℕ) (rs : List Registration) (k : ℕ) (x : Registration) → AreKeyedFrom n rs → k < length rs → x ≡ get_or rs k x → set rs k (record x { mark = stamp }) ≡ map (marked_at (n + k) stamp) rs
marked_one n stamp [] k x h l e = absurd (omega (arith, l))
marked_one n stamp (r ∷ rs) zero x h l e =
    let y : (r.key == n + 0) ≡ true = eq-eqb r.key (n + 0) (omega (arith, h.0)) in
    rw y (rw e (ap (λ q. record r { mark = stamp } ∷ q) (sym (unmarked_below (suc n) (n + 0) stamp rs (omega arith) h.1))))
marked_one n stamp (r ∷ rs) (suc k) x h l e =
    let f : (r.key == n + suc k) ≡ false = ne_eqb r.key (n + suc k) (λ w. omega (arith, w, h.0)) in
    let same : suc n + k ≡ n + suc k = omega arith in
    rw f (ap (λ q. r ∷ q) (subst (λ m. set rs k (record x { mark = stamp }) ≡ map (marked_at m stamp) rs) same (marked_one (suc n) stamp rs k x h.1 (omega (arith, l)) e)))

pub marked_place : (rs : List Registration) (key stamp at : ℕ) (x : Registration) → AreKeyedFrom 1 rs → key ≡ 1 + at → at < length rs → x ≡ get_or rs at x
    → set rs at (record x { mark = stamp }) ≡ map (marked_at key stamp) rs
marked_place rs key stamp at x h e l g = subst (λ m. set rs at (record x { mark = stamp }) ≡ map (marked_at m stamp) rs) (sym e) (marked_one 1 stamp rs at x h l g)

pub marked_none : (rs : List Registration) (key stamp : ℕ) → AreKeyedFrom 1 rs → (key ≡ 0) ⊎ (length rs < key) → rs ≡ map (marked_at key stamp) rs
marked_none rs key stamp h (inl e) = sym (unmarked_below 1 key stamp rs (omega (arith, e)) h)
marked_none rs key stamp h (inr l) = sym (unmarked_above 1 key stamp rs (omega (arith, l)) h)

-- a registration that is marked with the stamp of what is next for it has taken that
taken_from : (t : HandleTable) (n key : ℕ) (rs : List Registration) (turn : ℕ × ℕ) → AreKeyedFrom n rs → next_for t rs key ≡ Some turn → map (marked_at key turn.1) rs ≡ map (taken t key) rs
taken_from t n key [] turn h e = absurd cc
taken_from t n key (r ∷ rs) turn h e = elim (cases_Bool (has_key key r)) [
  | inl y ↦
      let k : next_of t r ≡ Some turn = rw y at e in
      let own : key < suc n = omega (arith, h.0, eqb-true r.key key y) in
      rw y (rw k (ap (λ q. record r { mark = turn.1 } ∷ q) (unmarked_below (suc n) key turn.1 rs own h.1 ∙ sym (untaken_below t (suc n) key rs own h.1))))
  | inr f ↦ rw f (ap (λ q. r ∷ q) (taken_from t (suc n) key rs turn h.1 (rw f at e)))
]

pub taken_marked : (t : HandleTable) (key : ℕ) (rs : List Registration) (turn : ℕ × ℕ) → AreKeyedFrom 1 rs → next_for t rs key ≡ Some turn → map (marked_at key turn.1) rs ≡ map (taken t key) rs
taken_marked t key rs turn h e = taken_from t 1 key rs turn h e

-- ---- what keeps the keys

marked_key : (key stamp : ℕ) (r : Registration) → (marked_at key stamp r).key ≡ r.key
marked_key key stamp r = elim (cases_Bool (has_key key r)) [
  | inl y ↦ rw y refl
  | inr f ↦ rw f refl
]

pub keyed_marked : (key stamp n : ℕ) (rs : List Registration) → AreKeyedFrom n rs → AreKeyedFrom n (map (marked_at key stamp) rs)
keyed_marked key stamp n [] h = tt
keyed_marked key stamp n (r ∷ rs) h = (marked_key key stamp r ∙ h.0, keyed_marked key stamp (suc n) rs h.1)

keyed_push : (n : ℕ) (rs : List Registration) (r : Registration) → AreKeyedFrom n rs → r.key ≡ n + length rs → AreKeyedFrom n (rs ++ r ∷ [])
keyed_push n [] r h e = (omega (arith, e), tt)
keyed_push n (q ∷ rs) r h e = (h.0, keyed_push (suc n) rs r h.1 (omega (arith, e)))

-- whether there was memory for one more or not
pub keyed_push_if : (b : Bool) (n : ℕ) (rs : List Registration) (r : Registration) → AreKeyedFrom n rs → r.key ≡ n + length rs → AreKeyedFrom n (if b then (rs ++ r ∷ []) else rs)
keyed_push_if true n rs r h e = keyed_push n rs r h e
keyed_push_if false n rs r h e = h
