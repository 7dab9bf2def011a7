-- The interfaces in slots in order of installation, once one slot has changed.
use Rattle.std.proofs.Common.{add-one, ◌≡◌, ◌≢◌, ℕ, zero, suc, ◌+◌, ◌≤◌, ◌==◌, Bool, true, false, List, [], ◌∷◌, ◌++◌, map, Option, Some, None, inl, inr, refl, sym, ap, ◌∙◌, arith}
use Rattle.std.specs.List.{filter}
use Rattle.std.proofs.lemmas.Bool.{cases_Bool, cases_eq, eq-eqb, ne_eqb}
use Rattle.std.proofs.lemmas.Option.{same_Some}
use Rattle.guid_handles.specs.declared.records.Interface.{Interface}
use Rattle.guid_handles.specs.declared.records.Record.{Record}
use Rattle.guid_handles.specs.Slots.{record_at, picked, installed_with, installed_until}
use Rattle.guid_handles.proofs.SortedLists.{map_append}
use Rattle.guid_handles.proofs.Filters.{filter_append}

-- ---- pointwise

-- a change of lists that goes item by item
pub record GoesByItems (f : List Interface → List Interface) : Type 0 where
  pub nil : f [] ≡ []
  pub append : (xs ys : List Interface) → f (xs ++ ys) ≡ f xs ++ f ys

with_through : (f : List Interface → List Interface) → GoesByItems f → (order : ℕ) (old new : List (Option Record))
    → ((j : ℕ) → picked order (record_at new j) ≡ f (picked order (record_at old j))) → installed_with order new ≡ f (installed_with order old)
with_through f s order [] [] h = sym s.nil
with_through f s order (o ∷ os) [] h =
    let e : f (picked order o) ≡ [] = sym (h 0) in
    rw (s.append (picked order o) (installed_with order os)) (rw e (with_through f s order os [] (λ j. h (suc j))))
with_through f s order [] (p ∷ ps) h =
    let e : picked order p ≡ [] = h 0 ∙ s.nil in
    rw e (with_through f s order [] ps (λ j. h (suc j)))
with_through f s order (o ∷ os) (p ∷ ps) h =
    let e : picked order p ≡ f (picked order o) = h 0 in
    rw (s.append (picked order o) (installed_with order os)) (rw e (ap (λ r. f (picked order o) ++ r) (with_through f s order os ps (λ j. h (suc j)))))

until_through : (f : List Interface → List Interface) → GoesByItems f → (last : ℕ) (old new : List (Option Record))
    → ((order j : ℕ) → order ≤ last → picked order (record_at new j) ≡ f (picked order (record_at old j))) → installed_until last new ≡ f (installed_until last old)
until_through f s zero old new h = sym s.nil
until_through f s (suc last) old new h =
    rw (s.append (installed_until last old) (installed_with (suc last) old))
    (rw (until_through f s last old new (λ order j l. h order j (omega (arith, l))))
    (rw (with_through f s (suc last) old new (λ j. h (suc last) j (omega arith))) refl))

with_none : (order : ℕ) (slots : List (Option Record)) → ((j : ℕ) → picked order (record_at slots j) ≡ []) → installed_with order slots ≡ []
with_none order [] h = refl
with_none order (o ∷ os) h = let e : picked order o ≡ [] = h 0 in rw e (with_none order os (λ j. h (suc j)))

with_one : (order : ℕ) (slots : List (Option Record)) (key : ℕ) (i : Interface) → picked order (record_at slots key) ≡ i ∷ [] → ((j : ℕ) → j ≢ key → picked order (record_at slots j) ≡ [])
    → installed_with order slots ≡ i ∷ []
with_one order [] key i h others = absurd cc
with_one order (o ∷ os) zero i h others =
    let e : picked order o ≡ i ∷ [] = h in
    rw e (ap (λ r. i ∷ r) (with_none order os (λ j. others (suc j) (λ w. omega (arith, w)))))
with_one order (o ∷ os) (suc key) i h others =
    let e : picked order o ≡ [] = others 0 (λ w. omega (arith, w)) in
    rw e (with_one order os key i h (λ j d. others (suc j) (λ w. d (omega (arith, w)))))

-- ---- one slot

unpicked : (order : ℕ) (o : Option Record) → ((r : Record) → o ≡ Some r → r.installed ≢ order) → picked order o ≡ []
unpicked order None h = refl
unpicked order (Some r) h = let f : (r.installed == order) ≡ false = ne_eqb r.installed order (h r refl) in rw f refl

picked_gone : (q : Interface → Bool) (order : ℕ) (o : Option Record) → ((r : Record) → o ≡ Some r → q r.interface ≡ false) → [] ≡ filter q (picked order o)
picked_gone q order None h = refl
picked_gone q order (Some r) h = elim (cases_Bool (r.installed == order)) [
  | inl t ↦ rw t (rw (h r refl) refl)
  | inr f ↦ rw f refl
]

picked_kept : (q : Interface → Bool) (order : ℕ) (o : Option Record) → ((r : Record) → o ≡ Some r → q r.interface ≡ true) → picked order o ≡ filter q (picked order o)
picked_kept q order None h = refl
picked_kept q order (Some r) h = elim (cases_Bool (r.installed == order)) [
  | inl t ↦ rw t (rw (h r refl) refl)
  | inr f ↦ rw f refl
]

-- the number of the installation and the interface, changed
abbrev pub tagged : (Interface → Interface) → Option Record → Option (ℕ × Interface)
tagged f None = None
tagged f (Some r) = Some (r.installed, f r.interface)

tag_parts : (p q : ℕ × Interface) → Some p ≡ Some q → (p.0 ≡ q.0) × (p.1 ≡ q.1)
tag_parts p q e = (ap (λ t. t.0) (same_Some p q e), ap (λ t. t.1) (same_Some p q e))

picked_changed : (f : Interface → Interface) (order : ℕ) (o new : Option Record) → tagged f o ≡ tagged (λ i. i) new
    → picked order new ≡ map f (picked order o)
picked_changed f order None None e = refl
picked_changed f order None (Some r) e = absurd cc
picked_changed f order (Some r) None e = absurd cc
picked_changed f order (Some r) (Some s) e =
    let both = tag_parts (r.installed, f r.interface) (s.installed, s.interface) e in
    elim (cases_Bool (r.installed == order)) [
      | inl t ↦ rw (← both.0) (rw t (rw both.1 refl))
      | inr n ↦ rw (← both.0) (rw n refl)
    ]

-- ---- changes

-- no interface was installed later
abbrev pub AreBelow : ℕ → List (Option Record) → Type 0
AreBelow last slots = (j : ℕ) (r : Record) → record_at slots j ≡ Some r → r.installed ≤ last

-- an interface comes into an empty slot
pub until_more : (last key : ℕ) (old new : List (Option Record)) (r : Record) → AreBelow last old → r.installed ≡ last + 1 → record_at old key ≡ None → record_at new key ≡ Some r
    → ((j : ℕ) → j ≢ key → record_at new j ≡ record_at old j) → installed_until (last + 1) new ≡ installed_until last old ++ r.interface ∷ []
until_more last key old new r b fresh none there others =
    let earlier : installed_until last new ≡ installed_until last old = until_through (λ is. is) (record { nil = refl; append = λ xs ys. refl }) last old new
    (λ order j l. elim (cases_eq j key) [
      | inl e ↦ rw e (rw (none, there) (unpicked order (Some r) (λ s w d. let same : r ≡ s = cc in omega (arith, l, fresh, d, ap (λ (x : Record). x.installed) same))))
      | inr d ↦ ap (picked order) (others j d)
    ]) in
    let now : (r.installed == suc last) ≡ true = eq-eqb r.installed (suc last) (omega (arith, fresh)) in
    let one : installed_with (suc last) new ≡ r.interface ∷ [] = with_one (suc last) new key r.interface (rw there (rw now refl))
    (λ j d. rw (others j d) (unpicked (suc last) (record_at old j) (λ s e w. omega (arith, b j s e, w)))) in
    rw add-one (rw (earlier, one) refl)

-- the interfaces that fail a test go with a slot
pub until_less : (q : Interface → Bool) (last key : ℕ) (old new : List (Option Record)) → ((r : Record) → record_at old key ≡ Some r → q r.interface ≡ false)
    → ((j : ℕ) (r : Record) → j ≢ key → record_at old j ≡ Some r → q r.interface ≡ true) → record_at new key ≡ None → ((j : ℕ) → j ≢ key → record_at new j ≡ record_at old j)
    → installed_until last new ≡ filter q (installed_until last old)
until_less q last key old new own rest none others =
    until_through (filter q) (record { nil = refl; append = filter_append q }) last old new
    (λ order j l. elim (cases_eq j key) [
      | inl e ↦ rw e (rw none (picked_gone q order (record_at old key) own))
      | inr d ↦ rw (others j d) (picked_kept q order (record_at old j) (λ r. rest j r d))
    ])

-- the interface in a slot changes
pub until_changed : (f : Interface → Interface) (last key : ℕ) (old new : List (Option Record))
    → tagged f (record_at old key) ≡ tagged (λ i. i) (record_at new key)
    → ((j : ℕ) (r : Record) → j ≢ key → record_at old j ≡ Some r → f r.interface ≡ r.interface) → ((j : ℕ) → j ≢ key → record_at new j ≡ record_at old j)
    → installed_until last new ≡ map f (installed_until last old)
until_changed f last key old new own rest others =
    until_through (map f) (record { nil = refl; append = map_append f }) last old new
    (λ order j l. elim (cases_eq j key) [
      | inl e ↦ rw e (picked_changed f order (record_at old key) (record_at new key) own)
      | inr d ↦ rw (others j d) (picked_changed f order (record_at old j) (record_at old j) (unchanged f (record_at old j) (λ r. rest j r d)))
    ])
  where
    unchanged : (f : Interface → Interface) (o : Option Record) → ((r : Record) → o ≡ Some r → f r.interface ≡ r.interface)
        → tagged f o ≡ tagged (λ i. i) o
    unchanged f None h = refl
    unchanged f (Some r) h = rw (h r refl) refl
