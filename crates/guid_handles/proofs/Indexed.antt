-- Interfaces by handle and GUID, and pairs of GUID and value.
use Rattle.std.proofs.Common.{◌≡◌, ℕ, ◌==◌, Bool, true, false, List, [], ◌∷◌, inl, inr, refl, sym, ◌∙◌}
use Rattle.std.specs.List.{list_any, AllByRecursion}
use Rattle.std.proofs.lemmas.Bool.{cases_Bool}
use Rattle.std.proofs.lemmas.Bool.Decides.{eqb_tells}
use Rattle.guid_handles.specs.declared.records.Interface.{Interface}
use Rattle.guid_handles.specs.HandleTables.{same_guid, is_at}
use Rattle.guid_handles.specs.HandleChanges.{restamped, has_guid_twice}
use Rattle.guid_handles.proofs.GuidOrder.{same_guid-true}

-- ---- keys

pub at_handle : (n : ℕ) (guid : List ℕ) (i : Interface) → is_at n guid i ≡ true → i.handle ≡ n
at_handle n guid i h = elim (eqb_tells i.handle n) [
  | inl t ↦ t.1
  | inr f ↦ let e = rw f.0 at h in cc
]

pub at_guid : (n : ℕ) (guid : List ℕ) (i : Interface) → is_at n guid i ≡ true → i.guid ≡ guid
at_guid n guid i h = elim (eqb_tells i.handle n) [
  | inl t ↦ same_guid-true i.guid guid (rw t.0 at h)
  | inr f ↦ let e = rw f.0 at h in cc
]

-- ---- pairs

none_any : {X : Type 0} (p : X → Bool) (xs : List X) → list_any p xs ≡ false → AllByRecursion (λ x. p x ≡ false) xs
none_any p [] h = tt
none_any p (x ∷ xs) h = elim (cases_Bool (p x)) [
  | inl e ↦ let n = rw e at h in cc
  | inr e ↦ (e, none_any p xs (rw e at h))
]

-- the first of some pairs has a GUID of its own
abbrev pub IsFirstOfGuid : List ℕ × ℕ → List (List ℕ × ℕ) → Type 0
IsFirstOfGuid p ps = AllByRecursion (λ q. same_guid p.0 q.0 ≡ false) ps × (has_guid_twice ps ≡ false)

pub first_of_guid : (p : List ℕ × ℕ) (ps : List (List ℕ × ℕ)) → has_guid_twice (p ∷ ps) ≡ false → IsFirstOfGuid p ps
first_of_guid p ps h = elim (cases_Bool (list_any (λ q. same_guid p.0 q.0) ps)) [
  | inl e ↦ let k = rw e at h in cc
  | inr e ↦ (none_any (λ q. same_guid p.0 q.0) ps e, rw e at h)
]

-- ---- either way round

pub turned : (m n : ℕ) → (m == n) ≡ (n == m)
turned m n = elim (eqb_tells m n) [
  | inl t ↦ rw t.1 refl
  | inr f ↦ elim (eqb_tells n m) [
    | inl t ↦ absurd (f.1 (sym t.1))
    | inr g ↦ f.0 ∙ sym g.0
  ]
]

pub guid_turned : (a b : List ℕ) → same_guid a b ≡ same_guid b a
guid_turned a b = elim (cases_Bool (same_guid a b)) [
  | inl t ↦ rw (same_guid-true a b t) refl
  | inr f ↦ elim (cases_Bool (same_guid b a)) [
    | inl t ↦ rw (same_guid-true b a t) refl
    | inr g ↦ f ∙ sym g
  ]
]

-- ---- changed

pub restamped_handle : (n : ℕ) (guid : List ℕ) (value stamp : ℕ) (i : Interface) → (restamped n guid value stamp i).handle ≡ i.handle
restamped_handle n guid value stamp i = elim (cases_Bool (is_at n guid i)) [
  | inl e ↦ rw e refl
  | inr e ↦ rw e refl
]

pub restamped_guid : (n : ℕ) (guid : List ℕ) (value stamp : ℕ) (i : Interface) → (restamped n guid value stamp i).guid ≡ i.guid
restamped_guid n guid value stamp i = elim (cases_Bool (is_at n guid i)) [
  | inl e ↦ rw e refl
  | inr e ↦ rw e refl
]
