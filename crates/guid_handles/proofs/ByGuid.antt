-- The stamps in groups, in step with all interfaces, once one comes, goes or takes another stamp.
use Rattle.std.proofs.Common.{◌≡◌, ℕ, ◌==◌, ◌&&◌, not, Bool, true, false, List, [], ◌∷◌, ◌++◌, map, Option, Some, None, inl, inr, refl, sym, ap, ◌∙◌}
use Rattle.std.specs.List.{filter, find, AllByRecursion}
use Rattle.std.specs.Option.{option_map}
use Rattle.std.proofs.lemmas.Bool.{cases_Bool, and_parts}
use Rattle.std.proofs.lemmas.Option.{same_Some}
use Rattle.guid_handles.specs.declared.records.Interface.{Interface}
use Rattle.guid_handles.specs.HandleTables.{same_guid, is_at}
use Rattle.guid_handles.specs.HandleChanges.{restamped}
use Rattle.guid_handles.specs.Sorting.{Ascending}
use Rattle.guid_handles.specs.Indexes.{Group, SetsStamp, stamp_at}
use Rattle.guid_handles.specs.Stores.{AreApart, HaveStamps}
use Rattle.guid_handles.proofs.SortedLists.{find_filter, find_map, find_push_new, find_push_other}
use Rattle.guid_handles.proofs.GuidOrder.{same_guid-true}
use Rattle.guid_handles.proofs.Indexed.{at_handle, at_guid, restamped_handle, restamped_guid}
use Rattle.guid_handles.proofs.Grouped.{is_same}
use Rattle.guid_handles.proofs.Filed.{at_other}

-- one more
pub stamps_more : (is : List Interface) (groups gs : List Group) (i : Interface) → find (is_at i.handle i.guid) is ≡ None → SetsStamp i.guid i.handle (Some i.stamp) groups gs → HaveStamps is groups → HaveStamps (is ++ i ∷ []) gs
stamps_more is groups gs i absent c h guid n = elim (cases_Bool (is_at n guid i)) [
  | inl t ↦
      let none : find (is_at n guid) is ≡ None = rw (← at_handle n guid i t) (rw (← at_guid n guid i t) absent) in
      let new : stamp_at gs guid n ≡ Some i.stamp = rw t at (c guid n) in
      new ∙ sym (ap (option_map (λ (x : Interface). x.stamp)) (find_push_new (is_at n guid) is i t none))
  | inr f ↦
      let new : stamp_at gs guid n ≡ stamp_at groups guid n = rw f at (c guid n) in
      new ∙ h guid n ∙ sym (ap (option_map (λ (x : Interface). x.stamp)) (find_push_other (is_at n guid) is i f))
]

-- one less
pub stamps_less : (is : List Interface) (groups gs : List Group) (n : ℕ) (guid : List ℕ) → SetsStamp guid n None groups gs → HaveStamps is groups → HaveStamps (filter (λ i. not (is_at n guid i)) is) gs
stamps_less is groups gs n guid c h k m =
    let p : Interface → Bool = λ i. not (is_at n guid i) in
    elim (cases_Bool ((n == m) && same_guid guid k)) [
      | inl t ↦
          let parts = and_parts (n == m) (same_guid guid k) t in
          let new : stamp_at gs k m ≡ None = rw t at (c k m) in
          new ∙ sym (ap (option_map (λ (x : Interface). x.stamp)) (find_filter (is_at m k) p false (λ x e. let own : is_at n guid x ≡ true = rw (is_same n m parts.0, same_guid-true guid k parts.1) e in ap not own) is))
      | inr f ↦
          let new : stamp_at gs k m ≡ stamp_at groups k m = rw f at (c k m) in
          new ∙ h k m ∙ sym (ap (option_map (λ (x : Interface). x.stamp)) (find_filter (is_at m k) p true (λ x e. at_other n m guid k x f e) is))
    ]

not_at : (b : Bool) → not b ≡ true → b ≡ false
not_at true h = cc
not_at false h = refl

finds : (p : Interface → Bool) (is : List Interface) (x : Interface) → find p is ≡ Some x → p x ≡ true
finds p [] x e = absurd cc
finds p (i ∷ is) x e = elim (cases_Bool (p i)) [
  | inl t ↦ let s : i ≡ x = same_Some i x (rw t at e) in rw (← s) t
  | inr f ↦ finds p is x (rw f at e)
]

-- one changed
pub stamps_changed : (is : List Interface) (groups gs : List Group) (n : ℕ) (guid : List ℕ) (value to : ℕ) (x : Interface) → find (is_at n guid) is ≡ Some x → SetsStamp guid n (Some to) groups gs → HaveStamps is groups
    → HaveStamps (map (restamped n guid value to) is) gs
stamps_changed is groups gs n guid value to x there c h k m =
    let f : Interface → Interface = restamped n guid value to in
    let mapped : find (is_at m k) (map f is) ≡ option_map f (find (is_at m k) is) =
    find_map (is_at m k) f (λ y. rw (restamped_handle n guid value to y, restamped_guid n guid value to y) refl) is in
    elim (cases_Bool ((n == m) && same_guid guid k)) [
      | inl t ↦
          let parts = and_parts (n == m) (same_guid guid k) t in
          let new : stamp_at gs k m ≡ Some to = rw t at (c k m) in
          let found : find (is_at m k) is ≡ Some x = rw (is_same n m parts.0, same_guid-true guid k parts.1) at there in
          let own : is_at n guid x ≡ true = finds (is_at n guid) is x there in
          let stamp : (f x).stamp ≡ to = rw own refl in
          new ∙ sym (ap (option_map (λ (y : Interface). y.stamp)) (mapped ∙ ap (option_map f) found) ∙ ap (λ s. Some s) stamp)
      | inr o ↦
          let new : stamp_at gs k m ≡ stamp_at groups k m = rw o at (c k m) in
          new ∙ h k m ∙ sym (ap (option_map (λ (y : Interface). y.stamp)) mapped ∙ same n guid value to k m is o (find (is_at m k) is) refl)
    ]
  where
    same : (n : ℕ) (guid : List ℕ) (value to : ℕ) (k : List ℕ) (m : ℕ) (is : List Interface) → ((n == m) && same_guid guid k) ≡ false → (q : Option Interface) → find (is_at m k) is ≡ q
        → option_map (λ (y : Interface). y.stamp) (option_map (restamped n guid value to) q) ≡ option_map (λ (y : Interface). y.stamp) q
    same n guid value to k m is o None e = refl
    same n guid value to k m is o (Some y) e =
        let g : is_at n guid y ≡ false = not_at (is_at n guid y) (at_other n m guid k y o (finds (is_at m k) is y e)) in
        rw g refl

-- with its own value and stamp once more an interface is as it was
pub own_again : (n : ℕ) (guid : List ℕ) (value stamp : ℕ) (x : Interface) (is : List Interface) → Ascending AreApart is → find (is_at n guid) is ≡ Some x
    → map (restamped n guid x.value x.stamp) (map (restamped n guid value stamp) is) ≡ is
own_again n guid value stamp x [] a e = refl
own_again n guid value stamp x (y ∷ ys) a e = elim (cases_Bool (is_at n guid y)) [
  | inl t ↦
      let s : y ≡ x = same_Some y x (rw t at e) in
      rw t (rw t (rw (← s) (ap (λ (is : List Interface). y ∷ is) (none_again ys a.0 t))))
  | inr f ↦ rw f (rw f (ap (λ (is : List Interface). y ∷ is) (own_again n guid value stamp x ys a.1 (rw f at e))))
]
  where
    none_again : (zs : List Interface) → AllByRecursion (AreApart y) zs → is_at n guid y ≡ true
        → map (restamped n guid x.value x.stamp) (map (restamped n guid value stamp) zs) ≡ zs
    none_again [] b t = refl
    none_again (z ∷ zs) b t = elim (cases_Bool (is_at n guid z)) [
      | inl u ↦
          let v : is_at z.handle z.guid y ≡ true = rw (at_handle n guid z u, at_guid n guid z u) t in
          let w : true ≡ false = sym v ∙ b.0.0 in cc
      | inr f ↦ rw f (rw f (ap (λ (is : List Interface). z ∷ is) (none_again zs b.1 t)))
    ]
