-- A connect goes on, and is taken back.
use Rattle.std.proofs.Common.{◌≡◌, ℕ, ◌+◌, ◌<◌, ◌≤◌, ◌==◌, nat_eq, nat_le, Bool, true, false, List, [], ◌∷◌, ◌++◌, Some, length, take, inl, inr, refl, sym, ap, ◌∙◌, append_assoc, append-nil, arith}
use Rattle.std.specs.List.{filter, list_any, AllByRecursion}
use Rattle.std.proofs.lemmas.Bool.{cases_Bool, le-leb, lt-leb}
use Rattle.std.proofs.Math.Seq.{take-append_seam}
use Rattle.guid_handles.specs.declared.records.Interface.{Interface}
use Rattle.guid_handles.specs.declared.records.LiveHandle.{LiveHandle}
use Rattle.guid_handles.specs.declared.records.Pair.{Pair}
use Rattle.guid_handles.specs.HandleTables.{HandleTable, numbers}
use Rattle.guid_handles.specs.HandleChanges.{IsHandleTable, stamped, with_handle, with_interfaces}
use Rattle.guid_handles.specs.TableSteps.{AreOlder, taken_back_to}
use Rattle.guid_handles.proofs.Filters.{filter_append}
use Rattle.guid_handles.proofs.SortedLists.{all_append, all_map, all_numbered, any_member, any_none}
use Rattle.open_agents.specs.declared.items.OpenRecord.{OpenRecord}
use Rattle.open_agents.specs.OpenItems.{is_equal_item, with_item}
use Rattle.open_agents.specs.OpenRule.{has_holder}
use Rattle.driver_connect.specs.GoingOn.{GoesOn, HasMade, HasOpened}
use Rattle.driver_connect.specs.Starting.{Progress, with_child}
use Rattle.driver_connect.proofs.Opened.{none_equal}

-- ---- handles

pub made_none : (t : HandleTable) → HasMade t t
made_none t = record {
  made = [];
  installed = [];
  handles = sym (append-nil t.handles);
  interfaces = sym (append-nil t.interfaces);
  later = tt;
  on_later = tt;
  number = omega arith;
  stamp = omega arith;
}

pub made_further : (s t u : HandleTable) → HasMade s t → HasMade t u → HasMade s u
made_further s t u a b = record {
  made = a.made ++ b.made;
  installed = a.installed ++ b.installed;
  handles = b.handles ∙ ap (λ l. l ++ b.made) a.handles ∙ append_assoc s.handles a.made b.made;
  interfaces = b.interfaces ∙ ap (λ l. l ++ b.installed) a.interfaces ∙ append_assoc s.interfaces a.installed b.installed;
  later = all_append (λ h. s.last_number < h.number) a.made b.made a.later (all_map (λ h. t.last_number < h.number) (λ h. s.last_number < h.number) (λ h l. omega (arith, l, a.number)) b.made b.later);
  on_later = all_append (λ i. s.last_number < i.handle) a.installed b.installed a.on_later
      (all_map (λ i. t.last_number < i.handle) (λ i. s.last_number < i.handle) (λ i l. omega (arith, l, a.number)) b.installed b.on_later);
  number = omega (arith, a.number, b.number);
  stamp = omega (arith, a.stamp, b.stamp);
}

stamped_later : (last n stamp : ℕ) (pairs : List (List ℕ × ℕ)) → last < n → AllByRecursion (λ i. last < i.handle) (stamped n stamp pairs)
stamped_later last n stamp [] l = tt
stamped_later last n stamp (p ∷ ps) l = (l, stamped_later last n (stamp + 1) ps l)

pub made_child : (maker : Pair) (pairs : List (List ℕ × ℕ)) (t : HandleTable) → HasMade t (with_child maker pairs t)
made_child maker pairs t = record {
  made = record { number = t.last_number + 1; maker = Some maker } ∷ [];
  installed = stamped (t.last_number + 1) t.last_stamp pairs;
  handles = refl;
  interfaces = refl;
  later = (omega arith, tt);
  on_later = stamped_later t.last_number (t.last_number + 1) t.last_stamp pairs (omega arith);
  number = omega arith;
  stamp = omega arith;
}

-- the same of the table after a child is made
pub child_made : (maker : Pair) (pairs : List (List ℕ × ℕ)) (t new : HandleTable) (n : ℕ) → (n ≡ t.last_number + 1) × (new ≡ with_interfaces n pairs (with_handle (Some maker) t)) → HasMade t new
child_made maker pairs t new n h = rw (h.1, h.0) (made_child maker pairs t)

pub same_made : (t new : HandleTable) → new ≡ t → HasMade t new
same_made t new e = rw e (made_none t)

-- ---- items

pub opened_none : (opens : List OpenRecord) → HasOpened opens opens
opened_none opens = record { opened = []; items = sym (append-nil opens) }

pub opened_further : (a b c : List OpenRecord) → HasOpened a b → HasOpened b c → HasOpened a c
opened_further a b c x y = record {
  opened = x.opened ++ y.opened;
  items = y.items ∙ ap (λ l. l ++ y.opened) x.items ∙ append_assoc a x.opened y.opened;
}

-- an item on an interface that is not held
pub opened_one : (n : ℕ) (guid : List ℕ) (agent : ℕ) (opens : List OpenRecord) → has_holder opens n guid ≡ false → HasOpened opens (with_item n guid agent n 0x10 opens)
opened_one n guid agent opens h =
    let e : list_any (is_equal_item n guid agent n 0x10) opens ≡ false = any_none (is_equal_item n guid agent n 0x10) opens (none_equal n guid agent opens h) in
    elim (cases_Bool (agent == 0)) [
      | inl z ↦ record { opened = []; items = rw e (rw z (sym (append-nil opens))) }
      | inr z ↦ record { opened = record { handle = n; guid = guid; agent = agent; controller = n; attributes = 0x10; count = 1 } ∷ []; items = rw e (rw z refl) }
    ]

pub same_opened : (a b c : List OpenRecord) → HasOpened a b → c ≡ b → HasOpened a c
same_opened a b c o e = rw e o

-- ---- both

pub goes_nowhere : (p : Progress) → GoesOn p p
goes_nowhere p = record { handles = made_none p.handles; opens = opened_none p.opens }

pub goes_further : (p q r : Progress) → GoesOn p q → GoesOn q r → GoesOn p r
goes_further p q r a b = record {
  handles = made_further p.handles q.handles r.handles a.handles b.handles;
  opens = opened_further p.opens q.opens r.opens a.opens b.opens;
}

pub goes_by : (p q : Progress) → HasMade p.handles q.handles → HasOpened p.opens q.opens → GoesOn p q
goes_by p q m o = record { handles = m; opens = o }

-- ---- taken back

filter_all : {X : Type 0} (p : X → Bool) (xs : List X) → AllByRecursion (λ x. p x ≡ true) xs → filter p xs ≡ xs
filter_all p [] h = refl
filter_all p (x ∷ xs) h = rw h.0 (ap (λ r. x ∷ r) (filter_all p xs h.1))

filter_none : {X : Type 0} (p : X → Bool) (xs : List X) → AllByRecursion (λ x. p x ≡ false) xs → filter p xs ≡ []
filter_none p [] h = refl
filter_none p (x ∷ xs) h = rw h.0 (filter_none p xs h.1)

first_part : {X : Type 0} (p : X → Bool) (xs ys : List X) → AllByRecursion (λ x. p x ≡ true) xs → AllByRecursion (λ x. p x ≡ false) ys → filter p (xs ++ ys) ≡ xs
first_part p xs ys a b = filter_append p xs ys ∙ rw (filter_all p xs a, filter_none p ys b) (append-nil xs)

module _ (old new : HandleTable) (t : IsHandleTable old) (m : HasMade old new) where
  those_handles : filter (λ (h : LiveHandle). nat_le h.number old.last_number) new.handles ≡ old.handles
  those_handles = rw m.handles
      (first_part (λ (h : LiveHandle). nat_le h.number old.last_number) old.handles m.made
      (all_numbered (λ (h : LiveHandle). h.number) (λ n. (0 < n) × (n ≤ old.last_number)) (λ n. nat_le n old.last_number ≡ true) (λ n h. le-leb n old.last_number h.1) old.handles t.given)
      (all_map (λ h. old.last_number < h.number) (λ h. nat_le h.number old.last_number ≡ false) (λ h l. lt-leb h.number old.last_number l) m.made m.later))

  those_interfaces : filter (λ (i : Interface). nat_le i.handle old.last_number) new.interfaces ≡ old.interfaces
  those_interfaces = rw m.interfaces
      (first_part (λ (i : Interface). nat_le i.handle old.last_number) old.interfaces m.installed
      (all_map (λ i. list_any (λ n. nat_eq n i.handle) (numbers old) ≡ true) (λ i. nat_le i.handle old.last_number ≡ true)
      (λ i e. let l : (0 < i.handle) × (i.handle ≤ old.last_number) = any_member i.handle (numbers old) (λ n. (0 < n) × (n ≤ old.last_number)) t.given e in le-leb i.handle old.last_number l.1) old.interfaces t.on_live)
      (all_map (λ i. old.last_number < i.handle) (λ i. nat_le i.handle old.last_number ≡ false) (λ i l. lt-leb i.handle old.last_number l) m.installed m.on_later))

  -- what was made goes, and all is as it was
  pub made_back : taken_back_to old.last_number old.last_stamp new ≡ old
  made_back = rw (those_handles, those_interfaces) refl

  pub those_older : AllByRecursion (λ i. i.stamp ≤ old.last_stamp) old.interfaces → AreOlder old.last_number old.last_stamp new
  those_older a = rw those_interfaces a

pub opened_back : (old new : List OpenRecord) → HasOpened old new → take (length old) new ≡ old
opened_back old new o = rw o.items (take-append_seam old o.opened)
