-- The elements of a list that are left.
use Rattle.std.proofs.Common.{◌≡◌, Bool, true, false, cond, Some, None, List, [], ◌∷◌, ◌++◌, map, refl, sym, ◌∙◌, append_assoc, append-nil}
use Rattle.std.specs.List.{list_all}

module _ {X Y : Type 0} (f : X → Y) (p : X → Bool) (xs : List X) where
  -- the elements from a place on, before which are such as the test passes, and the front is of these
  pub record AreLeft (front : List Y) (left : List X) : Type 0 where
    pub seen : front ++ map f left ≡ map f xs
    pub test : list_all p left ≡ list_all p xs

module _ {X Y : Type 0} (f : X → Y) (p : X → Bool) (xs : List X) where
  pub all_left : AreLeft f p xs [] xs
  all_left = record { seen = refl; test = refl }

  pub one_less : (front : List Y) (x : X) (left : List X) → p x ≡ true → AreLeft f p xs front (x ∷ left) → AreLeft f p xs (front ++ f x ∷ []) left
  one_less front x left e a = record { seen = append_assoc front (f x ∷ []) (map f left) ∙ a.seen; test = rw e at a.test }

  pub refused : (front : List Y) (x : X) (left : List X) → p x ≡ false → AreLeft f p xs front (x ∷ left) → list_all p xs ≡ false
  refused front x left e a = sym a.test ∙ rw e refl

  pub none_left : (front : List Y) → AreLeft f p xs front [] → (list_all p xs ≡ true) × (front ≡ map f xs)
  none_left front a = (sym a.test, sym (append-nil front) ∙ a.seen)

-- ---- an element that the test passes

pub passed : {X : Type 0} (b : Bool) (x : X) (y : X) → Some y ≡ cond b (Some x) None → (b ≡ true) × (y ≡ x)
passed true x y e = (refl, cc)
passed false x y e = absurd (cc)

pub not_passed : {X : Type 0} (b : Bool) (x : X) → None ≡ cond b (Some x) None → b ≡ false
not_passed true x e = absurd (cc)
not_passed false x e = refl
