-- A page by its number, and the page just below a number.
use Rattle.std.proofs.Common.{◌≡◌, ◌≢◌, ℕ, zero, suc, ◌+◌, ◌-◌, ◌<◌, ◌≤◌, List, [], ◌∷◌, ◌++◌, map, Some, None, inl, inr, refl, sym, ap, subst, ◌∙◌, arith}
use Rattle.std.specs.List.{AllByRecursion}
use Rattle.std.specs.Option.{option_map}
use Rattle.std.proofs.lemmas.Bool.{ne_eqb, eq-eqb, cases_eq}
use Rattle.std.proofs.lemmas.Option.{same_Some}
use Rattle.page_ranges.specs.Memory.{Page, page_at, page_below, IsAscending}

-- each page has the number k or a higher one
abbrev pub AllFrom : ℕ → List Page → Type 0
AllFrom k m = AllByRecursion (λ y. k ≤ y.number) m

pub AllFrom-lower : (j k : ℕ) (m : List Page) → j ≤ k → AllFrom k m → AllFrom j m
AllFrom-lower j k [] h a = tt
AllFrom-lower j k (x ∷ m) h a = (omega (arith, a.0), AllFrom-lower j k m h a.1)

-- ---- the lookup of a number

pub page_at-hit : (x : Page) (m : List Page) (k : ℕ) → x.number ≡ k → page_at (x ∷ m) k ≡ Some x
page_at-hit x m k e = rw (eq-eqb x.number k e)

pub page_at-miss : (x : Page) (m : List Page) (k : ℕ) → x.number ≢ k → page_at (x ∷ m) k ≡ page_at m k
page_at-miss x m k n = rw (ne_eqb x.number k n)

pub page_at-absent : (m : List Page) (k : ℕ) → AllFrom (suc k) m → page_at m k ≡ None
page_at-absent [] k a = refl
page_at-absent (x ∷ m) k a = page_at-miss x m k (omega (arith, a.0)) ∙ page_at-absent m k a.1

pub page_below-absent : (m : List Page) (k : ℕ) → AllFrom k m → page_below m k ≡ None
page_below-absent m zero a = refl
page_below-absent m (suc k) a = page_at-absent m k a

pub page_below-hit : (x : Page) (m : List Page) (k : ℕ) → x.number + 1 ≡ k → page_below (x ∷ m) k ≡ Some x
page_below-hit x m zero e = absurd (omega arith)
page_below-hit x m (suc k) e = page_at-hit x m k (omega arith)

pub page_below-miss : (x : Page) (m : List Page) (k : ℕ) → x.number + 1 ≢ k → page_below (x ∷ m) k ≡ page_below m k
page_below-miss x m zero n = refl
page_below-miss x m (suc k) n = page_at-miss x m k (omega arith)

pub page_below-page_at : (m : List Page) (k : ℕ) → 0 < k → page_below m k ≡ page_at m (k - 1)
page_below-page_at m k h = let e : k ≡ suc (k - 1) = omega arith in ap (page_below m) e

-- ---- what a found page is

pub page_at-number : (m : List Page) (k : ℕ) (x : Page) → page_at m k ≡ Some x → x.number ≡ k
page_at-number [] k x e = cc
page_at-number (y ∷ m) k x e = elim (cases_eq y.number k) [
  | inl h ↦ ap (λ z. z.number) (sym (same_Some y x (sym (page_at-hit y m k h) ∙ e))) ∙ h
  | inr n ↦ page_at-number m k x (sym (page_at-miss y m k n) ∙ e)
]

pub page_below-number : (m : List Page) (k : ℕ) (x : Page) → page_below m k ≡ Some x → x.number + 1 ≡ k
page_below-number m zero x e = cc
page_below-number m (suc k) x e = omega (arith, page_at-number m k x e)

-- what holds of all pages holds of a found one
pub page_at-all : (P : Page → Type 0) (m : List Page) (k : ℕ) (x : Page) → AllByRecursion P m → page_at m k ≡ Some x → P x
page_at-all P [] k x a e = cc
page_at-all P (y ∷ m) k x a e = elim (cases_eq y.number k) [
  | inl h ↦ subst P (same_Some y x (sym (page_at-hit y m k h) ∙ e)) a.0
  | inr n ↦ page_at-all P m k x a.1 (sym (page_at-miss y m k n) ∙ e)
]

found_above : (x : Page) (m zs : List Page) → AllFrom (suc x.number) zs → AllByRecursion (λ z. page_at m z.number ≡ Some z) zs → AllByRecursion (λ z. page_at (x ∷ m) z.number ≡ Some z) zs
found_above x m [] a f = tt
found_above x m (z ∷ zs) a f = (page_at-miss x m z.number (omega (arith, a.0)) ∙ f.0, found_above x m zs a.1 f.1)

-- each page is found by its number
pub all_found : (m : List Page) → IsAscending m → AllByRecursion (λ z. page_at m z.number ≡ Some z) m
all_found [] a = tt
all_found (x ∷ m) a = (page_at-hit x m x.number refl, found_above x m m a.0 (all_found m a.1))

-- ---- two lists of pages, one after the other

pub page_at-append_present : (m n : List Page) (k : ℕ) (x : Page) → page_at m k ≡ Some x → page_at (m ++ n) k ≡ Some x
page_at-append_present [] n k x e = cc
page_at-append_present (y ∷ m) n k x e = elim (cases_eq y.number k) [
  | inl h ↦ page_at-hit y (m ++ n) k h ∙ sym (page_at-hit y m k h) ∙ e
  | inr d ↦ page_at-miss y (m ++ n) k d ∙ page_at-append_present m n k x (sym (page_at-miss y m k d) ∙ e)
]

pub page_at-append_absent : (m n : List Page) (k : ℕ) → page_at m k ≡ None → page_at (m ++ n) k ≡ page_at n k
page_at-append_absent [] n k e = refl
page_at-append_absent (y ∷ m) n k e = elim (cases_eq y.number k) [
  | inl h ↦ let q : Some y ≡ None = sym (page_at-hit y m k h) ∙ e in cc
  | inr d ↦ page_at-miss y (m ++ n) k d ∙ page_at-append_absent m n k (sym (page_at-miss y m k d) ∙ e)
]

-- ---- a change of pages that keeps their numbers

pub page_at-map : (f : Page → Page) → ((x : Page) → (f x).number ≡ x.number) → (m : List Page) (k : ℕ) → page_at (map f m) k ≡ option_map f (page_at m k)
page_at-map f same [] k = refl
page_at-map f same (x ∷ m) k = elim (cases_eq x.number k) [
  | inl h ↦ page_at-hit (f x) (map f m) k (same x ∙ h) ∙ sym (ap (option_map f) (page_at-hit x m k h))
  | inr n ↦ page_at-miss (f x) (map f m) k (λ q. n (sym (same x) ∙ q)) ∙ page_at-map f same m k ∙ sym (ap (option_map f) (page_at-miss x m k n))
]

pub page_below-map : (f : Page → Page) → ((x : Page) → (f x).number ≡ x.number) → (m : List Page) (k : ℕ) → page_below (map f m) k ≡ option_map f (page_below m k)
page_below-map f same m zero = refl
page_below-map f same m (suc k) = page_at-map f same m k

AllFrom-map : (f : Page → Page) → ((x : Page) → (f x).number ≡ x.number) → (j k : ℕ) (m : List Page) → j ≤ k → AllFrom k m → AllFrom j (map f m)
AllFrom-map f same j k [] h a = tt
AllFrom-map f same j k (x ∷ m) h a = (omega (arith, a.0, same x), AllFrom-map f same j k m h a.1)

pub IsAscending-map : (f : Page → Page) → ((x : Page) → (f x).number ≡ x.number) → (m : List Page) → IsAscending m → IsAscending (map f m)
IsAscending-map f same [] a = tt
IsAscending-map f same (x ∷ m) a = (AllFrom-map f same (suc (f x).number) (suc x.number) m (omega (arith, same x)) a.0, IsAscending-map f same m a.1)
