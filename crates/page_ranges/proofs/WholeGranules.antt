-- Pages rounded up to a granule of 1 or 16 pages, and the granule of a type.
use Rattle.std.proofs.Common.{◌≡◌, ◌≢◌, ℕ, ◌+◌, ◌-◌, ◌%◌, ◌^◌, ◌<◌, ◌≤◌, true, false, Option, Some, None, inl, inr, refl, sym, ap, subst, ◌∙◌, arith}
use Rattle.std.specs.Option.{SomeIff}
use Rattle.std.proofs.lemmas.Bool.{cond-true, cond-false, eq-eqb, ne_eqb, cases_eq, cases_Bool, lt-ltb, le-ltb}
use Rattle.page_ranges.specs.Granules.{IsGranule, is_granular, granule_for, rounded, if_64_bits}

-- what holds of 1 and of 16 holds of a granule
pub for_granules : (P : ℕ → Type 0) → P 1 → P 16 → (g : ℕ) → IsGranule g → P g
for_granules P one sixteen g (inl e) = subst P (sym e) one
for_granules P one sixteen g (inr e) = subst P (sym e) sixteen

pub some_granule : (g : ℕ) → IsGranule g → 0 < g
some_granule g is = for_granules (λ n. 0 < n) (omega arith) (omega arith) g is

pub mod_one : (n : ℕ) → n % 1 ≡ 0
mod_one n = omega arith

-- ---- pages rounded up

pub rounded_whole : (n g : ℕ) → n % g ≡ 0 → rounded n g ≡ n
rounded_whole n g e = cond-true _ _ _ (eq-eqb (n % g) 0 e)

pub rounded_over : (n g : ℕ) → n % g ≢ 0 → rounded n g ≡ n + (g - n % g)
rounded_over n g d = cond-false _ _ _ (ne_eqb (n % g) 0 d)

-- a granule of 0 leaves the pages as they are
pub rounded_zero : (n g : ℕ) → g ≡ 0 → rounded n g ≡ n
rounded_zero n g z = elim (cases_eq (n % g) 0) [ inl e ↦ rounded_whole n g e | inr d ↦ omega (arith, rounded_over n g d) ]

pub rounded_one : (n : ℕ) → rounded n 1 ≡ n
rounded_one n = rounded_whole n 1 (mod_one n)

-- what holds of each multiple of 16 from n on, and below n + 16, holds of n rounded up to 16
to_sixteen : (P : ℕ → Type 0) (n : ℕ) → ((m : ℕ) → n ≤ m → m < n + 16 → m % 16 ≡ 0 → P m) → P (rounded n 16)
to_sixteen P n each = elim (cases_eq (n % 16) 0) [
  | inl e ↦ subst P (sym (rounded_whole n 16 e)) (each n (omega arith) (omega arith) e)
  | inr d ↦ subst P (sym (rounded_over n 16 d)) (each (n + (16 - n % 16)) (omega arith) (omega arith) (omega arith))
]

pub rounded_at_least : (n g : ℕ) → IsGranule g → n ≤ rounded n g
rounded_at_least n = for_granules (λ g. n ≤ rounded n g) (omega (arith, rounded_one n)) (to_sixteen (λ m. n ≤ m) n (λ m low high whole. low))

pub rounded_fills : (n g : ℕ) → IsGranule g → rounded n g % g ≡ 0
rounded_fills n = for_granules (λ g. rounded n g % g ≡ 0) (mod_one (rounded n 1)) (to_sixteen (λ m. m % 16 ≡ 0) n (λ m low high whole. whole))

pub rounded_below : (n g : ℕ) → IsGranule g → rounded n g < n + g
rounded_below n = for_granules (λ g. rounded n g < n + g) (omega (arith, rounded_one n)) (to_sixteen (λ m. m < n + 16) n (λ m low high whole. high))

pub rounded_near : (n g : ℕ) → IsGranule g → rounded n g < n + 16
rounded_near n = for_granules (λ g. rounded n g < n + 16) (omega (arith, rounded_one n)) (to_sixteen (λ m. m < n + 16) n (λ m low high whole. high))

-- no multiple of the granule from n on is lower
pub rounded_least : (n m g : ℕ) → IsGranule g → n ≤ m → m % g ≡ 0 → rounded n g ≤ m
rounded_least n m g is low whole = for_granules (λ g. m % g ≡ 0 → rounded n g ≤ m) (λ w. omega (arith, rounded_one n, low)) (λ w. to_sixteen (λ k. k ≤ m) n (λ k from below multiple. omega arith)) g is whole

pub rounded_some : (n g : ℕ) → IsGranule g → 0 < n → 0 < rounded n g
rounded_some n g is some = omega (arith, rounded_at_least n g is)

-- a start of a granule and a whole number of granules end at a border
pub ends_whole : (p n g : ℕ) → IsGranule g → p % g ≡ 0 → n % g ≡ 0 → (p + n) % g ≡ 0
ends_whole p n g is start whole = for_granules (λ g. p % g ≡ 0 → n % g ≡ 0 → (p + n) % g ≡ 0) (λ s w. mod_one (p + n)) (λ s w. omega arith) g is start whole

-- ---- the granule of a type

pub granule_for_granular : (t g : ℕ) → is_granular t ≡ true → granule_for t g ≡ g
granule_for_granular t g e = cond-true _ _ _ e

pub granule_for_other : (t g : ℕ) → is_granular t ≡ false → granule_for t g ≡ 1
granule_for_other t g e = cond-false _ _ _ e

pub granule_for_granule : (t g : ℕ) → IsGranule g → IsGranule (granule_for t g)
granule_for_granule t g is = elim (cases_Bool (is_granular t)) [
  | inl e ↦ subst IsGranule (sym (granule_for_granular t g e)) is
  | inr e ↦ subst IsGranule (sym (granule_for_other t g e)) (inl refl)
]

pub granule_for_one : (t : ℕ) → granule_for t 1 ≡ 1
granule_for_one t = elim (cases_Bool (is_granular t)) [ inl e ↦ granule_for_granular t 1 e | inr e ↦ granule_for_other t 1 e ]

pub granule_for_twice : (t g : ℕ) → granule_for t (granule_for t g) ≡ granule_for t g
granule_for_twice t g = elim (cases_Bool (is_granular t)) [
  | inl e ↦ granule_for_granular t (granule_for t g) e
  | inr e ↦ granule_for_other t (granule_for t g) e ∙ sym (granule_for_other t g e)
]

-- ---- numbers of at most 64 bits

pub if_64_bits_some : (n : ℕ) → n < 2 ^ 64 → if_64_bits n ≡ Some n
if_64_bits_some n small = cond-true _ _ _ (lt-ltb n (2 ^ 64) small)

pub if_64_bits_none : (n : ℕ) → 2 ^ 64 ≤ n → if_64_bits n ≡ None
if_64_bits_none n large = cond-false _ _ _ (le-ltb n (2 ^ 64) large)

-- a sum, if there is one, has at most 64 bits, and no more is known of it
pub checked_64_bits : (returned : Option ℕ) (n : ℕ) → SomeIff returned (n < 2 ^ 64) n → returned ≡ if_64_bits n
checked_64_bits None n not_small = sym (if_64_bits_none n (omega arith))
checked_64_bits (Some m) n is = ap Some is.1 ∙ sym (if_64_bits_some n is.0)
