-- Digits, read from the left.
use Rattle.std.proofs.Common.{◌≡◌, ℕ, zero, suc, ◌+◌, ◌*◌, ◌^◌, ◌<◌, ◌≤◌, List, [], ◌∷◌, length, drop, get_or, Option, Some, None, option_map, option_and_then, refl, ap, ◌∙◌, add-one, add_assoc, zero-add, arith, false, nat_lt, lit≤, lt-ltb, le-ltb}
use Rattle.std.proofs.Math.Nat.{zero-mul, mul_assoc, add-mul, one-le-mul, mul-le-mul_left, pow-zero, pow-succ'}
use Rattle.std.proofs.Math.Seq.{drop-cons}
use Rattle.text_lines.specs.Numbers.{digit_of, value_of_digits, within_64_bits, number_of_digits}

-- the number that n followed by digits writes
abbrev pub number_from : ℕ → ℕ → List ℕ → Option ℕ
number_from base n bytes = option_and_then (λ v. within_64_bits (n * base ^ length bytes + v)) (value_of_digits base bytes)

-- the same, of the value that the digits have
abbrev joined : ℕ → ℕ → Option ℕ → Option ℕ
joined n power o = option_and_then (λ v. within_64_bits (n * power + v)) o

joined-zero : (power : ℕ) (o : Option ℕ) → joined 0 power o ≡ option_and_then within_64_bits o
joined-zero power None = refl
joined-zero power (Some v) = ap within_64_bits (rw (zero-mul, zero-add) refl)

pub number_from-zero : (base : ℕ) (bytes : List ℕ) → number_from base 0 bytes ≡ number_of_digits base bytes
number_from-zero base bytes = joined-zero (base ^ length bytes) (value_of_digits base bytes)

shifted : (base n d power v : ℕ) → n * (base * power) + (d * power + v) ≡ (n * base + d) * power + v
shifted base n d power v = rw (← mul_assoc n base power, ← add_assoc (n * base * power) (d * power) v, ← add-mul) refl

joined-shifted : (base n d power : ℕ) (o : Option ℕ) → joined n (base * power) (option_map (λ v. d * power + v) o) ≡ joined (n * base + d) power o
joined-shifted base n d power None = refl
joined-shifted base n d power (Some v) = ap within_64_bits (shifted base n d power v)

pub number_from-digit : (base n byte d : ℕ) (bytes : List ℕ) → digit_of base byte ≡ Some d → number_from base n (byte ∷ bytes) ≡ number_from base (n * base + d) bytes
unfolding value_of_digits
number_from-digit base n byte d bytes e = rw (e, pow-succ') (joined-shifted base n d (base ^ length bytes) (value_of_digits base bytes))

pub number_from-none : (base n byte : ℕ) (bytes : List ℕ) → digit_of base byte ≡ None → number_from base n (byte ∷ bytes) ≡ None
unfolding value_of_digits
number_from-none base n byte bytes e = rw e refl

some-power : (base k : ℕ) → 1 ≤ base → 1 ≤ base ^ k
some-power base zero h = rw pow-zero (lit≤ tt)
some-power base (suc k) h = rw pow-succ' (one-le-mul h (some-power base k h))

beyond : (n power v : ℕ) → 2 ^ 64 ≤ n → 1 ≤ power → nat_lt (n * power + v) (2 ^ 64) ≡ false
beyond n power v h p = let large : n * 1 ≤ n * power = mul-le-mul_left n p in le-ltb (n * power + v) (2 ^ 64) (omega arith)

joined-beyond : (n power : ℕ) (o : Option ℕ) → 2 ^ 64 ≤ n → 1 ≤ power → joined n power o ≡ None
joined-beyond n power None h p = refl
joined-beyond n power (Some v) h p = rw (beyond n power v h p) refl

pub number_from-beyond : (base n : ℕ) (bytes : List ℕ) → 1 ≤ base → 2 ^ 64 ≤ n → number_from base n bytes ≡ None
number_from-beyond base n bytes b h = joined-beyond n (base ^ length bytes) (value_of_digits base bytes) h (some-power base (length bytes) b)

pub number_from-end : (base n : ℕ) → n < 2 ^ 64 → number_from base n [] ≡ Some n
unfolding value_of_digits
number_from-end base n h = let e : n * base ^ 0 + 0 ≡ n = rw pow-zero (omega arith) in rw (e, lt-ltb n (2 ^ 64) h) refl

-- at a place of a list
module _ (base n : ℕ) (bytes : List ℕ) (i : ℕ) (inside : i < length bytes) where
  opened : number_from base n (drop i bytes) ≡ number_from base n (get_or bytes i 0 ∷ drop (i + 1) bytes)
  opened = rw (add-one, drop-cons bytes i 0) refl

  pub none-at : digit_of base (get_or bytes i 0) ≡ None → number_from base n (drop i bytes) ≡ None
  none-at e = opened ∙ number_from-none base n (get_or bytes i 0) (drop (i + 1) bytes) e

  pub digit-at : (d : ℕ) → digit_of base (get_or bytes i 0) ≡ Some d → number_from base n (drop i bytes) ≡ number_from base (n * base + d) (drop (i + 1) bytes)
  digit-at d e = opened ∙ number_from-digit base n (get_or bytes i 0) d (drop (i + 1) bytes) e

  pub beyond-at : (d : ℕ) → digit_of base (get_or bytes i 0) ≡ Some d → 1 ≤ base → 2 ^ 64 ≤ n * base + d → number_from base n (drop i bytes) ≡ None
  beyond-at d e b h = digit-at d e ∙ number_from-beyond base (n * base + d) (drop (i + 1) bytes) b h
