-- Numbers as they are printed, read back.
use Rattle.std.proofs.Common.{◌≡◌, ℕ, zero, suc, ◌+◌, ◌-◌, ◌*◌, ◌/◌, ◌%◌, ◌^◌, ◌<◌, ◌≤◌, Bool, true, false, cond, ◌==◌, nat_lt, nat_eq, List, [], ◌∷◌, length, Some, codes, refl, sym, ap, ◌∙◌, arith, lt-ltb, ltb-true, ltb-false, eqb-true, eq-eqb, ne_eqb, ◌&&◌, lit<, lit≤}
use Rattle.std.specs.List.{AllByRecursion, starts_with}
use Rattle.std.specs.Fmt.{decimal, digits, digits_onto, digit_glyph}
use Rattle.std.proofs.Math.Nat.{mod-lt, pow-zero, pow-suc, div-add-mod', div-lt_iff_lt-mul}
use Rattle.std.proofs.lemmas.Bool.{le-leb, lt-leb}
use Rattle.text_lines.specs.Numbers.{digit, digit_of, number_of_digits, number_of, is_some_at_most}
use Rattle.text_lines.specs.Printed.{hexadecimal}
use Rattle.text_lines.proofs.Digits.{number_from, number_from-zero, number_from-digit, number_from-end}

-- ---- one digit

small_glyph : (d : ℕ) → d < 10 → digit (48 + d) ≡ Some d
small_glyph d h =
    let e : 48 + d - 48 ≡ d = omega arith in
    rw (le-leb 48 (48 + d) (omega arith), le-leb (48 + d) 57 (omega arith), e) refl

large_glyph : (d : ℕ) → 10 ≤ d → d < 16 → digit (87 + d) ≡ Some d
large_glyph d l h =
    let e : 87 + d - 87 ≡ d = omega arith in
    rw (le-leb 48 (87 + d) (omega arith), lt-leb (87 + d) 57 (omega arith), le-leb 97 (87 + d) (omega arith), le-leb (87 + d) 102 (omega arith), e) refl

glyph_digit : (d : ℕ) → d < 16 → digit (digit_glyph false d) ≡ Some d
glyph_digit d h = by (nat_lt d 10) refl
  where
    by : (t : Bool) → nat_lt d 10 ≡ t → digit (cond t (48 + d) (87 + d)) ≡ Some d
    by true e = small_glyph d (ltb-true d 10 e)
    by false e = large_glyph d (ltb-false d 10 e) h

glyph_digit_of : (base d : ℕ) → base ≤ 16 → d < base → digit_of base (digit_glyph false d) ≡ Some d
glyph_digit_of base d b h = rw (glyph_digit d (omega arith), lt-ltb d base h) refl

glyph_plain : (d : ℕ) → 32 < digit_glyph false d
glyph_plain d = by (nat_lt d 10)
  where
    by : (t : Bool) → 32 < cond t (48 + d) (87 + d)
    by true = omega arith
    by false = omega arith

-- no byte is a blank or a control
abbrev pub IsPlain : List ℕ → Type 0
IsPlain bytes = AllByRecursion (λ b. 32 < b) bytes

-- ---- all digits

module _ (base : ℕ) (low : 2 ≤ base) (high : base ≤ 16) where
  onto_all : (P : ℕ → Type 0) → ((d : ℕ) → d < base → P (digit_glyph false d)) → (k n : ℕ) (acc : List ℕ) → AllByRecursion P acc → AllByRecursion P (digits_onto k base false n acc)
  onto_all P each zero n acc p = p
  onto_all P each (suc k) n acc p =
      let here : P (digit_glyph false (n % base)) = each (n % base) (mod-lt n (omega arith)) in
      by here (onto_all P each k (n / base) (digit_glyph false (n % base) ∷ acc) (here, p)) (n / base == 0)
    where
      by : P (digit_glyph false (n % base)) → AllByRecursion P (digits_onto k base false (n / base) (digit_glyph false (n % base) ∷ acc)) → (t : Bool) → AllByRecursion P (cond t (digit_glyph false (n % base) ∷ acc) (digits_onto k base false (n / base) (digit_glyph false (n % base) ∷ acc)))
      by here more true = (here, p)
      by here more false = more

  onto_some : (k n : ℕ) (acc : List ℕ) → 0 < length acc → 0 < length (digits_onto k base false n acc)
  onto_some zero n acc p = p
  onto_some (suc k) n acc p = by (onto_some k (n / base) (digit_glyph false (n % base) ∷ acc) (omega arith)) (n / base == 0)
    where
      by : 0 < length (digits_onto k base false (n / base) (digit_glyph false (n % base) ∷ acc)) → (t : Bool) → 0 < length (cond t (digit_glyph false (n % base) ∷ acc) (digits_onto k base false (n / base) (digit_glyph false (n % base) ∷ acc)))
      by more true = omega arith
      by more false = more

  onto_length : (k n j : ℕ) (acc : List ℕ) → n < base ^ suc j → length (digits_onto k base false n acc) ≤ suc j + length acc
  onto_length zero n j acc h = omega arith
  onto_length (suc k) n j acc h = by (λ (i : ℕ) (m : n / base < base ^ suc i). onto_length k (n / base) i (digit_glyph false (n % base) ∷ acc) m) (n / base == 0) refl j h
    where
      by : ((i : ℕ) → n / base < base ^ suc i → length (digits_onto k base false (n / base) (digit_glyph false (n % base) ∷ acc)) ≤ suc i + length (digit_glyph false (n % base) ∷ acc)) → (t : Bool) → (n / base == 0) ≡ t → (j : ℕ) → n < base ^ suc j → length (cond t (digit_glyph false (n % base) ∷ acc) (digits_onto k base false (n / base) (digit_glyph false (n % base) ∷ acc))) ≤ suc j + length acc
      by more true e j h = omega arith
      by more false e zero h =
          let some : 0 < base = omega arith in
          let small : n / base < base ^ 0 = (div-lt_iff_lt-mul some).1 (omega (arith, h, pow-suc base 0)) in
          let none : n / base ≡ 0 = omega (arith, small, pow-zero base) in
          absurd (cc (eq-eqb (n / base) 0 none))
      by more false e (suc j) h =
          let some : 0 < base = omega arith in
          let small : n / base < base ^ suc j = (div-lt_iff_lt-mul some).1 (omega (arith, h, pow-suc base (suc j))) in
          omega (arith, more j small)

  onto_read : (k n : ℕ) (acc : List ℕ) → n < base ^ k → number_from base 0 (digits_onto k base false n acc) ≡ number_from base n acc
  onto_read zero n acc h = let e : 0 ≡ n = omega (arith, h, pow-zero base) in ap (λ (m : ℕ). number_from base m acc) e
  onto_read (suc k) n acc h = by (onto_read k (n / base) (digit_glyph false (n % base) ∷ acc) ((div-lt_iff_lt-mul (omega arith)).1 (omega (arith, h, pow-suc base k)))) (n / base == 0) refl
    where
      some : 0 < base
      some = omega arith

      rest : n % base < base
      rest = mod-lt n some

      g : ℕ
      g = digit_glyph false (n % base)

      by : number_from base 0 (digits_onto k base false (n / base) (g ∷ acc)) ≡ number_from base (n / base) (g ∷ acc) → (t : Bool) → (n / base == 0) ≡ t → number_from base 0 (cond t (g ∷ acc) (digits_onto k base false (n / base) (g ∷ acc))) ≡ number_from base n acc
      by more true e =
          let none : n / base ≡ 0 = eqb-true (n / base) 0 e in
          let same : 0 * base + n % base ≡ n = ap (λ (q : ℕ). q * base + n % base) (sym none) ∙ div-add-mod' n base in
          number_from-digit base 0 g (n % base) acc (glyph_digit_of base (n % base) high rest) ∙ ap (λ (m : ℕ). number_from base m acc) same
      by more false e =
          more ∙ number_from-digit base (n / base) g (n % base) acc (glyph_digit_of base (n % base) high rest)
          ∙ ap (λ (m : ℕ). number_from base m acc) (div-add-mod' n base)

  pub digits_all : (P : ℕ → Type 0) → ((d : ℕ) → d < base → P (digit_glyph false d)) → (n : ℕ) → AllByRecursion P (digits base false n)
  unfolding digits
  digits_all P each n = onto_all P each 64 n [] tt

  pub digits_some : (n : ℕ) → 0 < length (digits base false n)
  unfolding digits
  digits_some n = by (n / base == 0)
    where
      by : (t : Bool) → 0 < length (cond t (digit_glyph false (n % base) ∷ []) (digits_onto 63 base false (n / base) (digit_glyph false (n % base) ∷ [])))
      by true = omega arith
      by false = onto_some 63 (n / base) (digit_glyph false (n % base) ∷ []) (omega arith)

  pub digits_length : (n j : ℕ) → n < base ^ suc j → length (digits base false n) ≤ suc j
  unfolding digits
  digits_length n j h = omega (arith, onto_length 64 n j [] h)

  pub digits_read : (n : ℕ) → n < 2 ^ 64 → 2 ^ 64 ≤ base ^ 64 → number_of_digits base (digits base false n) ≡ Some n
  unfolding digits
  digits_read n h b = sym (number_from-zero base (digits_onto 64 base false n [])) ∙ onto_read 64 n [] (omega arith) ∙ number_from-end base n h

-- ---- decimal and hexadecimal

pub decimal_plain : (n : ℕ) → IsPlain (decimal n)
decimal_plain n = digits_all 10 (lit≤ tt) (lit≤ tt) (λ b. 32 < b) (λ d h. glyph_plain d) n

pub hexadecimal_plain : (n : ℕ) → IsPlain (hexadecimal n)
hexadecimal_plain n = (lit< tt, (lit< tt, digits_all 16 (lit≤ tt) (lit≤ tt) (λ b. 32 < b) (λ d h. glyph_plain d) n))

pub decimal_some : (n : ℕ) → 0 < length (decimal n)
decimal_some n = digits_some 10 (lit≤ tt) (lit≤ tt) n

pub decimal_length : (n : ℕ) → n < 2 ^ 64 → length (decimal n) ≤ 20
decimal_length n h = let wide : 2 ^ 64 ≤ 10 ^ 20 = lit≤ tt in digits_length 10 (lit≤ tt) (lit≤ tt) n 19 (omega arith)

digits_length_16 : (n : ℕ) → n < 2 ^ 64 → length (digits 16 false n) ≤ 16
digits_length_16 n h = let wide : 2 ^ 64 ≤ 16 ^ 16 = lit≤ tt in digits_length 16 (lit≤ tt) (lit≤ tt) n 15 (omega arith)

pub hexadecimal_length : (n : ℕ) → n < 2 ^ 64 → length (hexadecimal n) ≤ 20
hexadecimal_length n h = let short = digits_length_16 n h in omega (arith, short)

decimal_glyph : (d : ℕ) → d < 10 → digit_glyph false d < 58
decimal_glyph d h = rw (lt-ltb d 10 h) (omega arith)

pub and_false : (t : Bool) → (t && false) ≡ false
and_false true = refl
and_false false = refl

-- a word of decimal digits does not begin as a hexadecimal number does
no_prefix : (word : List ℕ) → AllByRecursion (λ b. b < 58) word → starts_with nat_eq word (codes "0x") ≡ false
no_prefix [] a = refl
no_prefix (b ∷ []) a = and_false (nat_eq 48 b)
no_prefix (b ∷ c ∷ word) a =
    let other : nat_eq 120 c ≡ false = ne_eqb 120 c (λ e. absurd (omega (arith, a.1.0))) in
    rw other (and_false (nat_eq 48 b))

is_some : (most : ℕ) (word : List ℕ) → 0 < length word → length word ≤ most → is_some_at_most most word ≡ true
is_some most word l h = rw (le-leb 1 (length word) l, le-leb (length word) most h) refl

pub decimal_read : (n : ℕ) → n < 2 ^ 64 → number_of (decimal n) ≡ Some n
decimal_read n h =
    let wide : 2 ^ 64 ≤ 10 ^ 64 = lit≤ tt in
    rw (no_prefix (decimal n) (digits_all 10 (lit≤ tt) (lit≤ tt) (λ b. b < 58) decimal_glyph n), is_some 20 (decimal n) (decimal_some n) (decimal_length n h))
    (digits_read 10 (lit≤ tt) (lit≤ tt) n h wide)

pub hexadecimal_read : (n : ℕ) → n < 2 ^ 64 → number_of (hexadecimal n) ≡ Some n
hexadecimal_read n h =
    let wide : 2 ^ 64 ≤ 16 ^ 64 = lit≤ tt in
    rw (is_some 16 (digits 16 false n) (digits_some 16 (lit≤ tt) (lit≤ tt) n) (digits_length_16 n h)) (digits_read 16 (lit≤ tt) (lit≤ tt) n h wide)
