-- Numbers of words have 64 bits.
use Rattle.std.proofs.Common.{◌≡◌, ℕ, ◌<◌, ◌^◌, Bool, true, false, cond, ◌&&◌, nat_lt, nat_eq, List, drop, codes, Option, Some, None, option_and_then, refl, subst}
use Rattle.std.specs.List.{starts_with}
use Rattle.std.proofs.lemmas.Bool.{ltb-true}
use Rattle.text_lines.specs.Numbers.{value_of_digits, within_64_bits, is_some_at_most, number_of_digits, hexadecimal_of, decimal_of, number_of}

within : (b : Bool) (m n : ℕ) → nat_lt m (2 ^ 64) ≡ b → cond b (Some m) None ≡ Some n → n < 2 ^ 64
within true m n t e = let same : m ≡ n = cc in subst (λ (k : ℕ). k < 2 ^ 64) same (ltb-true m (2 ^ 64) t)
within false m n t e = absurd (cc)

value_fits : (o : Option ℕ) (n : ℕ) → option_and_then within_64_bits o ≡ Some n → n < 2 ^ 64
value_fits None n e = absurd (cc)
value_fits (Some m) n e = within (nat_lt m (2 ^ 64)) m n refl e

chosen : (b : Bool) (o : Option ℕ) (n : ℕ) → cond b o None ≡ Some n → o ≡ Some n
chosen true o n e = e
chosen false o n e = absurd (cc)

hexadecimal_fits : (word : List ℕ) (n : ℕ) → hexadecimal_of word ≡ Some n → n < 2 ^ 64
hexadecimal_fits word n e = value_fits (value_of_digits 16 (drop 2 word)) n (chosen (starts_with nat_eq word (codes "0x") && is_some_at_most 16 (drop 2 word)) (number_of_digits 16 (drop 2 word)) n e)

decimal_fits : (word : List ℕ) (n : ℕ) → decimal_of word ≡ Some n → n < 2 ^ 64
decimal_fits word n e = value_fits (value_of_digits 10 word) n (chosen (is_some_at_most 20 word) (number_of_digits 10 word) n e)

either : (b : Bool) (o p : Option ℕ) (n : ℕ) → (o ≡ Some n → n < 2 ^ 64) → (p ≡ Some n → n < 2 ^ 64) → cond b o p ≡ Some n → n < 2 ^ 64
either true o p n f g e = f e
either false o p n f g e = g e

pub number_fits : (word : List ℕ) (n : ℕ) → number_of word ≡ Some n → n < 2 ^ 64
number_fits word n e = either (starts_with nat_eq word (codes "0x")) (hexadecimal_of word) (decimal_of word) n (hexadecimal_fits word n) (decimal_fits word n) e
