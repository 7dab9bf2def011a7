-- Numbers as words.
use Rattle.std.specs.Prelude.{ℕ, ◌+◌, ◌-◌, ◌*◌, ◌^◌, Bool, ◌&&◌, nat_le, nat_lt, nat_eq, List, [], ◌∷◌, length, drop, codes, Option, Some, None, option_map, option_and_then, if◌then◌else◌}
use Rattle.std.specs.List.{starts_with}

-- the byte is one of those from low to high
abbrev pub is_between : ℕ → ℕ → ℕ → Bool
is_between low high byte = nat_le low byte && nat_le byte high

-- `0` to `9`, and the letters from `a` or `A` on for 10 and more
abbrev pub digit : ℕ → Option ℕ
digit byte =
    if is_between 48 57 byte then Some (byte - 48)
    else (if is_between 97 102 byte then Some (byte - 87)
    else (if is_between 65 70 byte then Some (byte - 55) else None))

-- a digit of the base
abbrev pub digit_of : ℕ → ℕ → Option ℕ
digit_of base byte = option_and_then (λ d. if nat_lt d base then Some d else None) (digit byte)

-- The value of digits: each counts by the power of the base that the number of digits after it
-- gives. `None` where a byte is no digit.
unfoldable pub value_of_digits : ℕ → List ℕ → Option ℕ
value_of_digits base [] = Some 0
value_of_digits base (byte ∷ bytes) =
    option_and_then
    (λ d. option_map (λ n. d * base ^ length bytes + n) (value_of_digits base bytes))
    (digit_of base byte)

-- a value below 2^64
abbrev pub within_64_bits : ℕ → Option ℕ
within_64_bits n = if nat_lt n (2 ^ 64) then Some n else None

-- the number that digits write, below 2^64
abbrev pub number_of_digits : ℕ → List ℕ → Option ℕ
number_of_digits base bytes = option_and_then within_64_bits (value_of_digits base bytes)

-- there are some, and at most a number of them
abbrev pub is_some_at_most : ℕ → List ℕ → Bool
is_some_at_most most bytes = is_between 1 most (length bytes)

-- `0x` and 1 to 16 hexadecimal digits
abbrev pub hexadecimal_of : List ℕ → Option ℕ
hexadecimal_of word =
    if starts_with nat_eq word (codes "0x") && is_some_at_most 16 (drop 2 word)
    then number_of_digits 16 (drop 2 word)
    else None

-- 1 to 20 decimal digits with a value below 2^64
abbrev pub decimal_of : List ℕ → Option ℕ
decimal_of word = if is_some_at_most 20 word then number_of_digits 10 word else None

-- a number in either form
abbrev pub number_of : List ℕ → Option ℕ
number_of word =
    if starts_with nat_eq word (codes "0x") then hexadecimal_of word else decimal_of word
