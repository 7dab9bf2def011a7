-- The words of parameters: their bytes, and what they are read as.
use Rattle.std.proofs.Common.{◌≡◌, ℕ, zero, suc, ◌+◌, ◌-◌, ◌/◌, ◌%◌, ◌^◌, ◌<◌, ◌≤◌, Bool, true, false, nat_lt, nat_le, ◌==◌, if◌then◌else◌, List, [], ◌∷◌, ◌++◌, length, map, nat_eq, Result, Ok, Err, refl, sym, ap, ◌∙◌, arith, lt-ltb, lit<, inl, All}
use Rattle.std.proofs.lemmas.Bool.{and_parts, le-leb, ltb-true}
use Rattle.std.specs.List.{AllByRecursion, list_all, slice_index}
use Rattle.std.specs.Fmt.{decimal}
use Rattle.hex.specs.Hex.{IsBytes, decode_of, encode_lower, encode_with, lower_digits}
use Rattle.hex.proofs.HexLemmas.{decode_of-encode_lower, length-encode_with}
use Rattle.uuid.specs.Text.{by_index, digit_place, hex_digit, is_hyphen_place, lower, nibble}
use Rattle.uuid.proofs.RoundTrips.{parses_hyphenated}
use Rattle.uuid.proofs.TextLemmas.{by_index_length}
use Rattle.text_lines.specs.FirstFault.{◌>>=◌, or_fault}
use Rattle.text_lines.specs.Numbers.{value_of_digits}
use Rattle.text_lines.specs.Printed.{hexadecimal}
use Rattle.text_lines.proofs.PrintedNumbers.{IsPlain, and_false, decimal_plain, decimal_read, decimal_some, hexadecimal_plain, hexadecimal_read}
use Rattle.trace_lines.specs.declared.faults.TraceFault.{TraceFault}
use Rattle.trace_lines.specs.declared.faults.TraceFault.TheVariants as fault
use Rattle.trace_lines.specs.Laws.{IsGuid}
use Rattle.trace_lines.specs.Parameters.{bytes_of, flag_of, guid_of, or_hex, pairs_of, u32_of, u64_of, u64_up_to, u64s_of}
use Rattle.call_texts.specs.CallText.{bytes_word, flag_word, guid_word, pair_words}
use Rattle.call_texts.proofs.SpacedLines.{AreWords, IsWord}

-- one reading, and then another
pub then_read : {X Y : Type 0} (r : Result X TraceFault) (x : X) (f : X → Result Y TraceFault) (answer : Result Y TraceFault) → r ≡ Ok x → f x ≡ answer → (r >>= f) ≡ answer
then_read r x f answer e h = ap (λ (s : Result _ TraceFault). s >>= f) e ∙ h

-- ---- numbers

pub decimal_word : (n : ℕ) → IsWord (decimal n)
decimal_word n = record { plain = decimal_plain n; some = decimal_some n }

pub hexadecimal_word : (n : ℕ) → IsWord (hexadecimal n)
hexadecimal_word n = record { plain = hexadecimal_plain n; some = omega arith }

pub read_decimal : (n : ℕ) → n < 2 ^ 64 → u64_of (decimal n) ≡ Ok n
read_decimal n h = ap (or_fault fault.Number) (decimal_read n h)

pub read_hexadecimal : (n : ℕ) → n < 2 ^ 64 → u64_of (hexadecimal n) ≡ Ok n
read_hexadecimal n h = ap (or_fault fault.Number) (hexadecimal_read n h)

pub read_32 : (n : ℕ) → n < 2 ^ 32 → u32_of (decimal n) ≡ Ok n
read_32 n h =
    let wide : 2 ^ 32 < 2 ^ 64 = lit< tt in
    then_read (u64_of (decimal n)) n (λ n. if nat_lt n (2 ^ 32) then Ok n else Err fault.Number) (Ok n) (read_decimal n (omega arith)) (rw (lt-ltb n (2 ^ 32) h) refl)

pub read_up_to : (most n : ℕ) → n < 2 ^ 64 → n ≤ most → u64_up_to most (decimal n) ≡ Ok n
read_up_to most n b h = then_read (u64_of (decimal n)) n (λ n. if nat_le n most then Ok n else Err fault.Number) (Ok n) (read_decimal n b) (rw (le-leb n most h) refl)

pub read_flag : (flag : Bool) → flag_of (flag_word flag) ≡ Ok flag
unfolding value_of_digits
read_flag true = refl
read_flag false = refl

pub flag_is_word : (flag : Bool) → IsWord (flag_word flag)
flag_is_word true = record { plain = (omega arith, tt); some = omega arith }
flag_is_word false = record { plain = (omega arith, tt); some = omega arith }

pub decimal_words : (ns : List ℕ) → AreWords (map decimal ns)
decimal_words [] = tt
decimal_words (n ∷ ns) = (decimal_word n, decimal_words ns)

pub read_numbers : (ns : List ℕ) → AllByRecursion (λ n. n < 2 ^ 64) ns → u64s_of (map decimal ns) ≡ Ok ns
read_numbers [] a = refl
read_numbers (n ∷ ns) a =
    then_read (u64_of (decimal n)) n _ (Ok (n ∷ ns)) (read_decimal n a.0) (then_read (u64s_of (map decimal ns)) ns _ (Ok (n ∷ ns)) (read_numbers ns a.1) refl)

-- ---- GUIDs

digit_plain : (d : ℕ) → 32 < hex_digit lower d
digit_plain d = by (nat_lt d 10)
  where
    by : (t : Bool) → 32 < (if t then 48 + d else 97 + d - 10)
    by true = omega arith
    by false = omega arith

append_plain : (xs ys : List ℕ) → IsPlain xs → IsPlain ys → IsPlain (xs ++ ys)
append_plain [] ys p q = q
append_plain (x ∷ xs) ys p q = (p.0, append_plain xs ys p.1 q)

by_index_plain : (n : ℕ) (f : ℕ → ℕ) → ((k : ℕ) → 32 < f k) → IsPlain (by_index n f)
unfolding by_index
by_index_plain zero f p = tt
by_index_plain (suc n) f p = append_plain (by_index n f) (f n ∷ []) (by_index_plain n f p) (p n, tt)

place_plain : (guid : List ℕ) (k : ℕ) → 32 < (if is_hyphen_place k then 45 else hex_digit lower (nibble guid (digit_place k)))
place_plain guid k = by (is_hyphen_place k)
  where
    by : (t : Bool) → 32 < (if t then 45 else hex_digit lower (nibble guid (digit_place k)))
    by true = omega arith
    by false = digit_plain (nibble guid (digit_place k))

pub guid_is_word : (guid : List ℕ) → IsWord (guid_word guid)
guid_is_word guid =
    let long : length (guid_word guid) ≡ 36 = by_index_length 36 _ in
    record { plain = by_index_plain 36 _ (place_plain guid); some = omega (arith, long) }

small_bytes : (bytes : List ℕ) → AllByRecursion (λ b. b < 256) bytes → All (λ b. b < 256) bytes
small_bytes [] a i d l = absurd (omega arith)
small_bytes (b ∷ bytes) a zero d l = a.0
small_bytes (b ∷ bytes) a (suc i) d l = small_bytes bytes a.1 i d (omega arith)

pub read_guid : (guid : List ℕ) → IsGuid guid → guid_of (guid_word guid) ≡ Ok guid
unfolding guid_of
read_guid guid g = ap (or_fault fault.Guid) (sym (parses_hyphenated lower guid (inl refl) g.0 (small_bytes guid g.1)))

-- ---- pairs of a GUID and a value

abbrev pub ArePairs : List (List ℕ × ℕ) → Type 0
ArePairs pairs = AllByRecursion (λ pair. IsGuid pair.0 × (pair.1 < 2 ^ 64)) pairs

pub pairs_are_words : (pairs : List (List ℕ × ℕ)) → AreWords (pair_words pairs)
pairs_are_words [] = tt
pairs_are_words (p ∷ pairs) = (guid_is_word p.0, (hexadecimal_word p.1, pairs_are_words pairs))

pub read_pairs : (pairs : List (List ℕ × ℕ)) → ArePairs pairs → pairs_of (pair_words pairs) ≡ Ok pairs
read_pairs [] a = refl
read_pairs (p ∷ pairs) a =
    then_read (guid_of (guid_word p.0)) p.0 _ (Ok (p ∷ pairs)) (read_guid p.0 a.0.0)
    (then_read (u64_of (hexadecimal p.1)) p.1 _ (Ok (p ∷ pairs)) (read_hexadecimal p.1 a.0.1)
    (then_read (pairs_of (pair_words pairs)) pairs _ (Ok (p ∷ pairs)) (read_pairs pairs a.1) refl))

pub even_words : (pairs : List (List ℕ × ℕ)) → (length (pair_words pairs) % 2 == 0) ≡ true
even_words [] = refl
even_words (p ∷ pairs) =
    let e : suc (suc (length (pair_words pairs))) % 2 ≡ length (pair_words pairs) % 2 = omega arith in
    ap (λ (n : ℕ). n == 0) e ∙ even_words pairs

-- ---- bytes

tested_plain : (bytes : List ℕ) → list_all (λ b. nat_lt 32 b) bytes ≡ true → IsPlain bytes
tested_plain [] e = tt
tested_plain (b ∷ bytes) e =
    let p = and_parts (nat_lt 32 b) (list_all (λ b. nat_lt 32 b) bytes) e in
    (ltb-true 32 b p.0, tested_plain bytes p.1)

pub plain_bytes : (bytes : List ℕ) → list_all (λ b. nat_lt 32 b) bytes ≡ true → 0 < length bytes → IsWord bytes
plain_bytes bytes e l = record { plain = tested_plain bytes e; some = l }

at_plain : (table : List ℕ) (i : ℕ) → i < length table → IsPlain table → 32 < slice_index table i
at_plain [] i l p = absurd (omega arith)
at_plain (b ∷ table) zero l p = p.0
at_plain (b ∷ table) (suc i) l p = at_plain table i (omega arith) p.1

digits_plain : (d : ℕ) → d < 16 → 32 < slice_index lower_digits d
digits_plain d h = at_plain lower_digits d h (tested_plain lower_digits refl)

hex_plain : (bytes : List ℕ) → AllByRecursion (λ b. b < 256) bytes → IsPlain (encode_lower bytes)
unfolding encode_with
hex_plain [] a = tt
hex_plain (b ∷ bytes) a = (digits_plain (b / 16) (omega (arith, a.0)), (digits_plain (b % 16) (omega arith), hex_plain bytes a.1))

hex_some : (b : ℕ) (bytes : List ℕ) → 0 < length (encode_lower (b ∷ bytes))
hex_some b bytes = omega (arith, length-encode_with lower_digits (b ∷ bytes))

pub bytes_are_word : (bytes : List ℕ) → AllByRecursion (λ b. b < 256) bytes → IsWord (bytes_word bytes)
bytes_are_word [] a = record { plain = (omega arith, tt); some = omega arith }
bytes_are_word (b ∷ bytes) a = record { plain = hex_plain (b ∷ bytes) a; some = hex_some b bytes }

are_bytes : (bytes : List ℕ) → AllByRecursion (λ b. b < 256) bytes → IsBytes bytes
are_bytes [] a i = omega arith
are_bytes (b ∷ bytes) a zero = a.0
are_bytes (b ∷ bytes) a (suc i) = are_bytes bytes a.1 i

read_digits : (word bytes : List ℕ) → 2 ≤ length word → decode_of word ≡ Ok bytes → bytes_of word ≡ Ok bytes
read_digits [] bytes l e = absurd (omega arith)
read_digits (c ∷ []) bytes l e = absurd (omega arith)
read_digits (c ∷ d ∷ word) bytes l e = rw (and_false (nat_eq c 45)) (ap or_hex e)

pub read_bytes : (bytes : List ℕ) → AllByRecursion (λ b. b < 256) bytes → bytes_of (bytes_word bytes) ≡ Ok bytes
read_bytes [] a = refl
read_bytes (b ∷ bytes) a =
    read_digits (encode_lower (b ∷ bytes)) (b ∷ bytes) (omega (arith, length-encode_with lower_digits (b ∷ bytes)))
    (decode_of-encode_lower (b ∷ bytes) (are_bytes (b ∷ bytes) a))
