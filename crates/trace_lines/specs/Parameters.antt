-- The parameters of a trace line.
use Rattle.std.specs.Prelude.{◌≡◌, ◌⊎◌, ℕ, ◌^◌, ◌==◌, nat_le, nat_lt, Bool, List, [], ◌∷◌, codes, Result, Ok, Err, if◌then◌else◌}
use Rattle.std.specs.Str.{bytes_eq}
use Rattle.hex.specs.Hex.{decode_of}
use Rattle.hex.specs.declared.error.FromHexError.{FromHexError}
use Rattle.hex.specs.declared.error.FromHexError.TheVariants as hex
use Rattle.uuid.specs.Text.{parsed}
use Rattle.text_lines.specs.FirstFault.{◌>>=◌, or_fault}
use Rattle.text_lines.specs.Numbers.{number_of}
use Rattle.trace_lines.specs.declared.faults.TraceFault.{TraceFault}
use Rattle.trace_lines.specs.declared.faults.TraceFault.TheVariants as fault

-- What is read is this, unless memory runs out.
abbrev pub ReadsAs : {T : Type 0} → Result T TraceFault → Result T TraceFault → Type 0
ReadsAs read wanted = (read ≡ Err fault.OutOfMemory) ⊎ (read ≡ wanted)

-- ---- numbers

-- a number below 2^64
abbrev pub u64_of : List ℕ → Result ℕ TraceFault
u64_of word = or_fault fault.Number (number_of word)

-- a number below 2^32
abbrev pub u32_of : List ℕ → Result ℕ TraceFault
u32_of word = do
  n ← u64_of word
  if nat_lt n (2 ^ 32) then Ok n else Err fault.Number

-- a number that is so much or less
abbrev pub u64_up_to : ℕ → List ℕ → Result ℕ TraceFault
u64_up_to most word = do
  n ← u64_of word
  if nat_le n most then Ok n else Err fault.Number

-- a number that is 0 or 1: whether it is 1
abbrev pub flag_of : List ℕ → Result Bool TraceFault
flag_of word = do
  n ← u64_up_to 1 word
  Ok (n == 1)

-- numbers below 2^64, from left to right
abbrev pub u64s_of : List (List ℕ) → Result (List ℕ) TraceFault
u64s_of [] = Ok []
u64s_of (word ∷ words) = do
  n ← u64_of word
  numbers ← u64s_of words
  Ok (n ∷ numbers)

-- ---- bytes

-- the fault of digits that are not decoded
abbrev pub fault_of : FromHexError → TraceFault
fault_of hex.OutOfMemory = fault.OutOfMemory
fault_of error = fault.Hex

-- the bytes that were decoded
abbrev pub or_hex : Result (List ℕ) FromHexError → Result (List ℕ) TraceFault
or_hex (Ok bytes) = Ok bytes
or_hex (Err error) = Err fault.Hex

-- bytes, two hexadecimal digits of either case for each, one byte at least; `-` for none
abbrev pub bytes_of : List ℕ → Result (List ℕ) TraceFault
bytes_of [] = Err fault.Hex
bytes_of (b ∷ bytes) =
    if bytes_eq (b ∷ bytes) (codes "-") then Ok [] else or_hex (decode_of (b ∷ bytes))

-- ---- GUIDs

-- a GUID, of any form that `uuid` parses
unfoldable pub guid_of : List ℕ → Result (List ℕ) TraceFault
guid_of word = or_fault fault.Guid (parsed word)

-- the pairs of a GUID and a value, from left to right; a word that is left over belongs to none
abbrev pub pairs_of : List (List ℕ) → Result (List (List ℕ × ℕ)) TraceFault
pairs_of (guid ∷ value ∷ words) = do
  g ← guid_of guid
  v ← u64_of value
  pairs ← pairs_of words
  Ok ((g, v) ∷ pairs)
pairs_of words = Ok []
