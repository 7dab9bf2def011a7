-- Parts of printed lines.
use Rattle.std.specs.Prelude.{◌≡◌, ℕ, List, [], ◌∷◌, ◌++◌, Option, String, string_bytes, codes, take, false}
use Rattle.std.specs.Fmt.{digits}
use Rattle.std.specs.Io.KnownBytes.{Appends}

-- these bytes are appended to a text
abbrev pub Gains : {A : Type 0} → String A → String A → List ℕ → Type 0
Gains old new bytes = string_bytes new ≡ string_bytes old ++ bytes

-- a front of the bytes is written, and nothing else
abbrev pub WritesFront : Option (List ℕ) → List ℕ → Option (List ℕ) → Type 0
WritesFront before bytes after = (count : ℕ) × Appends before after (take count bytes)

-- an address, a value or attributes: `0x` and lower-case digits with no leading zeros
abbrev pub hexadecimal : ℕ → List ℕ
hexadecimal n = codes "0x" ++ digits 16 false n

abbrev pub space : List ℕ
space = 32 ∷ []

abbrev pub line_feed : List ℕ
line_feed = 10 ∷ []
