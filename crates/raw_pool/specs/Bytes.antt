-- The bytes of a region: those that were set are its front.
use Rattle.std.specs.Prelude.{Option, ℕ, ◌+◌, ◌-◌, List, ◌++◌, length, replicate, take, drop}
use Rattle.byteorder.specs.Endian.{little_bytes, little_number}

-- bytes in a row: those that were set, and how many there is room for
pub record Bytes : Type 0 where
  pub set : List ℕ
  pub room : ℕ

-- a region: the bytes of its cells, and their marks; and the number of the page that the bytes lie
-- at, where they are pages of a machine
pub record Parts : Type 0 where
  pub bytes : Bytes
  pub marks : Bytes
  pub lies : Option ℕ

-- the bytes once those up to an index are set, to 0 where they were not
abbrev pub extended : List ℕ → ℕ → List ℕ
extended bytes end = bytes ++ replicate (end - length bytes) 0

-- the given number of bytes from an index on
abbrev pub part : List ℕ → ℕ → ℕ → List ℕ
part bytes at count = take count (drop at bytes)

-- the bytes once others are written from an index on
unfoldable pub put : List ℕ → ℕ → List ℕ → List ℕ
put bytes at new = take at bytes ++ new ++ drop (at + length new) bytes

-- the row once those up to an index are set
abbrev pub with_extended : Bytes → ℕ → Bytes
with_extended row end = record { set = extended row.set end; room = row.room }

-- the row once bytes are written from an index on
abbrev pub with_put : Bytes → ℕ → List ℕ → Bytes
with_put row at new = record { set = put row.set at new; room = row.room }

-- the bytes once two numbers are written into the 16 from an index on
abbrev pub put_words : List ℕ → ℕ → ℕ → ℕ → List ℕ
put_words bytes at first second =
    put (put bytes at (little_bytes 8 first)) (at + 8) (little_bytes 8 second)

-- the same of a row
abbrev pub with_words : Bytes → ℕ → ℕ → ℕ → Bytes
with_words row at first second =
    record { set = put_words row.set at first second; room = row.room }

-- the number in the 8 bytes from an index on, the lowest byte first
unfoldable pub word : List ℕ → ℕ → ℕ
word bytes at = little_number 8 (part bytes at 8)
