-- The version of the libraries for C.
use Rattle.std.specs.Prelude.{ℕ}

-- 0.1.0, a byte for each number
abbrev pub version : ℕ
version = 0x100
