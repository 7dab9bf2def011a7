-- The lines of a text.
use Rattle.std.specs.Prelude.{◌≡◌, ◌⊎◌, MatchBool, MatchOption, MatchResult, IfSome, IsTrue, Result, ℕ, ◌<◌, Bool, ◌==◌, List, [], ◌∷◌, length, Option, Some, if◌then◌else◌}
use Rattle.std.specs.List.{slice_split}
use Rattle.text_lines.specs.declared.lines.LineFault.{LineFault}
use Rattle.text_lines.specs.declared.lines.LineFault.TheVariants.{Read}

-- the most bytes of a line, without its line feed
abbrev pub longest_line : ℕ
longest_line = 65536

abbrev pub is_line_feed : ℕ → Bool
is_line_feed b = b == 10

-- the parts, but for an empty last one
abbrev pub without_empty_end : List (List ℕ) → List (List ℕ)
without_empty_end [] = []
without_empty_end (x ∷ []) = if length x == 0 then [] else x ∷ []
without_empty_end (x ∷ y ∷ parts) = x ∷ without_empty_end (y ∷ parts)

-- the lines, each without its line feed: what lies between line feeds, but for an empty rest after
-- the last
unfoldable pub lines_of : List ℕ → List (List ℕ)
lines_of bytes = without_empty_end (slice_split is_line_feed bytes)

-- the bytes before the first line feed; all, where there is none
abbrev pub first_line : List ℕ → List ℕ
first_line [] = []
first_line (b ∷ bytes) = if is_line_feed b then [] else b ∷ first_line bytes

-- the bytes after the first line feed; none, where there is none
abbrev pub after_line : List ℕ → List ℕ
after_line [] = []
after_line (b ∷ bytes) = if is_line_feed b then bytes else after_line bytes

-- The next byte was taken from the front of known bytes, and these are left; or there was none.
abbrev pub TakesByte : Option (List ℕ) → Option ℕ → Option (List ℕ) → Type 0
TakesByte old next new =
    IfSome old
    (λ bytes. MatchOption next ((bytes ≡ []) × (new ≡ Some [])) (λ byte. (rest : List ℕ)
    × (bytes ≡ byte ∷ rest) × (new ≡ Some rest)))

-- The first line of the bytes was taken, and these are left; or the first line is too long, and so
-- are the bytes taken.
abbrev pub IsFirstLine : List ℕ → List ℕ → Option (List ℕ) → Type 0
IsFirstLine bytes line left =
    (0 < length bytes)
    × (((line ≡ first_line bytes) × (left ≡ Some (after_line bytes)))
    ⊎ ((longest_line < length line) × (longest_line < length (first_line bytes))))

-- the next line was taken from the front of known bytes; or there was none
abbrev pub TakesLine : Option (List ℕ) → Bool → List ℕ → Option (List ℕ) → Type 0
TakesLine old more line new =
    IfSome old (λ bytes. MatchBool more (IsFirstLine bytes line new) (bytes ≡ []))

-- the next line was taken, or there is a fault; where a source cannot fail, it is none of reading
abbrev pub ReadsLine : Bool → Option (List ℕ) → Result Bool LineFault → List ℕ
    → Option (List ℕ) → Type 0
ReadsLine can_fail old result line new =
    MatchResult result (λ more. TakesLine old more line new)
    (λ fault. fault ≡ Read → IsTrue can_fail)
