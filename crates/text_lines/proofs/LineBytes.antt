-- Lines as they are read.
use Rattle.std.proofs.Common.{◌≡◌, ℕ, suc, ◌<◌, Bool, true, false, cond, ◌==◌, List, [], ◌∷◌, ◌++◌, length, Option, Some, None, refl, sym, ap, ◌∙◌, inl, inr, arith, append_assoc, append-nil, length-append, IfSome, MatchBool, not, ne_eqb}
use Rattle.std.specs.List.{AllByRecursion, slice_split, onto_first}
use Rattle.text_lines.specs.Lines.{longest_line}
use Rattle.text_lines.specs.Lines.{is_line_feed, without_empty_end, lines_of, first_line, after_line, TakesByte, IsFirstLine, TakesLine}

-- there is a line feed
has_line_feed : List ℕ → Bool
has_line_feed [] = false
has_line_feed (b ∷ bytes) = cond (is_line_feed b) true (has_line_feed bytes)

-- the parts of bytes
abbrev parts : List ℕ → List (List ℕ)
parts bytes = slice_split is_line_feed bytes

first_part : (bytes : List ℕ) → parts bytes ≡ first_line bytes ∷ cond (has_line_feed bytes) (parts (after_line bytes)) []
unfolding has_line_feed
first_part [] = refl
first_part (b ∷ bytes) =
    elim (is_line_feed b) as (λ t. cond t ([] ∷ parts bytes) (onto_first b (parts bytes)) ≡ cond t [] (b ∷ first_line bytes) ∷ cond (cond t true (has_line_feed bytes)) (parts (cond t bytes (after_line bytes))) []) [
      | true ↦ refl
      | false ↦ rw (first_part bytes) refl
    ]

joined_none : (t : Bool) (b : ℕ) (bytes : List ℕ) (h : Bool) → (h ≡ false → (first_line bytes ≡ bytes) × (after_line bytes ≡ [])) → cond t true h ≡ false → (cond t [] (b ∷ first_line bytes) ≡ b ∷ bytes) × (cond t bytes (after_line bytes) ≡ [])
joined_none true b bytes h f e = absurd (cc)
joined_none false b bytes h f e = (ap (λ bs. b ∷ bs) (f e).0, (f e).1)

no_line_feed : (bytes : List ℕ) → has_line_feed bytes ≡ false → (first_line bytes ≡ bytes) × (after_line bytes ≡ [])
unfolding has_line_feed
no_line_feed [] e = (refl, refl)
no_line_feed (b ∷ bytes) e = joined_none (is_line_feed b) b bytes (has_line_feed bytes) (no_line_feed bytes) e

some_test : (n : ℕ) → (suc n == 0) ≡ false
some_test n = ne_eqb (suc n) 0 (λ e. absurd (omega arith))

whole : (bytes : List ℕ) → 0 < length bytes → without_empty_end (bytes ∷ []) ≡ bytes ∷ []
whole [] h = absurd (omega arith)
whole (b ∷ bytes) h = rw (some_test (length bytes)) refl

pub lines_of-none : lines_of [] ≡ []
unfolding lines_of
lines_of-none = refl

-- the lines of bytes are the first, and those of the bytes after it
pub lines_of-some : (bytes : List ℕ) → 0 < length bytes → lines_of bytes ≡ first_line bytes ∷ lines_of (after_line bytes)
unfolding lines_of
lines_of-some bytes some = rw (first_part bytes) (by_feed (has_line_feed bytes) refl)
  where
    by_feed : (t : Bool) → has_line_feed bytes ≡ t → without_empty_end (first_line bytes ∷ cond t (parts (after_line bytes)) []) ≡ first_line bytes ∷ without_empty_end (parts (after_line bytes))
    by_feed true e = rw (first_part (after_line bytes)) refl
    by_feed false e = let h = no_line_feed bytes e in rw (h.0, h.1) (whole bytes some)

-- bytes without a line feed
abbrev pub HasNone : List ℕ → Type 0
HasNone bytes = AllByRecursion (λ b. is_line_feed b ≡ false) bytes

pub first_line-all : (line : List ℕ) → HasNone line → (first_line line ≡ line) × (after_line line ≡ [])
first_line-all [] a = (refl, refl)
first_line-all (b ∷ line) a = let h = first_line-all line a.1 in (rw (a.0, h.0) refl, rw (a.0, h.1) refl)

-- bytes without a line feed, and then others
pub first_line-front : (front rest : List ℕ) → HasNone front → (first_line (front ++ rest) ≡ front ++ first_line rest) × (after_line (front ++ rest) ≡ after_line rest)
first_line-front [] rest a = (refl, refl)
first_line-front (b ∷ front) rest a = let h = first_line-front front rest a.1 in (rw (a.0, h.0) refl, rw (a.0, h.1) refl)

pub none-more : (front : List ℕ) (b : ℕ) → HasNone front → is_line_feed b ≡ false → HasNone (front ++ b ∷ [])
none-more [] b a e = (e, tt)
none-more (c ∷ front) b a e = (a.0, none-more front b a.1 e)

-- ---- a line in the making

-- of known bytes these have been taken, and the others are left
abbrev pub HasTaken : Option (List ℕ) → List ℕ → Option (List ℕ) → Type 0
HasTaken old line now = IfSome old (λ bytes. (rest : List ℕ) × (bytes ≡ line ++ rest) × (now ≡ Some rest))

pub taken-none : (old : Option (List ℕ)) → HasTaken old [] old
taken-none None = tt
taken-none (Some bytes) = (bytes, refl, refl)

pub taken-more : (old now new : Option (List ℕ)) (line : List ℕ) (b : ℕ) → HasTaken old line now → TakesByte now (Some b) new → HasTaken old (line ++ b ∷ []) new
taken-more None now new line b h t = tt
taken-more (Some bytes) now new line b (rest, e, l) t =
    let (more, m, left) = rw l at t in
    (more, e ∙ ap (λ (xs : List ℕ). line ++ xs) m ∙ sym (append_assoc line (b ∷ []) more), left)

some_bytes : (line rest : List ℕ) (b : ℕ) → 0 < length (line ++ b ∷ rest)
some_bytes [] rest b = omega arith
some_bytes (c ∷ line) rest b = omega arith

-- a line feed ends the line
pub line-ended : (old now new : Option (List ℕ)) (line : List ℕ) (b : ℕ) → HasTaken old line now → HasNone line → TakesByte now (Some b) new → b ≡ 10 → TakesLine old true line new
line-ended None now new line b h a t f = tt
line-ended (Some bytes) now new line b (rest, e, l) a t f =
    let (more, m, left) = rw l at t in
    let whole : bytes ≡ line ++ 10 ∷ more = e ∙ ap (λ (xs : List ℕ). line ++ xs) (m ∙ ap (λ (c : ℕ). c ∷ more) f) in
    let parts = first_line-front line (10 ∷ more) a in
    rw whole (some_bytes line more 10, inl (sym (parts.0 ∙ append-nil line), left ∙ ap Some (sym parts.1)))

ended_whole : (bytes line : List ℕ) (new : Option (List ℕ)) → bytes ≡ line → HasNone line → new ≡ Some [] → MatchBool (not (length line == 0)) (IsFirstLine bytes line new) (bytes ≡ [])
ended_whole bytes [] new e a left = e
ended_whole bytes (b ∷ line) new e a left =
    let all = first_line-all (b ∷ line) a in
    let first : IsFirstLine (b ∷ line) (b ∷ line) new = (omega arith, inl (sym all.0, left ∙ ap Some (sym all.1))) in
    rw (some_test (length line), e) first

-- the end of the bytes ends the line, if there is one
pub bytes-ended : (old now new : Option (List ℕ)) (line : List ℕ) → HasTaken old line now → HasNone line → TakesByte now None new → TakesLine old (not (length line == 0)) line new
bytes-ended None now new line h a t = tt
bytes-ended (Some bytes) now new line (rest, e, l) a t =
    let (none, left) = rw l at t in
    ended_whole bytes line new (e ∙ ap (λ (xs : List ℕ). line ++ xs) none ∙ append-nil line) a left

-- more bytes without a line feed than a line may have
pub line-too-long : (old now : Option (List ℕ)) (line : List ℕ) → HasTaken old line now → HasNone line → longest_line < length line → TakesLine old true line now
line-too-long None now line h a long = tt
line-too-long (Some bytes) now line (rest, e, l) a long =
    let parts = first_line-front line rest a in
    let more : longest_line < length (line ++ first_line rest) = omega (arith, long, length-append line (first_line rest)) in
    rw e (omega (arith, more, long, length-append line rest), inr (long, rw parts.0 more))
