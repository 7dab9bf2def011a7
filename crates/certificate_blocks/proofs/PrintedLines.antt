-- Lines as they are printed, read back.
use Rattle.std.proofs.Common.{◌≡◌, ℕ, zero, suc, ◌+◌, ◌-◌, ◌*◌, ◌<◌, ◌≤◌, false, not, ◌==◌, nat_lt, List, [], ◌∷◌, ◌++◌, length, map, flat_map, filter, Option, Some, Ok, refl, sym, ap, ◌∙◌, arith, le-ltb, ne_eqb, append_assoc, append-nil, length-append}
use Rattle.std.specs.List.{AllByRecursion, slice_split, slice_index}
use Rattle.std.specs.Io.BufRead.{strip_last}
use Rattle.text_lines.specs.Words.{is_blank, words_of}
use Rattle.text_lines.specs.Lines.{lines_of, after_line}
use Rattle.text_lines.specs.Lines.{longest_line}
use Rattle.text_lines.specs.Printed.{space, line_feed}
use Rattle.certificate_blocks.specs.BlockText.{printed_line}
use Rattle.certificate_blocks.specs.Blocks.{line, said, times, most_block_lines}
use Rattle.text_lines.proofs.LineBytes.{HasNone, lines_of-none, lines_of-some, first_line-front}
use Rattle.text_lines.proofs.PrintedNumbers.{IsPlain, and_false}

-- words with single spaces between them
abbrev pub joined : List (List ℕ) → List ℕ
joined [] = []
joined (word ∷ []) = word
joined (word ∷ next ∷ words) = word ++ space ++ joined (next ∷ words)

-- a word of a block: some bytes, not many, none of them a blank or a control
pub record IsWord (word : List ℕ) : Type 0 where
  pub plain : IsPlain word
  pub some : 0 < length word
  pub short : length word ≤ 20

-- the words of a line of a block
abbrev pub AreWords : List (List ℕ) → Type 0
AreWords words = AllByRecursion IsWord words × (0 < length words) × (length words ≤ 5)

pub printed_is : (words : List (List ℕ)) → printed_line words ≡ joined words ++ line_feed
printed_is [] = refl
printed_is (word ∷ []) = refl
printed_is (word ∷ next ∷ words) = ap (λ (t : List ℕ). word ++ space ++ t) (printed_is (next ∷ words)) ∙ sym (append_assoc (word ++ space) (joined (next ∷ words)) line_feed)

-- ---- the words of a line

split_at : (word rest : List ℕ) → IsPlain word → slice_split is_blank (word ++ 32 ∷ rest) ≡ word ∷ slice_split is_blank rest
split_at [] rest p = refl
split_at (b ∷ word) rest p =
    let a : (b == 32) ≡ false = ne_eqb b 32 (λ e. absurd (omega (arith, p.0))) in
    let c : (b == 9) ≡ false = ne_eqb b 9 (λ e. absurd (omega (arith, p.0))) in
    rw (a, c, split_at word rest p.1) refl

split_none : (word : List ℕ) → IsPlain word → slice_split is_blank word ≡ word ∷ []
split_none [] p = refl
split_none (b ∷ word) p =
    let a : (b == 32) ≡ false = ne_eqb b 32 (λ e. absurd (omega (arith, p.0))) in
    let c : (b == 9) ≡ false = ne_eqb b 9 (λ e. absurd (omega (arith, p.0))) in
    rw (a, c, split_none word p.1) refl

split_joined : (words : List (List ℕ)) → 0 < length words → AllByRecursion IsWord words → slice_split is_blank (joined words) ≡ words
split_joined [] s a = absurd (omega arith)
split_joined (word ∷ []) s a = split_none word a.0.plain
split_joined (word ∷ next ∷ words) s a =
    ap (slice_split is_blank) (append_assoc word space (joined (next ∷ words))) ∙ split_at word (joined (next ∷ words)) a.0.plain ∙ ap (λ (ws : List (List ℕ)). word ∷ ws) (split_joined (next ∷ words) (omega arith) a.1)

none_empty : (words : List (List ℕ)) → AllByRecursion IsWord words → filter (λ word. not (length word == 0)) words ≡ words
none_empty [] a = refl
none_empty (word ∷ words) a =
    let e : (length word == 0) ≡ false = ne_eqb (length word) 0 (λ z. absurd (omega (arith, a.0.some))) in
    rw (e, none_empty words a.1) refl

pub joined_words : (words : List (List ℕ)) → AreWords words → words_of (joined words) ≡ words
joined_words words (a, s, m) = ap (filter (λ word. not (length word == 0))) (split_joined words s a) ∙ none_empty words a

-- ---- bytes of a line

-- no byte is a line feed or a carriage return
abbrev Keeps : List ℕ → Type 0
Keeps bytes = AllByRecursion (λ b. 31 < b) bytes

plain_keeps : (bytes : List ℕ) → IsPlain bytes → Keeps bytes
plain_keeps [] p = tt
plain_keeps (b ∷ bytes) p = (omega (arith, p.0), plain_keeps bytes p.1)

append_keeps : (xs ys : List ℕ) → Keeps xs → Keeps ys → Keeps (xs ++ ys)
append_keeps [] ys p q = q
append_keeps (x ∷ xs) ys p q = (p.0, append_keeps xs ys p.1 q)

joined_keeps : (words : List (List ℕ)) → AllByRecursion IsWord words → Keeps (joined words)
joined_keeps [] a = tt
joined_keeps (word ∷ []) a = plain_keeps word a.0.plain
joined_keeps (word ∷ next ∷ words) a = append_keeps (word ++ space) (joined (next ∷ words)) (append_keeps word space (plain_keeps word a.0.plain) (omega arith, tt)) (joined_keeps (next ∷ words) a.1)

no_line_feed : (bytes : List ℕ) → Keeps bytes → HasNone bytes
no_line_feed [] k = tt
no_line_feed (b ∷ bytes) k = (ne_eqb b 10 (λ e. absurd (omega (arith, k.0))), no_line_feed bytes k.1)

at_least : (bytes : List ℕ) (i : ℕ) → i < length bytes → Keeps bytes → 31 < slice_index bytes i
at_least [] i l k = absurd (omega arith)
at_least (b ∷ bytes) zero l k = k.0
at_least (b ∷ bytes) (suc i) l k = at_least bytes i (omega arith) k.1

no_return : (bytes : List ℕ) → Keeps bytes → strip_last 13 bytes ≡ bytes
no_return [] k = refl
no_return (b ∷ bytes) k =
    let last = at_least (b ∷ bytes) (length (b ∷ bytes) - 1) (omega arith) k in
    let e : (slice_index (b ∷ bytes) (length (b ∷ bytes) - 1) == 13) ≡ false = ne_eqb (slice_index (b ∷ bytes) (length (b ∷ bytes) - 1)) 13 (λ z. absurd (omega (arith, last))) in
    rw (e, and_false (nat_lt 0 (length (b ∷ bytes)))) refl

joined_short : (words : List (List ℕ)) → AllByRecursion IsWord words → length (joined words) ≤ 21 * length words
joined_short [] a = omega arith
joined_short (word ∷ []) a = omega (arith, a.0.short)
joined_short (word ∷ next ∷ words) a = omega (arith, a.0.short, joined_short (next ∷ words) a.1, length-append (word ++ space) (joined (next ∷ words)), length-append word space)

-- ---- the lines of a text

pub text_lines : (lines : List (List (List ℕ))) → AllByRecursion AreWords lines → lines_of (flat_map printed_line lines) ≡ map joined lines
text_lines [] a = lines_of-none
text_lines (words ∷ lines) a =
    let rest = flat_map printed_line lines in
    let front = joined words in
    let none = no_line_feed front (joined_keeps words a.0.0) in
    let text : printed_line words ++ rest ≡ front ++ 10 ∷ rest = ap (λ (t : List ℕ). t ++ rest) (printed_is words) ∙ append_assoc front line_feed rest in
    let some : 0 < length (front ++ 10 ∷ rest) = omega (arith, length-append front (10 ∷ rest)) in
    let first = first_line-front front (10 ∷ rest) none in
    ap lines_of text ∙ lines_of-some (front ++ 10 ∷ rest) some ∙ ap (λ (l : List ℕ). l ∷ lines_of (after_line (front ++ 10 ∷ rest))) (first.0 ∙ append-nil front)
    ∙ ap (λ (t : List ℕ). front ∷ lines_of t) first.1 ∙ ap (λ (ls : List (List ℕ)). front ∷ ls) (text_lines lines a.1)

-- ---- a line, read

module _ {A : Type 0} (meaning : List (List ℕ) → Option A) where
  pub line_read : (words : List (List ℕ)) (x : A) (number : ℕ) (rest : List (List ℕ)) → AreWords words → meaning words ≡ Some x → number ≤ most_block_lines → line meaning (record { number = number; lines = joined words ∷ rest }) ≡ Ok (x, record { number = number + 1; lines = rest })
  line_read words x number rest a m n =
      let short : length (joined words) ≤ longest_line = omega (arith, joined_short words a.0, a.2) in
      let says : said meaning (joined words) ≡ Some x = ap (λ (bytes : List ℕ). meaning (words_of bytes)) (no_return (joined words) (joined_keeps words a.0)) ∙ ap meaning (joined_words words a) ∙ m in
      rw (le-ltb most_block_lines number n, le-ltb longest_line (length (joined words)) short, says) refl

  -- a number of lines, each of which says a value
  pub times_read : (xs : List A) (words : A → List (List ℕ)) (number : ℕ) (rest : List (List ℕ)) → AllByRecursion (λ x. AreWords (words x) × (meaning (words x) ≡ Some x)) xs → number + length xs ≤ most_block_lines + 1 → times (length xs) (line meaning) (record { number = number; lines = map joined (map words xs) ++ rest }) ≡ Ok (xs, record { number = number + length xs; lines = rest })
  unfolding times
  times_read [] words number rest a n = let e : number ≡ number + 0 = omega arith in ap (λ (m : ℕ). Ok ([], record { number = m; lines = rest })) e
  times_read (x ∷ xs) words number rest a n =
      let more = map joined (map words xs) ++ rest in
      let next : number + 1 + length xs ≡ number + length (x ∷ xs) = omega arith in
      rw (line_read (words x) x number more a.0.0 a.0.1 (omega arith), times_read xs words (number + 1) rest a.1 (omega arith), next) refl
