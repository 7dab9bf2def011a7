-- Words behind spaces, read back as words.
use Rattle.std.proofs.Common.{◌≡◌, ℕ, zero, suc, ◌-◌, ◌<◌, false, not, ◌==◌, nat_lt, List, [], ◌∷◌, ◌++◌, length, filter, refl, ap, ◌∙◌, arith, ne_eqb, append-nil}
use Rattle.std.specs.List.{AllByRecursion, slice_split, slice_index}
use Rattle.std.specs.Io.BufRead.{strip_last}
use Rattle.text_lines.specs.Words.{is_blank, words_of}
use Rattle.text_lines.proofs.PrintedNumbers.{IsPlain, and_false}
use Rattle.call_texts.specs.CallText.{spaced}

-- a word: some bytes, none of them a blank or a control
pub record IsWord (word : List ℕ) : Type 0 where
  pub plain : IsPlain word
  pub some : 0 < length word

abbrev pub AreWords : List (List ℕ) → Type 0
AreWords words = AllByRecursion IsWord words

split_at : (word rest : List ℕ) → IsPlain word → slice_split is_blank (word ++ 32 ∷ rest) ≡ word ∷ slice_split is_blank rest
split_at [] rest p = refl
split_at (b ∷ word) rest p =
    let a : (b == 32) ≡ false = ne_eqb b 32 (λ e. absurd (omega (arith, p.0))) in
    let c : (b == 9) ≡ false = ne_eqb b 9 (λ e. absurd (omega (arith, p.0))) in
    rw (a, c, split_at word rest p.1) refl

split_none : (word : List ℕ) → IsPlain word → slice_split is_blank word ≡ word ∷ []
split_none [] p = refl
split_none (b ∷ word) p =
    let a : (b == 32) ≡ false = ne_eqb b 32 (λ e. absurd (omega (arith, p.0))) in
    let c : (b == 9) ≡ false = ne_eqb b 9 (λ e. absurd (omega (arith, p.0))) in
    rw (a, c, split_none word p.1) refl

split_spaced : (word : List ℕ) (words : List (List ℕ)) → IsPlain word → AreWords words → slice_split is_blank (word ++ spaced words) ≡ word ∷ words
split_spaced word [] p a = ap (slice_split is_blank) (append-nil word) ∙ split_none word p
split_spaced word (next ∷ words) p a =
    split_at word (next ++ spaced words) p ∙ ap (λ (ws : List (List ℕ)). word ∷ ws) (split_spaced next words a.0.plain a.1)

none_empty : (words : List (List ℕ)) → AreWords words → filter (λ word. not (length word == 0)) words ≡ words
none_empty [] a = refl
none_empty (word ∷ words) a =
    let e : (length word == 0) ≡ false = ne_eqb (length word) 0 (λ z. absurd (omega (arith, a.0.some))) in
    rw (e, none_empty words a.1) refl

pub spaced_words : (word : List ℕ) (words : List (List ℕ)) → IsWord word → AreWords words → words_of (word ++ spaced words) ≡ word ∷ words
spaced_words word words w a = ap (filter (λ word. not (length word == 0))) (split_spaced word words w.plain a) ∙ none_empty (word ∷ words) (w, a)

-- ---- no byte is a carriage return

abbrev pub Keeps : List ℕ → Type 0
Keeps bytes = AllByRecursion (λ b. 31 < b) bytes

pub plain_keeps : (bytes : List ℕ) → IsPlain bytes → Keeps bytes
plain_keeps [] p = tt
plain_keeps (b ∷ bytes) p = (omega (arith, p.0), plain_keeps bytes p.1)

pub append_keeps : (xs ys : List ℕ) → Keeps xs → Keeps ys → Keeps (xs ++ ys)
append_keeps [] ys p q = q
append_keeps (x ∷ xs) ys p q = (p.0, append_keeps xs ys p.1 q)

pub spaced_keeps : (words : List (List ℕ)) → AreWords words → Keeps (spaced words)
spaced_keeps [] a = tt
spaced_keeps (word ∷ words) a = (omega arith, append_keeps word (spaced words) (plain_keeps word a.0.plain) (spaced_keeps words a.1))

at_least : (bytes : List ℕ) (i : ℕ) → i < length bytes → Keeps bytes → 31 < slice_index bytes i
at_least [] i l k = absurd (omega arith)
at_least (b ∷ bytes) zero l k = k.0
at_least (b ∷ bytes) (suc i) l k = at_least bytes i (omega arith) k.1

no_return : (bytes : List ℕ) → Keeps bytes → strip_last 13 bytes ≡ bytes
no_return [] k = refl
no_return (b ∷ bytes) k =
    let last = at_least (b ∷ bytes) (length (b ∷ bytes) - 1) (omega arith) k in
    let e : (slice_index (b ∷ bytes) (length (b ∷ bytes) - 1) == 13) ≡ false = ne_eqb (slice_index (b ∷ bytes) (length (b ∷ bytes) - 1)) 13 (λ z. absurd (omega (arith, last))) in
    rw (e, and_false (nat_lt 0 (length (b ∷ bytes)))) refl

pub spaced_line : (word : List ℕ) (words : List (List ℕ)) → IsWord word → AreWords words → words_of (strip_last 13 (word ++ spaced words)) ≡ word ∷ words
spaced_line word words w a =
    ap words_of (no_return (word ++ spaced words) (append_keeps word (spaced words) (plain_keeps word w.plain) (spaced_keeps words a))) ∙ spaced_words word words w a
