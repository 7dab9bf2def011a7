-- Words that are none of a block's lines.
use Rattle.std.proofs.Common.{◌≡◌, ◌⊎◌, ℕ, ◌<◌, List, [], ◌∷◌, length, None, refl, inl, inr, arith}
use Rattle.certificate_blocks.specs.BlockLines.{entry_of_words, request_of, bound_of}

-- not that many
abbrev pub OtherThan : ℕ → ℕ → List (List ℕ) → Type 0
OtherThan low high words = (length words < low) ⊎ (high < length words)

four : (words : List (List ℕ)) → OtherThan 4 4 words → length words ≡ 4 → ⊥
four words (inl h) e = omega arith
four words (inr h) e = omega arith

pub entry_other : (words : List (List ℕ)) → OtherThan 4 4 words → entry_of_words words ≡ None
entry_other [] h = refl
entry_other (a ∷ []) h = refl
entry_other (a ∷ b ∷ []) h = refl
entry_other (a ∷ b ∷ c ∷ []) h = refl
entry_other (a ∷ b ∷ c ∷ d ∷ []) h = absurd (four (a ∷ b ∷ c ∷ d ∷ []) h refl)
entry_other (a ∷ b ∷ c ∷ d ∷ e ∷ words) h = refl

five : (words : List (List ℕ)) → OtherThan 4 5 words → 3 < length words → length words < 6 → ⊥
five words (inl h) low high = omega arith
five words (inr h) low high = omega arith

pub request_other : (words : List (List ℕ)) → OtherThan 4 5 words → request_of words ≡ None
request_other [] h = refl
request_other (a ∷ []) h = refl
request_other (a ∷ b ∷ []) h = refl
request_other (a ∷ b ∷ c ∷ []) h = refl
request_other (a ∷ b ∷ c ∷ d ∷ []) h = absurd (five (a ∷ b ∷ c ∷ d ∷ []) h (omega arith) (omega arith))
request_other (a ∷ b ∷ c ∷ d ∷ e ∷ []) h = absurd (five (a ∷ b ∷ c ∷ d ∷ e ∷ []) h (omega arith) (omega arith))
request_other (a ∷ b ∷ c ∷ d ∷ e ∷ f ∷ words) h = refl

short : (words : List (List ℕ)) → OtherThan 3 4 words → 2 < length words → length words < 5 → ⊥
short words (inl h) low high = omega arith
short words (inr h) low high = omega arith

pub bound_other : (words : List (List ℕ)) → OtherThan 3 4 words → bound_of words ≡ None
bound_other [] h = refl
bound_other (a ∷ []) h = refl
bound_other (a ∷ b ∷ []) h = refl
bound_other (a ∷ b ∷ c ∷ []) h = absurd (short (a ∷ b ∷ c ∷ []) h (omega arith) (omega arith))
bound_other (a ∷ b ∷ c ∷ d ∷ []) h = absurd (short (a ∷ b ∷ c ∷ d ∷ []) h (omega arith) (omega arith))
bound_other (a ∷ b ∷ c ∷ d ∷ e ∷ words) h = refl
