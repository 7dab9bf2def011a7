-- Parameters, as many as a verb takes.
use Rattle.std.proofs.Common.{◌≡◌, ℕ, ◌<◌, ◌≤◌, List, [], ◌∷◌, length, map, get_or, refl, arith, Bor}

-- what is printed where there is no parameter
abbrev pub none : Bor (List ℕ)
none = record { ref_ptr = (0, 0); now = [] }

-- a parameter
abbrev pub at : List (Bor (List ℕ)) → ℕ → List ℕ
at parameters i = (get_or parameters i none).now

pub one : (parameters : List (Bor (List ℕ))) → 1 ≤ length parameters → length parameters < 2 → map (λ word. word.now) parameters ≡ at parameters 0 ∷ []
one [] h l = absurd (omega arith)
one (a ∷ []) h l = refl
one (a ∷ b ∷ more) h l = absurd (omega arith)

pub two : (parameters : List (Bor (List ℕ))) → 2 ≤ length parameters → length parameters < 3 → map (λ word. word.now) parameters ≡ at parameters 0 ∷ at parameters 1 ∷ []
two [] h l = absurd (omega arith)
two (a ∷ []) h l = absurd (omega arith)
two (a ∷ b ∷ []) h l = refl
two (a ∷ b ∷ c ∷ more) h l = absurd (omega arith)

pub three : (parameters : List (Bor (List ℕ))) → 3 ≤ length parameters → length parameters < 4 → map (λ word. word.now) parameters ≡ at parameters 0 ∷ at parameters 1 ∷ at parameters 2 ∷ []
three [] h l = absurd (omega arith)
three (a ∷ []) h l = absurd (omega arith)
three (a ∷ b ∷ []) h l = absurd (omega arith)
three (a ∷ b ∷ c ∷ []) h l = refl
three (a ∷ b ∷ c ∷ d ∷ more) h l = absurd (omega arith)

pub four : (parameters : List (Bor (List ℕ))) → 4 ≤ length parameters → length parameters < 5 → map (λ word. word.now) parameters ≡ at parameters 0 ∷ at parameters 1 ∷ at parameters 2 ∷ at parameters 3 ∷ []
four [] h l = absurd (omega arith)
four (a ∷ []) h l = absurd (omega arith)
four (a ∷ b ∷ []) h l = absurd (omega arith)
four (a ∷ b ∷ c ∷ []) h l = absurd (omega arith)
four (a ∷ b ∷ c ∷ d ∷ []) h l = refl
four (a ∷ b ∷ c ∷ d ∷ e ∷ more) h l = absurd (omega arith)

pub five : (parameters : List (Bor (List ℕ))) → 5 ≤ length parameters → length parameters < 6 → map (λ word. word.now) parameters ≡ at parameters 0 ∷ at parameters 1 ∷ at parameters 2 ∷ at parameters 3 ∷ at parameters 4 ∷ []
five [] h l = absurd (omega arith)
five (a ∷ []) h l = absurd (omega arith)
five (a ∷ b ∷ []) h l = absurd (omega arith)
five (a ∷ b ∷ c ∷ []) h l = absurd (omega arith)
five (a ∷ b ∷ c ∷ d ∷ []) h l = absurd (omega arith)
five (a ∷ b ∷ c ∷ d ∷ e ∷ []) h l = refl
five (a ∷ b ∷ c ∷ d ∷ e ∷ f ∷ more) h l = absurd (omega arith)
