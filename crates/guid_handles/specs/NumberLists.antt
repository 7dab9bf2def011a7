-- Lists of numbers, each found by a number.
use Rattle.std.specs.Prelude.{◌≡◌, ℕ, ◌==◌, ◌||◌, ◌++◌, nat_eq, not, false, cond, length, IfSome, List, [], ◌∷◌}
use Rattle.std.specs.List.{filter}
use Rattle.std.specs.HashMap.{HashMap}
use Rattle.std.specs.Map.{lookup}
use Rattle.std.specs.Option.{unwrap_or}

-- the entries of a map, of which there is one or none
abbrev pub entries_in : {S : Type 0} → List (HashMap ℕ (List ℕ) S) → List (ℕ × List ℕ)
entries_in [] = []
entries_in (m ∷ ms) = m.entries

-- the list of a number, which is empty if none is stored
abbrev pub list_of : List (ℕ × List ℕ) → ℕ → List ℕ
list_of lists n = unwrap_or (lookup (nat_eq n) lists) []

-- no list that is stored is empty
abbrev pub HaveMembers : List (ℕ × List ℕ) → Type 0
HaveMembers lists = (n : ℕ) → IfSome (lookup (nat_eq n) lists) (λ xs. (length xs == 0) ≡ false)

-- ---- what changes

-- a list with one more member
abbrev pub with_last : ℕ → List ℕ → List ℕ
with_last k xs = xs ++ k ∷ []

-- a list without a member
abbrev pub without : ℕ → List ℕ → List ℕ
without k xs = filter (λ x. not (x == k)) xs

-- the list of one number changes, and no other
abbrev pub ChangesList : ℕ → (List ℕ → List ℕ) → List (ℕ × List ℕ) → List (ℕ × List ℕ) → Type 0
ChangesList n f old new =
    (m : ℕ) → list_of new m ≡ cond (n == m) (f (list_of old m)) (list_of old m)

-- the lists of two numbers change, which may be one, and no other
abbrev pub ChangesLists : ℕ → ℕ → (List ℕ → List ℕ) → List (ℕ × List ℕ) → List (ℕ × List ℕ)
    → Type 0
ChangesLists n k f old new =
    (m : ℕ) → list_of new m ≡ cond ((n == m) || (k == m)) (f (list_of old m)) (list_of old m)

-- a number is a member of no list
abbrev pub IsFree : ℕ → List (ℕ × List ℕ) → Type 0
IsFree k lists = (m : ℕ) → without k (list_of lists m) ≡ list_of lists m
