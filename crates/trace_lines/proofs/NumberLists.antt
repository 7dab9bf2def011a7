-- Words read as numbers, one after the other.
use Rattle.std.proofs.Common.{◌≡◌, ℕ, zero, suc, ◌+◌, ◌-◌, ◌<◌, ◌≤◌, List, [], ◌∷◌, ◌++◌, length, take, drop, map, Result, Ok, Err, refl, append-nil, arith, Bor}
use Rattle.std.proofs.lemmas.List.{take_rest}
use Rattle.text_lines.specs.FirstFault.{◌>>=◌}
use Rattle.trace_lines.specs.declared.faults.TraceFault.{TraceFault}
use Rattle.trace_lines.specs.Parameters.{u64_of, u64s_of, flag_of}
use Rattle.boot_calls.specs.declared.calls.Call.TheVariants.{ConnectController}
use Rattle.trace_verbs.specs.declared.verbs.Verb.TheVariants as verb
use Rattle.trace_lines.specs.declared.lines.TraceCall.TheVariants as trace_call
use Rattle.trace_lines.specs.TraceLine.{call_of}
use Rattle.trace_lines.proofs.Fronts.{with_front, with_front-more}
use Rattle.trace_lines.proofs.ParameterLists.{at}

-- what words ask for as numbers
abbrev pub numbers_in : List (Bor (List ℕ)) → Result (List ℕ) TraceFault
numbers_in words = u64s_of (map (λ word. word.now) words)

read_next : (words : List (Bor (List ℕ))) (i : ℕ) → i < length words → (front : List ℕ) (n : ℕ) → u64_of (at words i) ≡ Ok n →
    with_front front (numbers_in (drop i words)) ≡ with_front (front ++ n ∷ []) (numbers_in (drop (suc i) words))
read_next [] i h front n e = absurd (omega (arith, h))
read_next (word ∷ words) zero h front n e = rw e (with_front-more front n (numbers_in words))
read_next (word ∷ words) (suc i) h front n e = read_next words i (omega (arith, h)) front n e

-- one number more is read
pub number_read : (words : List (Bor (List ℕ))) (i : ℕ) → i < length words → (front : List ℕ) (n : ℕ) → u64_of (at words i) ≡ Ok n →
    (more : List ℕ) → more ≡ front ++ n ∷ [] → with_front front (numbers_in (drop i words)) ≡ with_front more (numbers_in (drop (i + 1) words))
number_read words i h front n e more m = let next : i + 1 ≡ suc i = omega arith in rw (m, next) (read_next words i h front n e)

-- the next word is no number
pub number_refused : (words : List (Bor (List ℕ))) (i : ℕ) → i < length words → (front : List ℕ) (fault : TraceFault) → u64_of (at words i) ≡ Err fault → with_front front (numbers_in (drop i words)) ≡ Err fault
number_refused [] i h front fault e = absurd (omega (arith, h))
number_refused (word ∷ words) zero h front fault e = rw e refl
number_refused (word ∷ words) (suc i) h front fault e = number_refused words i (omega (arith, h)) front fault e

-- no word is left
pub numbers_read : (words : List (Bor (List ℕ))) (i : ℕ) → length words ≤ i → (front : List ℕ) → with_front front (numbers_in (drop i words)) ≡ Ok front
numbers_read [] zero h front = rw (append-nil front) refl
numbers_read [] (suc i) h front = rw (append-nil front) refl
numbers_read (word ∷ words) zero h front = absurd (omega (arith, h))
numbers_read (word ∷ words) (suc i) h front = numbers_read words i (omega (arith, h)) front

-- ---- connect

-- what `connect` asks for: the words after the second are drivers
pub connect_asked : {A : Type 0} (parameters : List (Bor (List ℕ))) → 2 ≤ length parameters →
    call_of {A = A} verb.Connect (map (λ word. word.now) parameters) ≡ (u64_of (at parameters 0) >>= λ h. flag_of (at parameters 1) >>= λ r. numbers_in (take (length parameters - 2) (drop 2 parameters)) >>= λ ds. Ok (trace_call.Service (ConnectController h ds r)))
connect_asked [] some = absurd (omega arith)
connect_asked (handle ∷ []) some = absurd (omega arith)
connect_asked (handle ∷ recursive ∷ drivers) some = let whole = take_rest (handle ∷ recursive ∷ drivers) 2 in rw whole refl
