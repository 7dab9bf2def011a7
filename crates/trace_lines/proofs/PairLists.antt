-- Words read as pairs, one pair after the other.
use Rattle.std.proofs.Common.{◌≡◌, ℕ, ◌-◌, ◌%◌, ◌==◌, ◌<◌, ◌≤◌, false, List, [], ◌∷◌, ◌++◌, length, take, drop, map, Result, Ok, Err, refl, append-nil, arith, Bor}
use Rattle.std.proofs.lemmas.List.{take_rest, length-map}
use Rattle.text_lines.specs.FirstFault.{◌>>=◌}
use Rattle.trace_lines.specs.declared.faults.TraceFault.{TraceFault}
use Rattle.trace_lines.specs.Parameters.{guid_of, u64_of, pairs_of}
use Rattle.boot_calls.specs.declared.calls.Call.TheVariants.{InstallMultipleProtocolInterfaces}
use Rattle.trace_verbs.specs.declared.verbs.Verb.TheVariants as verb
use Rattle.trace_lines.specs.declared.lines.TraceCall.{TraceCall}
use Rattle.trace_lines.specs.declared.lines.TraceCall.TheVariants as trace_call
use Rattle.trace_lines.specs.TraceLine.{call_of}
use Rattle.trace_lines.proofs.ParameterLists.{at}
use Rattle.trace_lines.proofs.Fronts.{with_front, with_front-more}

-- what words ask for as pairs
abbrev pub pairs_in : List (Bor (List ℕ)) → Result (List (List ℕ × ℕ)) TraceFault
pairs_in words = pairs_of (map (λ word. word.now) words)

-- the first two words are a pair
opened : (words : List (Bor (List ℕ))) → 2 ≤ length words → pairs_in words ≡ (guid_of (at words 0) >>= λ g. u64_of (at words 1) >>= λ v. pairs_in (drop 2 words) >>= λ pairs. Ok ((g, v) ∷ pairs))
opened [] h = absurd (omega arith)
opened (guid ∷ []) h = absurd (omega arith)
opened (guid ∷ value ∷ words) h = refl

-- one pair more is read
pub pair_read : (words : List (Bor (List ℕ))) → 2 ≤ length words → (front : List (List ℕ × ℕ)) (g : List ℕ) (v : ℕ) → guid_of (at words 0) ≡ Ok g → u64_of (at words 1) ≡ Ok v →
    (more : List (List ℕ × ℕ)) → more ≡ front ++ (g, v) ∷ [] → with_front front (pairs_in words) ≡ with_front more (pairs_in (take (length words - 2) (drop 2 words)))
pair_read words two front g v ge ve more m = rw (m, take_rest words 2, opened words two, ge, ve) (with_front-more front (g, v) (pairs_in (drop 2 words)))

-- the first word is no GUID
pub guid_refused : (words : List (Bor (List ℕ))) → 2 ≤ length words → (front : List (List ℕ × ℕ)) (fault : TraceFault) → guid_of (at words 0) ≡ Err fault → with_front front (pairs_in words) ≡ Err fault
guid_refused words two front fault e = rw (opened words two, e) refl

-- the second word is no number
pub value_refused : (words : List (Bor (List ℕ))) → 2 ≤ length words → (front : List (List ℕ × ℕ)) (g : List ℕ) (fault : TraceFault) → guid_of (at words 0) ≡ Ok g → u64_of (at words 1) ≡ Err fault →
    with_front front (pairs_in words) ≡ Err fault
value_refused words two front g fault ge e = rw (opened words two, ge, e) refl

-- no pair is left
pub all_read : (words : List (Bor (List ℕ))) (front : List (List ℕ × ℕ)) → length words < 2 → with_front front (pairs_in words) ≡ Ok front
all_read [] front h = rw (append-nil front) refl
all_read (word ∷ []) front h = rw (append-nil front) refl
all_read (guid ∷ value ∷ words) front h = absurd (omega arith)

-- ---- install-many

abbrev many_of : (A : Type 0) → ℕ → List (List ℕ × ℕ) → Result (TraceCall A) TraceFault
many_of A h pairs = Ok (trace_call.Service (InstallMultipleProtocolInterfaces h pairs))

-- what is asked for where the words after the first are pairs
pub many_asked : {A : Type 0} (parameters : List (Bor (List ℕ))) → 1 ≤ length parameters → let words = take (length parameters - 1) (drop 1 parameters) in
    (length words == 0) ≡ false → length words % 2 ≡ 0 → call_of verb.InstallMany (map (λ word. word.now) parameters) ≡ (u64_of (at parameters 0) >>= λ h. pairs_in words >>= many_of A h)
many_asked [] some filled even = absurd (omega arith)
many_asked (handle ∷ []) some filled even = absurd (cc)
many_asked (handle ∷ guid ∷ []) some filled even = absurd (omega arith)
many_asked (handle ∷ guid ∷ value ∷ words) some filled even =
    let whole = take_rest (handle ∷ guid ∷ value ∷ words) 1 in
    let pairs : length (guid ∷ value ∷ words) % 2 ≡ 0 = rw whole at even in
    let others : length words % 2 ≡ 0 = omega (arith, pairs) in
    let left : length (map (λ (word : Bor (List ℕ)). word.now) words) % 2 ≡ 0 = rw (length-map words (λ (word : Bor (List ℕ)). word.now)) others in
    rw (whole, left) refl
