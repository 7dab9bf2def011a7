-- What is read of a list of words, behind what has been read of those before.
use Rattle.std.proofs.Common.{◌≡◌, List, [], ◌∷◌, ◌++◌, Result, Ok, Err, refl, sym, ap, append_assoc}
use Rattle.text_lines.specs.FirstFault.{◌>>=◌}
use Rattle.trace_lines.specs.declared.faults.TraceFault.{TraceFault}

-- the items so far, and then those that are read
abbrev pub with_front : {A : Type 0} → List A → Result (List A) TraceFault → Result (List A) TraceFault
with_front front (Ok items) = Ok (front ++ items)
with_front front (Err e) = Err e

pub with_front-none : {A : Type 0} (r : Result (List A) TraceFault) → with_front [] r ≡ r
with_front-none (Ok items) = refl
with_front-none (Err e) = refl

pub with_front-more : {A : Type 0} (front : List A) (item : A) (r : Result (List A) TraceFault) → with_front front (r >>= λ items. Ok (item ∷ items)) ≡ with_front (front ++ item ∷ []) r
with_front-more front item (Ok items) = ap Ok (sym (append_assoc front (item ∷ []) items))
with_front-more front item (Err e) = refl
