-- A list that is written over one of its length.
use Rattle.std.proofs.Common.{◌≡◌, ℕ, ◌++◌, Bool, true, false, cond, List, [], ◌∷◌, take, drop, length, Option, Some, None, IsSome, refl, ap, ◌∙◌, arith}
use Rattle.std.proofs.Math.Seq.{take-append_seam}
use Rattle.std.proofs.lemmas.Option.{same_Some}
use Rattle.guid_handles.specs.HandleTables.{written_over}

-- a list over one of its length is that list
written_whole : {X : Type 0} (xs out : List X) → length out ≡ length xs → written_over xs out ≡ xs
written_whole [] [] e = refl
written_whole [] (y ∷ out) e = absurd (omega (arith, e))
written_whole (x ∷ xs) [] e = absurd (omega (arith, e))
written_whole (x ∷ xs) (y ∷ out) e = ap (λ r. x ∷ r) (written_whole xs out (omega (arith, e)))

-- What a look-up gave the length of is written over a list of that length.
pub returned_whole : {X : Type 0} (live : Bool) (xs : List X) (count len : ℕ) (returned : Option ℕ) (out new : List X) → Some count ≡ cond live (Some (length xs)) None → returned ≡ cond live (Some (length xs)) None
    → len ≡ count → length out ≡ len → (IsSome returned → new ≡ written_over xs out) → (live ≡ true) × (take len (new ++ drop (length new) out) ≡ xs)
returned_whole false xs count len returned out new a b c d f = absurd cc
returned_whole true xs count len returned out new a b c d f =
    let n : len ≡ length xs = c ∙ same_Some count (length xs) a in
    let same : new ≡ xs = f (rw b refl) ∙ written_whole xs out (d ∙ n) in
    (refl, rw (same, n) (take-append_seam xs (drop (length xs) out)))
