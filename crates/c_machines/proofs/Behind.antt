-- A driver that is put behind others, and filled there.
use Rattle.std.proofs.Common.{◌≡◌, ◌∙◌, ℕ, ◌+◌, List, [], ◌∷◌, ◌++◌, length, take, drop, slice_set, refl, sym, ap, subst, arith}
use Rattle.std.proofs.lemmas.List.{length-append, take-append-drop}
use Rattle.std.proofs.Math.Seq.{set-append_seam, take-append_seam}
use Rattle.driver_connect.specs.declared.table.TableDriver.{TableDriver}
use Rattle.c_machines.specs.DriverTables.{PutsOneBehind}

pub put_behind : (old : List TableDriver) (d : TableDriver) → PutsOneBehind old (old ++ d ∷ [])
put_behind old d = (length-append old (d ∷ []), take-append_seam old (d ∷ []))

one : {X : Type 0} (xs : List X) → length xs ≡ 1 → (x : X) × (xs ≡ x ∷ [])
one [] l = absurd (omega (arith, l))
one (x ∷ []) l = (x, refl)
one (x ∷ y ∷ xs) l = absurd (omega (arith, l))

pub set_behind : {X : Type 0} (old xs : List X) (y : X) → length xs ≡ length old + 1 → take (length old) xs ≡ old → slice_set xs (length old) y ≡ old ++ y ∷ []
set_behind {X = X} old xs y count front =
    let rest = drop (length old) xs in
    let whole : old ++ rest ≡ xs = ap (λ (zs : List X). zs ++ rest) (sym front) ∙ take-append-drop (length old) xs in
    let (x, is) = one rest (omega (arith, count, length-append old rest, ap length whole)) in
    subst (λ (zs : List X). slice_set zs (length old) y ≡ old ++ y ∷ []) (ap (λ (r : List X). old ++ r) (sym is) ∙ whole) (set-append_seam old x [] y)
