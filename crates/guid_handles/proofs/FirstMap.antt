-- The entries of the one map of number lists.
use Rattle.std.proofs.Math.ListN.{set}
use Rattle.std.proofs.Common.{get_or, ◌≡◌, ℕ, zero, suc, ◌==◌, false, List, [], ◌∷◌, length, Some, sym, ap, arith, subst}
use Rattle.std.specs.HashMap.{HashMap}
use Rattle.std.specs.List.{slice_get}
use Rattle.std.proofs.lemmas.Option.{same_Some}
use Rattle.guid_handles.specs.NumberLists.{entries_in}

pub first_entries : {S : Type 0} → (ms : List (HashMap ℕ (List ℕ) S)) (m : HashMap ℕ (List ℕ) S) → slice_get ms 0 ≡ Some m → m.entries ≡ entries_in ms
first_entries {S} [] m e = absurd cc
first_entries {S} (n ∷ ns) m e = ap (λ (k : HashMap ℕ (List ℕ) S). k.entries) (sym (same_Some n m e))

-- a change of the map is one of its entries
pub first_changed : {S : Type 0} → (P : List (ℕ × List ℕ) → List (ℕ × List ℕ) → Type 0) (ms : List (HashMap ℕ (List ℕ) S)) (n : ℕ) (old new : HashMap ℕ (List ℕ) S) → n ≡ length ms → (n == 0) ≡ false → old ≡ get_or ms 0 old → P old.entries new.entries
    → P (entries_in ms) (entries_in (set ms 0 new))
first_changed {S} P [] zero old new e f g h = absurd cc
first_changed {S} P [] (suc n) old new e f g h = absurd (omega (arith, e))
first_changed {S} P (m ∷ ms) n old new e f g h = subst (λ (k : HashMap ℕ (List ℕ) S). P k.entries new.entries) g h
