-- Entries of the memory map that are laid into a buffer one behind the other.
use Rattle.std.proofs.Common.{◌≡◌, ℕ, suc, ◌<◌, ◌≤◌, ◌+◌, List, [], ◌∷◌, ◌++◌, length, drop, map, slice_set, refl, sym, ap, subst, ◌∙◌, arith}
use Rattle.std.proofs.lemmas.List.{length-append, length-drop, length-map, map-append}
use Rattle.page_ranges.specs.declared.ranges.Descriptor.{Descriptor}
use Rattle.c_interface.specs.declared.checks.MapEntry.{MapEntry}
use Rattle.c_interface.specs.Checks.{entry_in_c}

-- a value behind those that are laid
laid_behind : {T : Type 0} (front old : List T) (x : T) → length front < length old →
    slice_set (front ++ drop (length front) old) (length front) x ≡ (front ++ x ∷ []) ++ drop (suc (length front)) old
laid_behind front [] x a = absurd (omega arith)
laid_behind [] (y ∷ ys) x a = refl
laid_behind {T = T} (z ∷ zs) (y ∷ ys) x a = ap (λ (ws : List T). z ∷ ws) (laid_behind zs ys x (omega arith))

pub entry_laid : (ds : List Descriptor) (d : Descriptor) (old buffer : List MapEntry) (n : ℕ) → n ≡ length ds → n < length old →
    buffer ≡ map entry_in_c ds ++ drop n old → slice_set buffer n (entry_in_c d) ≡ map entry_in_c (ds ++ d ∷ []) ++ drop (n + 1) old
entry_laid ds d old buffer n e a is =
    let count : length (map entry_in_c ds) ≡ n = length-map ds entry_in_c ∙ sym e in
    let next : n + 1 ≡ suc n = omega arith in
    rw (is, next, map-append entry_in_c ds (d ∷ []))
    (subst (λ k. slice_set (map entry_in_c ds ++ drop k old) k (entry_in_c d) ≡ (map entry_in_c ds ++ entry_in_c d ∷ []) ++ drop (suc k) old) count
    (laid_behind (map entry_in_c ds) old (entry_in_c d) (subst (λ k. k < length old) (sym count) a)))

-- the buffer keeps its length
pub length_laid : (ds : List Descriptor) (old : List MapEntry) (n : ℕ) → n ≡ length ds → n ≤ length old →
    length (map entry_in_c ds ++ drop n old) ≡ length old
length_laid ds old n e a = omega (arith, length-append (map entry_in_c ds) (drop n old), length-map ds entry_in_c, length-drop n old, e)
