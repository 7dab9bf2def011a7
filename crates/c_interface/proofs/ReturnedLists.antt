-- Values that are front_filled into a buffer one after another, and what is returned of handles.
use Rattle.std.proofs.Common.{◌≡◌, ℕ, zero, suc, ◌<◌, ◌+◌, ◌==◌, nat_lt, List, [], ◌∷◌, ◌++◌, length, take, drop, map, get_or, slice_index_or, slice_set, refl, sym, ap, subst, ◌∙◌, arith, Bool, true, false, nat_le, leb-true, leb-false, min}
use Rattle.std.proofs.Math.Nat.{min-eq_left, min-eq_right}
use Rattle.std.proofs.Math.ListN.{drop_of_length-le}
use Rattle.c_interface.specs.Buffers.{front_filled}
use Rattle.c_machines.specs.declared.guids.Guid.{Guid}
use Rattle.c_machines.specs.declared.guids.Interface.{Interface}
use Rattle.std.proofs.lemmas.Bool.{eqb-true, lt-ltb}
use Rattle.std.proofs.lemmas.List.{get_or-map, length-map, map-append, take_all}
use Rattle.std.proofs.Math.Seq.{take-suc}
use Rattle.c_machines.specs.Guids.{standard_guid, interface_in}

pub laid_more : {T : Type 0} (i : ℕ) (xs ys : List T) (x : T) → i < length xs → i < length ys → slice_index_or xs i x ≡ x → slice_set (take i xs ++ drop i ys) i x ≡ take (suc i) xs ++ drop (suc i) ys
laid_more i [] ys x a b e = absurd (omega arith)
laid_more i (z ∷ xs) [] x a b e = absurd (omega arith)
laid_more {T = T} zero (z ∷ xs) (y ∷ ys) x a b e = ap (λ (w : T). w ∷ ys) (sym e)
laid_more {T = T} (suc i) (z ∷ xs) (y ∷ ys) x a b e = ap (λ (ws : List T). z ∷ ws) (laid_more i xs ys x (omega arith) (omega arith) e)

pub guid_laid : (i : ℕ) (gs : List (List ℕ)) (old buffer : List Guid) (g : List ℕ) (v : Guid) → i < length gs → i < length old → g ≡ get_or gs i g → v ≡ standard_guid g →
    buffer ≡ take i (map standard_guid gs) ++ drop i old → slice_set buffer i v ≡ take (i + 1) (map standard_guid gs) ++ drop (i + 1) old
guid_laid i gs old buffer g v a b is e k =
    let next : i + 1 ≡ suc i = omega arith in
    let there : get_or (map standard_guid gs) i (standard_guid g) ≡ standard_guid g = get_or-map standard_guid gs i g (standard_guid g) a ∙ ap standard_guid (sym is) in
    rw (k, e, next) (laid_more i (map standard_guid gs) old (standard_guid g) (subst (λ n. i < n) (sym (length-map gs standard_guid)) a) b there)

pub no_pairs : (is : List Interface) → (length is == 0) ≡ true → [] ≡ map interface_in is
no_pairs [] h = refl
no_pairs (i ∷ is) h = absurd (let e : suc (length is) ≡ 0 = eqb-true (suc (length is)) 0 h in omega (arith, e))

pub some_pairs : (is : List Interface) → (length is == 0) ≡ false → nat_lt 0 (length (map interface_in is)) ≡ true
some_pairs [] h = absurd (let e : true ≡ false = h in cc)
some_pairs (i ∷ is) h = lt-ltb 0 (length (map interface_in (i ∷ is))) (omega arith)

pub pairs_more : (i : ℕ) (xs : List Interface) (d : Interface) → i < length xs → map interface_in (take i xs) ++ interface_in (get_or xs i d) ∷ [] ≡ map interface_in (take (i + 1) xs)
pairs_more i xs d a =
    let next : i + 1 ≡ suc i = omega arith in
    sym (map-append interface_in (take i xs) (get_or xs i d ∷ [])) ∙ ap (map interface_in) (sym (take-suc xs i d a) ∙ ap (λ n. take n xs) (sym next))

pub filled_whole : {T : Type 0} (i : ℕ) (xs ys : List T) → i ≡ min (length xs) (length ys) → take i xs ++ drop i ys ≡ front_filled xs ys
filled_whole i xs ys e =
    let by : (b : Bool) → nat_le (length xs) (length ys) ≡ b → take i xs ++ drop i ys ≡ front_filled xs ys = λ b. elim b as (λ b. nat_le (length xs) (length ys) ≡ b → take i xs ++ drop i ys ≡ front_filled xs ys) [
      | true ↦ λ h. let l = leb-true (length xs) (length ys) h in let n = e ∙ min-eq_left l in rw (n, take_all (length xs) xs (omega arith), take_all (length ys) xs l) refl
      | false ↦ λ h. let l = leb-false (length xs) (length ys) h in let n = e ∙ min-eq_right (omega arith) in rw (n, drop_of_length-le ys {i = length ys} (omega arith), drop_of_length-le ys {i = length xs} (omega arith)) refl
    ] in
    by (nat_le (length xs) (length ys)) refl

pub length_guids : (gs : List (List ℕ)) → length gs ≡ length (map standard_guid gs)
length_guids gs = sym (length-map gs standard_guid)
