-- Bytes written one field behind the other.
use Rattle.std.proofs.Common.{◌≡◌, ℕ, ◌+◌, ◌-◌, List, [], ◌++◌, length, take, drop, sym, ap, ◌∙◌, append_assoc, arith}
use Rattle.std.proofs.lemmas.List.{drop-drop, append-nil, take_rest, length-drop}
use Rattle.std.proofs.Math.ListN.{drop_of_length-le}
use Rattle.std.proofs.Math.Seq.{take-append_seam, drop-append-add}
use borrow.Rule.Slice.PartMut.{put_mid, mid_of}

-- a write into the part of a slice from a place on
pub put_from : (xs field new : List ℕ) (at n : ℕ) → new ≡ field ++ drop n (mid_of at (length xs - at) xs) → put_mid at (length xs - at) xs new ≡ take at xs ++ field ++ drop (at + n) xs
put_from xs field new at n e =
    let rest : drop n (mid_of at (length xs - at) xs) ≡ drop (at + n) xs = ap (drop n) (take_rest xs at) ∙ drop-drop n at xs in
    let past : drop (length xs - at) (drop at xs) ≡ [] = drop_of_length-le (drop at xs) (omega (arith, length-drop at xs)) in
    ap (λ (ys : List ℕ). take at xs ++ (ys ++ drop (length xs - at) (drop at xs))) (e ∙ ap (λ (ys : List ℕ). field ++ ys) rest)
    ∙ ap (λ (ys : List ℕ). take at xs ++ ((field ++ drop (at + n) xs) ++ ys)) past
    ∙ ap (λ (ys : List ℕ). take at xs ++ ys) (append-nil (field ++ drop (at + n) xs))
    ∙ sym (append_assoc (take at xs) field (drop (at + n) xs))

-- a field behind those at the front of what was there
pub field_behind : (old xs front field : List ℕ) (at n : ℕ) → xs ≡ front ++ drop at old → length front ≡ at → take at xs ++ field ++ drop (at + n) xs ≡ front ++ field ++ drop (at + n) old
field_behind old xs front field at n e f =
    let before : take at xs ≡ front = ap (take at) e ∙ ap (λ (k : ℕ). take k (front ++ drop at old)) (sym f) ∙ take-append_seam front (drop at old) in
    let after : drop (at + n) xs ≡ drop (at + n) old =
    ap (drop (at + n)) e ∙ ap (λ (k : ℕ). drop (k + n) (front ++ drop at old)) (sym f) ∙ drop-append-add front (drop at old) n ∙ drop-drop n at old in
    ap (λ (ys : List ℕ). ys ++ field ++ drop (at + n) xs) before ∙ ap (λ (ys : List ℕ). front ++ field ++ ys) after
