-- Pages in a row that are free by their marks.
use Rattle.std.proofs.Common.{inl, inr, ◌≡◌, ℕ, zero, suc, ◌+◌, ◌<◌, ◌≤◌, List, ◌∷◌, length, replicate, take, drop, get_or, refl, ap, subst, ◌∙◌, arith, ◌⊎◌}
use Rattle.std.proofs.Math.Seq.{drop-cons}
use Rattle.std.proofs.lemmas.Bool.{cases_lt}
use Rattle.std.proofs.lemmas.List.{get_or_past}
use Rattle.raw_pool.specs.PageMarks.{AreFree}

by_order : {X : Type 0} {a b : ℕ} → (a < b) ⊎ (b ≤ a) → (a < b → X) → (b ≤ a → X) → X
by_order (inl l) below above = below l
by_order (inr g) below above = above g

-- a page whose mark is 0 is one of those in a row
pub marked_inside : (marks : List ℕ) (at : ℕ) → get_or marks at 1 ≡ 0 → at < length marks
marked_inside marks at e = by_order (cases_lt at (length marks)) (λ lt. lt) (λ ge. let past : get_or marks at 1 ≡ 1 = get_or_past marks at 1 ge in omega (arith, past, e))

pub free_list : (n : ℕ) (marks : List ℕ) (at : ℕ) → AreFree marks at n → take n (drop at marks) ≡ replicate n 0
free_list zero marks at are = refl
free_list (suc n) marks at are =
    let here : get_or marks at 1 ≡ 0 = subst (λ (k : ℕ). get_or marks k 1 ≡ 0) (let e : at + 0 ≡ at = omega arith in e) (are 0 (omega arith)) in
    ap (take (suc n)) (drop-cons marks at 1 (marked_inside marks at here))
    ∙ ap (λ (m : ℕ). m ∷ take n (drop (suc at) marks)) here
    ∙ ap (λ (ms : List ℕ). 0 ∷ ms) (free_list n marks (suc at) (λ i l. subst (λ (k : ℕ). get_or marks k 1 ≡ 0) (let e : at + suc i ≡ suc at + i = omega arith in e) (are (suc i) (omega arith))))

-- the pages from one up to another are free
abbrev pub FreeUpTo : List ℕ → ℕ → ℕ → Type 0
FreeUpTo marks from to = (k : ℕ) → from ≤ k → k < to → get_or marks k 1 ≡ 0

pub up_to_next : (marks : List ℕ) (from to : ℕ) → FreeUpTo marks from to → get_or marks to 1 ≡ 0 → FreeUpTo marks from (to + 1)
up_to_next marks from to are here k low high = by_order (cases_lt k to) (are k low) (λ ge. subst (λ (j : ℕ). get_or marks j 1 ≡ 0) (let e : to ≡ k = omega arith in e) here)

pub up_to_free : (marks : List ℕ) (at n : ℕ) → FreeUpTo marks at (at + n) → AreFree marks at n
up_to_free marks at n are i l = are (at + i) (omega arith) (omega arith)

pub free_within : (marks : List ℕ) (at n : ℕ) → 0 < n → AreFree marks at n → at + n ≤ length marks
free_within marks at zero some are = absurd (let none : 0 < 0 = some in omega (arith, none))
free_within marks at (suc n) some are = let last = marked_inside marks (at + n) (are n (omega arith)) in omega arith
