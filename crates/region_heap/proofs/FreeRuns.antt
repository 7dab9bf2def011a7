-- Units in a row that are free by their marks.
use Rattle.std.proofs.Common.{inl, inr, ◌≡◌, ℕ, zero, suc, ◌+◌, ◌-◌, ◌<◌, ◌≤◌, List, ◌∷◌, length, replicate, take, drop, get_or, refl, sym, ap, subst, ◌∙◌, arith, ◌⊎◌}
use Rattle.std.proofs.Math.Seq.{drop-cons}
use Rattle.std.proofs.lemmas.Bool.{cases_lt}
use Rattle.std.proofs.lemmas.List.{get_or_past}
use Rattle.region_heap.specs.Marks.{AreFree}

by_order : {X : Type 0} {a b : ℕ} → (a < b) ⊎ (b ≤ a) → (a < b → X) → (b ≤ a → X) → X
by_order (inl l) below above = below l
by_order (inr g) below above = above g

-- a unit whose mark is 0 is one of the heap's
pub marked_inside : (marks : List ℕ) (at : ℕ) → get_or marks at 1 ≡ 0 → at < length marks
marked_inside marks at e = by_order (cases_lt at (length marks)) (λ lt. lt) (λ ge. let past : get_or marks at 1 ≡ 1 = get_or_past marks at 1 ge in omega (arith, past, e))

pub free_list : (n : ℕ) (marks : List ℕ) (at : ℕ) → AreFree marks at n → take n (drop at marks) ≡ replicate n 0
free_list zero marks at are = refl
free_list (suc n) marks at are =
    let here : get_or marks at 1 ≡ 0 = subst (λ (k : ℕ). get_or marks k 1 ≡ 0) (let e : at + 0 ≡ at = omega arith in e) (are 0 (omega arith)) in
    ap (take (suc n)) (drop-cons marks at 1 (marked_inside marks at here))
    ∙ ap (λ (m : ℕ). m ∷ take n (drop (suc at) marks)) here
    ∙ ap (λ (ms : List ℕ). 0 ∷ ms) (free_list n marks (suc at) (λ i l. subst (λ (k : ℕ). get_or marks k 1 ≡ 0) (let e : at + suc i ≡ suc at + i = omega arith in e) (are (suc i) (omega arith))))

pub free_ends : (marks : List ℕ) (at n : ℕ) → AreFree marks at (n + 1) → at + n < length marks
free_ends marks at n are = marked_inside marks (at + n) (are n (omega arith))

pub free_grows : (marks : List ℕ) (at free : ℕ) → free ≤ at → AreFree marks (at - free) free → get_or marks at 1 ≡ 0 → AreFree marks (at - free) (free + 1)
free_grows marks at free back run here i l =
    by_order (cases_lt i free) (run i) (λ ge. subst (λ (k : ℕ). get_or marks k 1 ≡ 0) (let e : at ≡ at - free + i = omega arith in e) here)

-- no free run from a unit on reaches a unit, or is longer than some
abbrev pub Ends : List ℕ → ℕ → ℕ → ℕ → Type 0
Ends marks at free units = (k n : ℕ) → k < at - free → AreFree marks k n → (n ≤ units) × (k + n < at)

pub ends_free : (marks : List ℕ) (at free units : ℕ) → Ends marks at free units → Ends marks (at + 1) (free + 1) units
ends_free marks at free units ends k n l are = let old = ends k n (omega arith) are in (old.0, omega arith)

pub ends_taken : (marks : List ℕ) (at free units mark : ℕ) → free ≤ units → Ends marks at free units → get_or marks at 1 ≡ mark → ¬ (mark ≡ 0) → Ends marks (at + 1) 0 units
ends_taken marks at free units mark few ends here taken k n l are =
    by_order (cases_lt k (at - free))
    (λ lt. let old = ends k n lt are in (old.0, omega arith))
    (λ ge. by_order (cases_lt (at - k) n)
    (λ long. absurd (taken (sym here ∙ subst (λ (j : ℕ). get_or marks j 1 ≡ 0) (let e : k + (at - k) ≡ at = omega arith in e) (are (at - k) long))))
    (λ short. (omega arith, omega arith)))

pub ends_none : (marks : List ℕ) (free units : ℕ) → free ≤ units → Ends marks (length marks) free units → (k : ℕ) → ¬ AreFree marks k (units + 1)
ends_none marks free units few ends k are =
    by_order (cases_lt k (length marks - free))
    (λ lt. let old = ends k (units + 1) lt are in omega arith)
    (λ ge. let inside = free_ends marks k units are in omega arith)

-- the units before one were passed: of them a number right before it are free, and no run that begins earlier serves
abbrev pub Passed : List ℕ → ℕ → ℕ → ℕ → Type 0
Passed marks at free units = (free ≤ units) × (free ≤ at) × AreFree marks (at - free) free × Ends marks at free units

pub passes_free : (marks : List ℕ) (at free units : ℕ) → Passed marks at free units → ¬ (free ≡ units) → get_or marks at 1 ≡ 0 → Passed marks (at + 1) (free + 1) units
passes_free marks at free units p other here =
    let same : at + 1 - (free + 1) ≡ at - free = omega arith in
    let fits : free + 1 ≤ units = by_order (cases_lt free units) (λ lt. omega arith) (λ ge. absurd (other (omega arith))) in
    (fits, omega arith, subst (λ (k : ℕ). AreFree marks k (free + 1)) (sym same) (free_grows marks at free p.1 p.2 here), ends_free marks at free units p.3)

pub passes_taken : (marks : List ℕ) (at free units : ℕ) → Passed marks at free units → ¬ (get_or marks at 1 ≡ 0) → Passed marks (at + 1) 0 units
passes_taken marks at free units p taken =
    (omega arith, omega arith, (λ i l. let bad : ⊥ = omega (arith, l) in absurd bad), ends_taken marks at free units (get_or marks at 1) p.0 p.3 refl taken)
