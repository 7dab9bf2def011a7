-- Marks of cells, and the cells that are marked.
use Rattle.std.proofs.Common.{◌≡◌, ℕ, zero, suc, ◌+◌, ◌-◌, ◌<◌, ◌≤◌, inl, inr, List, [], ◌∷◌, ◌++◌, length, take, drop, replicate, get_or, refl, sym, ap, ◌∙◌, append_assoc, arith, eq-eqb, ne_eqb}
use Rattle.std.specs.List.{AllByRecursion}
use Rattle.std.proofs.lemmas.Bool.{cases_eq, cases_lt}
use Rattle.std.proofs.lemmas.List.{take-append-drop, length-take-le, length-append, length-replicate, drop_more, append-nil, take_all, drop_all}
use Rattle.raw_pool.specs.Bytes.{extended, put}
use Rattle.raw_pool.specs.FreeList.{marked}

pub marked-append : (k : ℕ) (xs ys : List ℕ) → marked k (xs ++ ys) ≡ marked k xs ++ marked (k + length xs) ys
marked-append k [] ys = ap (λ (j : ℕ). marked j ys) (omega arith)
marked-append k (x ∷ xs) ys =
    let i : marked (k + 1) (xs ++ ys) ≡ marked (k + 1) xs ++ marked (k + 1 + length xs) ys = marked-append (k + 1) xs ys in
    let n : k + 1 + length xs ≡ k + length (x ∷ xs) = omega arith in
    let j : marked (k + 1) (xs ++ ys) ≡ marked (k + 1) xs ++ marked (k + length (x ∷ xs)) ys = i ∙ ap (λ (m : ℕ). marked (k + 1) xs ++ marked m ys) n in
    elim (cases_eq x 0) [
      | inl e ↦ rw (eq-eqb x 0 e) j
      | inr e ↦ rw (ne_eqb x 0 e) (ap (λ (cs : List ℕ). k ∷ cs) j)
    ]

pub marked-zeros : (k n : ℕ) → marked k (replicate n 0) ≡ []
marked-zeros k zero = refl
marked-zeros k (suc n) = marked-zeros (k + 1) n

pub marked-low : (k low : ℕ) (xs : List ℕ) → low ≤ k → AllByRecursion (λ c. low ≤ c) (marked k xs)
marked-low k low [] h = tt
marked-low k low (x ∷ xs) h =
    elim (cases_eq x 0) [
      | inl e ↦ rw (eq-eqb x 0 e) (marked-low (k + 1) low xs (omega arith))
      | inr e ↦ rw (ne_eqb x 0 e) (h, marked-low (k + 1) low xs (omega arith))
    ]

pub marked-high : (k high : ℕ) (xs : List ℕ) → k + length xs ≤ high → AllByRecursion (λ c. c < high) (marked k xs)
marked-high k high [] h = tt
marked-high k high (x ∷ xs) h =
    let l : k + 1 + length xs ≤ high = omega arith in
    elim (cases_eq x 0) [
      | inl e ↦ rw (eq-eqb x 0 e) (marked-high (k + 1) high xs l)
      | inr e ↦ rw (ne_eqb x 0 e) (omega arith, marked-high (k + 1) high xs l)
    ]

-- the marks before a cell, its own, and those behind
pub marked-at : (xs : List ℕ) (at : ℕ) → at < length xs → marked 0 xs ≡ marked 0 (take at xs) ++ marked at (get_or xs at 0 ∷ drop (at + 1) xs)
marked-at xs at h =
    let n : 0 + length (take at xs) ≡ at = omega (arith, length-take-le at xs (omega arith)) in
    ap (marked 0) (sym (take-append-drop at xs)) ∙ marked-append 0 (take at xs) (drop at xs)
    ∙ ap (λ (k : ℕ). marked 0 (take at xs) ++ marked k (drop at xs)) n
    ∙ ap (λ (ys : List ℕ). marked 0 (take at xs) ++ marked at ys) (drop_more xs at 0 h)

pub marked-one : (k m : ℕ) (xs : List ℕ) → (m ≡ 0 → ⊥) → marked k (m ∷ xs) ≡ k ∷ marked (k + 1) xs
marked-one k m xs e = rw (ne_eqb m 0 e) refl

pub marked-none : (k m : ℕ) (xs : List ℕ) → m ≡ 0 → marked k (m ∷ xs) ≡ marked (k + 1) xs
marked-none k m xs e = rw (eq-eqb m 0 e) refl

-- ---- one list in two ways

-- two cuts of a list at a number, below which the fronts lie
pub same-cut : (at : ℕ) (xs ys zs ws : List ℕ) → xs ++ ys ≡ zs ++ ws → AllByRecursion (λ c. c < at) xs → AllByRecursion (λ c. c < at) zs → AllByRecursion (λ c. at ≤ c) ys → AllByRecursion (λ c. at ≤ c) ws →
    (xs ≡ zs) × (ys ≡ ws)
same-cut at [] ys [] ws e a b c d = (refl, e)
same-cut at [] [] (z ∷ zs) ws e a b c d = absurd (let f : [] ≡ z ∷ (zs ++ ws) = e in cc)
same-cut at [] (y ∷ ys) (z ∷ zs) ws e a b c d = let f : y ≡ z = cc in absurd (omega (arith, b.0, c.0, f))
same-cut at (x ∷ xs) ys [] [] e a b c d = absurd (let f : x ∷ (xs ++ ys) ≡ [] = e in cc)
same-cut at (x ∷ xs) ys [] (w ∷ ws) e a b c d = let f : x ≡ w = cc in absurd (omega (arith, a.0, d.0, f))
same-cut at (x ∷ xs) ys (z ∷ zs) ws e a b c d =
    let f : x ≡ z = cc in
    let g : xs ++ ys ≡ zs ++ ws = cc in
    let i = same-cut at xs ys zs ws g a.1 b.1 c d in
    (ap (λ (k : ℕ). k ∷ xs) f ∙ ap (λ (cs : List ℕ). z ∷ cs) i.0, i.1)

pub all-low : (low high : ℕ) (xs : List ℕ) → low ≤ high → AllByRecursion (λ c. high ≤ c) xs → AllByRecursion (λ c. low ≤ c) xs
all-low low high [] h a = tt
all-low low high (x ∷ xs) h a = (omega (arith, a.0), all-low low high xs h a.1)

-- ---- a mark is set

pub extended-marked : (marks : List ℕ) (at : ℕ) → marked 0 (extended marks at) ≡ marked 0 marks
extended-marked marks at =
    marked-append 0 marks (replicate (at - length marks) 0)
    ∙ ap (λ (cs : List ℕ). marked 0 marks ++ cs) (marked-zeros (0 + length marks) (at - length marks)) ∙ append-nil (marked 0 marks)

pub extended-length : (marks : List ℕ) (at : ℕ) → at ≤ length (extended marks at)
extended-length marks at = omega (arith, length-append marks (replicate (at - length marks) 0), length-replicate {A = ℕ} (at - length marks) 0)

-- the marks around one that is written
pub marked-put : (marks : List ℕ) (at m : ℕ) → at ≤ length marks → marked 0 (put marks at (m ∷ [])) ≡ marked 0 (take at marks) ++ marked at (m ∷ drop (at + 1) marks)
unfolding put
marked-put marks at m h =
    let n : 0 + length (take at marks) ≡ at = omega (arith, length-take-le at marks h) in
    ap (marked 0) (append_assoc (take at marks) (m ∷ []) (drop (at + 1) marks))
    ∙ marked-append 0 (take at marks) (m ∷ drop (at + 1) marks)
    ∙ ap (λ (k : ℕ). marked 0 (take at marks) ++ marked k (m ∷ drop (at + 1) marks)) n

first-low : (at : ℕ) (rs cs : List ℕ) → rs ≡ at ∷ cs → AllByRecursion (λ c. at + 1 ≤ c) rs → ⊥
first-low at [] cs e a = cc
first-low at (r ∷ rs) cs e a = let f : r ≡ at = cc in omega (arith, a.0, f)

-- the cells before and behind one that is not marked
around : (marks ls rs : List ℕ) (at : ℕ) → at ≤ length marks → marked 0 marks ≡ ls ++ rs → AllByRecursion (λ c. c < at) ls → AllByRecursion (λ c. at + 1 ≤ c) rs →
    (ls ≡ marked 0 (take at marks)) × (rs ≡ marked (at + 1) (drop (at + 1) marks))
around marks ls rs at h e low high =
    elim (cases_lt at (length marks)) [
      | inl l ↦
          let f : marked 0 marks ≡ marked 0 (take at marks) ++ marked at (get_or marks at 0 ∷ drop (at + 1) marks) = marked-at marks at l in
          let s = same-cut at ls rs (marked 0 (take at marks)) (marked at (get_or marks at 0 ∷ drop (at + 1) marks)) (sym e ∙ f) low
          (marked-high 0 at (take at marks) (omega (arith, length-take-le at marks h))) (all-low at (at + 1) rs (omega arith) high) (marked-low at at (get_or marks at 0 ∷ drop (at + 1) marks) (omega arith)) in (
            s.0,
            elim (cases_eq (get_or marks at 0) 0) [
              | inl z ↦ s.1 ∙ marked-none at (get_or marks at 0) (drop (at + 1) marks) z
              | inr z ↦ absurd (first-low at rs (marked (at + 1) (drop (at + 1) marks)) (s.1 ∙ marked-one at (get_or marks at 0) (drop (at + 1) marks) z) high)
            ],
          )
      | inr g ↦
          let f : marked 0 marks ≡ marked 0 (take at marks) ++ [] = ap (marked 0) (sym (take_all at marks g)) ∙ sym (append-nil (marked 0 (take at marks))) in
          let s = same-cut at ls rs (marked 0 (take at marks)) [] (sym e ∙ f) low (marked-high 0 at (take at marks) (omega (arith, length-take-le at marks h))) (all-low at (at + 1) rs (omega arith) high) tt in
          (s.0, s.1 ∙ ap (marked (at + 1)) (sym (drop_all (at + 1) marks (omega arith))))
    ]

pub mark_set : (marks ls rs : List ℕ) (at end : ℕ) → at ≤ end → marked 0 marks ≡ ls ++ rs → AllByRecursion (λ c. c < at) ls → AllByRecursion (λ c. at + 1 ≤ c) rs → marked 0 (put (extended marks end) at (1 ∷ [])) ≡ ls ++ at ∷ rs
mark_set marks ls rs at end l e low high =
    let n : at ≤ length (extended marks end) = omega (arith, extended-length marks end) in
    let s = around (extended marks end) ls rs at n (extended-marked marks end ∙ e) low high in
    marked-put (extended marks end) at 1 n
    ∙ ap (λ (cs : List ℕ). marked 0 (take at (extended marks end)) ++ cs) (marked-one at 1 (drop (at + 1) (extended marks end)) (λ z. cc))
    ∙ ap (λ (cs : List ℕ). cs ++ at ∷ marked (at + 1) (drop (at + 1) (extended marks end))) (sym s.0)
    ∙ ap (λ (cs : List ℕ). ls ++ at ∷ cs) (sym s.1)

-- ---- a mark is taken away

pub marked_cell : (marks : List ℕ) (at : ℕ) → at < length marks → (get_or marks at 0 ≡ 0 → ⊥) → marked 0 marks ≡ marked 0 (take at marks) ++ at ∷ marked (at + 1) (drop (at + 1) marks)
marked_cell marks at h z = marked-at marks at h ∙ ap (λ (cs : List ℕ). marked 0 (take at marks) ++ cs) (marked-one at (get_or marks at 0) (drop (at + 1) marks) z)

pub unmarked_cell : (marks : List ℕ) (at : ℕ) → at < length marks → get_or marks at 0 ≡ 0 → marked 0 marks ≡ marked 0 (take at marks) ++ marked (at + 1) (drop (at + 1) marks)
unmarked_cell marks at h z = marked-at marks at h ∙ ap (λ (cs : List ℕ). marked 0 (take at marks) ++ cs) (marked-none at (get_or marks at 0) (drop (at + 1) marks) z)

pub mark_removed : (marks : List ℕ) (at : ℕ) → at < length marks → marked 0 (put marks at (0 ∷ [])) ≡ marked 0 (take at marks) ++ marked (at + 1) (drop (at + 1) marks)
mark_removed marks at h = marked-put marks at 0 (omega arith) ∙ ap (λ (cs : List ℕ). marked 0 (take at marks) ++ cs) (marked-none at 0 (drop (at + 1) marks) refl)
