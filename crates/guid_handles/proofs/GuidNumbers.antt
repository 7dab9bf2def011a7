-- GUIDs in order by the numbers in their two halves.
use Rattle.std.proofs.Common.{◌≡◌, ℕ, suc, ◌+◌, ◌*◌, ◌<◌, ◌≤◌, nat_lt, List, [], ◌∷◌, length, drop, inl, inr, refl, sym, ap, ◌∙◌, arith}
use Rattle.std.specs.List.{AllByRecursion}
use Rattle.std.specs.Int.{w64, from_be_bytes}
use Rattle.std.specs.Ordering.{nat_cmp, is_lt}
use Rattle.std.specs.declared.cmp.Ordering.TheVariants.{Less, Equal, Greater}
use Rattle.std.specs.Cmp.{nat_cmp_is}
use Rattle.std.specs.Cmp.Lexicographic.{slice_cmp}
use Rattle.std.proofs.lemmas.Bool.{cases_order, lt-ltb, le-ltb}
use Rattle.std.proofs.lemmas.List.{length-drop}
use Rattle.guid_handles.proofs.GuidWords.{AreBytes, bytes_after}

-- the number of some bytes after a number, the first of them as the highest
abbrev number_after : ℕ → List ℕ → ℕ
number_after n [] = n
number_after n (b ∷ bs) = number_after (n * 256 + b) bs

abbrev AreSmall : List ℕ → Type 0
AreSmall bs = AllByRecursion (λ b. b < 256) bs

small_bytes : (bs : List ℕ) → AreBytes bs → AreSmall bs
small_bytes [] s = tt
small_bytes (b ∷ bs) s = (s 0, small_bytes bs (λ i. s (suc i)))

-- a lower number stays lower, whatever comes after both
lower_after : (m n : ℕ) (xs ys : List ℕ) → m < n → length xs ≡ length ys → AreSmall xs → number_after m xs < number_after n ys
lower_after m n [] [] l e s = l
lower_after m n [] (y ∷ ys) l e s = absurd (omega (arith, e))
lower_after m n (x ∷ xs) [] l e s = absurd (omega (arith, e))
lower_after m n (x ∷ xs) (y ∷ ys) l e s = lower_after (m * 256 + x) (n * 256 + y) xs ys (omega (arith, l, s.0)) (omega (arith, e)) s.1

-- after one number, lists of bytes are in the order of their numbers
order_after : (n : ℕ) (xs ys : List ℕ) → length xs ≡ length ys → AreSmall xs → AreSmall ys
    → is_lt (slice_cmp nat_cmp xs ys) ≡ nat_lt (number_after n xs) (number_after n ys)
order_after n [] [] e s t = sym (le-ltb n n (omega arith))
order_after n [] (y ∷ ys) e s t = absurd (omega (arith, e))
order_after n (x ∷ xs) [] e s t = absurd (omega (arith, e))
order_after n (x ∷ xs) (y ∷ ys) e s t =
    let f : length xs ≡ length ys = omega (arith, e) in
    elim (cases_order x y) [
      | inl h ↦ rw (sym (nat_cmp_is x y Equal h), h) (order_after (n * 256 + y) xs ys f s.1 t.1)
      | inr (inl h) ↦ rw (sym (nat_cmp_is x y Less h)) (sym (lt-ltb _ _ (lower_after (n * 256 + x) (n * 256 + y) xs ys (omega (arith, h)) f s.1)))
      | inr (inr h) ↦
          let l : number_after (n * 256 + y) ys < number_after (n * 256 + x) xs = lower_after (n * 256 + y) (n * 256 + x) ys xs (omega (arith, h)) (sym f) t.1 in
          rw (sym (nat_cmp_is x y Greater h)) (sym (le-ltb _ _ (omega (arith, l))))
    ]

-- the number of eight bytes, and what is after them
first_eight : (xs : List ℕ) → 8 ≤ length xs → number_after 0 xs ≡ number_after (from_be_bytes w64 xs) (drop 8 xs)
first_eight [] l = absurd (omega (arith, l))
first_eight (a ∷ []) l = absurd (omega (arith, l))
first_eight (a ∷ b ∷ []) l = absurd (omega (arith, l))
first_eight (a ∷ b ∷ c ∷ []) l = absurd (omega (arith, l))
first_eight (a ∷ b ∷ c ∷ d ∷ []) l = absurd (omega (arith, l))
first_eight (a ∷ b ∷ c ∷ d ∷ e ∷ []) l = absurd (omega (arith, l))
first_eight (a ∷ b ∷ c ∷ d ∷ e ∷ f ∷ []) l = absurd (omega (arith, l))
first_eight (a ∷ b ∷ c ∷ d ∷ e ∷ f ∷ g ∷ []) l = absurd (omega (arith, l))
first_eight (a ∷ b ∷ c ∷ d ∷ e ∷ f ∷ g ∷ h ∷ xs) l =
    ap (λ n. number_after n xs) (horner a b c d e f g h)
  where
    horner : (a b c d e f g h : ℕ)
        → (((((((0 * 256 + a) * 256 + b) * 256 + c) * 256 + d) * 256 + e) * 256 + f) * 256 + g) * 256 + h
        ≡ from_be_bytes w64 (a ∷ b ∷ c ∷ d ∷ e ∷ f ∷ g ∷ h ∷ [])
    horner a b c d e f g h = omega arith

only_eight : (xs : List ℕ) → length xs ≡ 8 → number_after 0 xs ≡ from_be_bytes w64 xs
only_eight xs l = first_eight xs (omega (arith, l)) ∙ ap (λ ys. number_after (from_be_bytes w64 xs) ys) (nothing (drop 8 xs) (omega (arith, l, length-drop 8 xs)))
  where
    nothing : (ys : List ℕ) → length ys ≡ 0 → ys ≡ []
    nothing [] e = refl
    nothing (y ∷ ys) e = absurd (omega (arith, e))

-- the order of two GUIDs is that of the numbers that begin with those in their first halves
order_by_first : (xs ys : List ℕ) → length xs ≡ 16 → length ys ≡ 16 → AreBytes xs → AreBytes ys
    → is_lt (slice_cmp nat_cmp xs ys) ≡ nat_lt (number_after (from_be_bytes w64 xs) (drop 8 xs)) (number_after (from_be_bytes w64 ys) (drop 8 ys))
order_by_first xs ys l k s t =
    order_after 0 xs ys (l ∙ sym k) (small_bytes xs s) (small_bytes ys t)
    ∙ ap (λ m. nat_lt m (number_after 0 ys)) (first_eight xs (omega (arith, l)))
    ∙ ap (λ n. nat_lt (number_after (from_be_bytes w64 xs) (drop 8 xs)) n) (first_eight ys (omega (arith, k)))

-- numbers in the first halves that differ decide
pub high_words : (xs ys : List ℕ) (m n : ℕ) → length xs ≡ 16 → length ys ≡ 16 → AreBytes xs → AreBytes ys
    → m ≡ from_be_bytes w64 xs → n ≡ from_be_bytes w64 ys → (m ≡ n → ⊥) → nat_lt m n ≡ is_lt (slice_cmp nat_cmp xs ys)
high_words xs ys m n l k s t hm hn f =
    let e : length (drop 8 xs) ≡ length (drop 8 ys) = omega (arith, l, k, length-drop 8 xs, length-drop 8 ys) in
    let whole : is_lt (slice_cmp nat_cmp xs ys) ≡ nat_lt (number_after m (drop 8 xs)) (number_after n (drop 8 ys)) =
    rw (hm, hn) (order_by_first xs ys l k s t) in
    elim (cases_order m n) [
      | inl h ↦ absurd (f h)
      | inr (inl h) ↦
          let b = lower_after m n (drop 8 xs) (drop 8 ys) h e (small_bytes _ (bytes_after xs 8 s)) in
          lt-ltb m n h ∙ sym (whole ∙ lt-ltb _ _ b)
      | inr (inr h) ↦
          let b : number_after n (drop 8 ys) < number_after m (drop 8 xs) = lower_after n m (drop 8 ys) (drop 8 xs) h (sym e) (small_bytes _ (bytes_after ys 8 t)) in
          le-ltb m n (omega (arith, h)) ∙ sym (whole ∙ le-ltb _ _ (omega (arith, b)))
    ]

-- where they are the same, those in the other halves do
pub low_words : (xs ys : List ℕ) (m n p q : ℕ) → length xs ≡ 16 → length ys ≡ 16 → AreBytes xs → AreBytes ys
    → m ≡ from_be_bytes w64 xs → n ≡ from_be_bytes w64 ys → p ≡ from_be_bytes w64 (drop 8 xs) → q ≡ from_be_bytes w64 (drop 8 ys)
    → m ≡ n → nat_lt p q ≡ is_lt (slice_cmp nat_cmp xs ys)
low_words xs ys m n p q l k s t hm hn hp hq same =
    let a : length (drop 8 xs) ≡ 8 = omega (arith, l, length-drop 8 xs) in
    let b : length (drop 8 ys) ≡ 8 = omega (arith, k, length-drop 8 ys) in
    let u = small_bytes (drop 8 xs) (bytes_after xs 8 s) in
    let v = small_bytes (drop 8 ys) (bytes_after ys 8 t) in
    let whole : is_lt (slice_cmp nat_cmp xs ys) ≡ nat_lt (number_after n (drop 8 xs)) (number_after n (drop 8 ys)) =
    order_by_first xs ys l k s t
    ∙ ap (λ x. nat_lt (number_after x (drop 8 xs)) (number_after (from_be_bytes w64 ys) (drop 8 ys))) (sym hm ∙ same)
    ∙ ap (λ y. nat_lt (number_after n (drop 8 xs)) (number_after y (drop 8 ys))) (sym hn) in
    let halves : is_lt (slice_cmp nat_cmp (drop 8 xs) (drop 8 ys)) ≡ nat_lt p q =
    rw (hp ∙ sym (only_eight (drop 8 xs) a), hq ∙ sym (only_eight (drop 8 ys) b)) (order_after 0 (drop 8 xs) (drop 8 ys) (a ∙ sym b) u v) in
    sym halves ∙ order_after n (drop 8 xs) (drop 8 ys) (a ∙ sym b) u v ∙ sym whole
