-- GUIDs by the numbers in their two halves.
use Rattle.std.proofs.Common.{◌≡◌, ℕ, zero, suc, ◌+◌, ◌<◌, ◌≤◌, ◌==◌, true, List, [], ◌∷◌, ◌++◌, length, take, drop, get_or, inl, inr, refl, sym, ap, ◌∙◌, arith}
use Rattle.std.specs.Int.{w64, from_le_bytes, to_le_bytes}
use Rattle.std.proofs.lemmas.Bool.{cases_Bool, eq-eqb}
use Rattle.std.proofs.lemmas.List.{get_or-drop, length-drop, take-append-drop, take_all}
use Rattle.std.proofs.lemmas.Nat.{le_bytes_8}
use Rattle.guid_handles.specs.HandleTables.{same_guid}
use Rattle.guid_handles.proofs.GuidOrder.{same_guid-true, same_guid-refl}
use Rattle.guid_handles.proofs.Grouped.{is_same}

abbrev pub AreBytes : List ℕ → Type 0
AreBytes xs = (i : ℕ) → get_or xs i 0 < 256

-- eight bytes from the number in them
first_bytes : (xs : List ℕ) → 8 ≤ length xs → AreBytes xs → to_le_bytes w64 (from_le_bytes w64 xs) ≡ take 8 xs
first_bytes [] l s = absurd (omega (arith, l))
first_bytes (a ∷ []) l s = absurd (omega (arith, l))
first_bytes (a ∷ b ∷ []) l s = absurd (omega (arith, l))
first_bytes (a ∷ b ∷ c ∷ []) l s = absurd (omega (arith, l))
first_bytes (a ∷ b ∷ c ∷ d ∷ []) l s = absurd (omega (arith, l))
first_bytes (a ∷ b ∷ c ∷ d ∷ e ∷ []) l s = absurd (omega (arith, l))
first_bytes (a ∷ b ∷ c ∷ d ∷ e ∷ f ∷ []) l s = absurd (omega (arith, l))
first_bytes (a ∷ b ∷ c ∷ d ∷ e ∷ f ∷ g ∷ []) l s = absurd (omega (arith, l))
first_bytes (a ∷ b ∷ c ∷ d ∷ e ∷ f ∷ g ∷ h ∷ xs) l s =
    le_bytes_8 (a ∷ b ∷ c ∷ d ∷ e ∷ f ∷ g ∷ h ∷ []) _ refl (small a b c d e f g h (s 0) (s 1) (s 2) (s 3) (s 4) (s 5) (s 6) (s 7)) refl
  where
    small : (a b c d e f g h : ℕ) → a < 256 → b < 256 → c < 256 → d < 256 → e < 256 → f < 256 → g < 256 → h < 256
        → AreBytes (a ∷ b ∷ c ∷ d ∷ e ∷ f ∷ g ∷ h ∷ [])
    small a b c d e f g h p q r t u v w x zero = p
    small a b c d e f g h p q r t u v w x (suc zero) = q
    small a b c d e f g h p q r t u v w x (suc (suc zero)) = r
    small a b c d e f g h p q r t u v w x (suc (suc (suc zero))) = t
    small a b c d e f g h p q r t u v w x (suc (suc (suc (suc zero)))) = u
    small a b c d e f g h p q r t u v w x (suc (suc (suc (suc (suc zero))))) = v
    small a b c d e f g h p q r t u v w x (suc (suc (suc (suc (suc (suc zero)))))) = w
    small a b c d e f g h p q r t u v w x (suc (suc (suc (suc (suc (suc (suc zero))))))) = x
    small a b c d e f g h p q r t u v w x (suc (suc (suc (suc (suc (suc (suc (suc n)))))))) = omega arith

-- so bytes with the same number are the same
same_bytes : (xs ys : List ℕ) → 8 ≤ length xs → 8 ≤ length ys → AreBytes xs → AreBytes ys → from_le_bytes w64 xs ≡ from_le_bytes w64 ys → take 8 xs ≡ take 8 ys
same_bytes xs ys l m s t e = sym (first_bytes xs l s) ∙ ap (to_le_bytes w64) e ∙ first_bytes ys m t

pub bytes_after : (xs : List ℕ) (n : ℕ) → AreBytes xs → AreBytes (drop n xs)
bytes_after xs n s i = omega (arith, get_or-drop n xs i 0, s (n + i))

-- lists of 16 bytes with the same two numbers are the same
same_halves : (xs ys : List ℕ) → length xs ≡ 16 → length ys ≡ 16 → AreBytes xs → AreBytes ys
    → from_le_bytes w64 xs ≡ from_le_bytes w64 ys → from_le_bytes w64 (drop 8 xs) ≡ from_le_bytes w64 (drop 8 ys) → xs ≡ ys
same_halves xs ys l m s t e f =
    let a : 8 ≤ length (drop 8 xs) = omega (arith, l, length-drop 8 xs) in
    let b : 8 ≤ length (drop 8 ys) = omega (arith, m, length-drop 8 ys) in
    let c : length (drop 8 xs) ≤ 8 = omega (arith, l, length-drop 8 xs) in
    let d : length (drop 8 ys) ≤ 8 = omega (arith, m, length-drop 8 ys) in
    let front = same_bytes xs ys (omega (arith, l)) (omega (arith, m)) s t e in
    let back = sym (take_all 8 (drop 8 xs) c) ∙ same_bytes (drop 8 xs) (drop 8 ys) a b (bytes_after xs 8 s) (bytes_after ys 8 t) f ∙ take_all 8 (drop 8 ys) d in
    sym (take-append-drop 8 xs) ∙ ap (λ zs. zs ++ drop 8 xs) front ∙ ap (λ zs. take 8 ys ++ zs) back ∙ take-append-drop 8 ys

-- where the first halves are the same, the others decide
pub words_then : (xs ys : List ℕ) (m n p q : ℕ) → length xs ≡ 16 → length ys ≡ 16 → AreBytes xs → AreBytes ys
    → m ≡ from_le_bytes w64 xs → n ≡ from_le_bytes w64 ys → p ≡ from_le_bytes w64 (drop 8 xs) → q ≡ from_le_bytes w64 (drop 8 ys)
    → m ≡ n → (p == q) ≡ same_guid xs ys
words_then xs ys m n p q l k s t hm hn hp hq mn = elim (cases_Bool (p == q)) [
  | inl e ↦
      let pq : p ≡ q = is_same p q e in
      let w : xs ≡ ys = same_halves xs ys l k s t (sym hm ∙ mn ∙ hn) (sym hp ∙ pq ∙ hq) in
      e ∙ sym (rw w (same_guid-refl ys))
  | inr e ↦ elim (cases_Bool (same_guid xs ys)) [
    | inl y ↦
        let w : xs ≡ ys = same_guid-true xs ys y in
        let pq : p ≡ q = hp ∙ ap (λ (zs : List ℕ). from_le_bytes w64 (drop 8 zs)) w ∙ sym hq in
        let z : (p == q) ≡ true = eq-eqb p q pq in
        absurd cc
    | inr y ↦ e ∙ sym y
  ]
]

-- where they are not, nor are the GUIDs
pub words_else : (xs ys : List ℕ) (m n : ℕ) → m ≡ from_le_bytes w64 xs → n ≡ from_le_bytes w64 ys → (m ≡ n → ⊥) → (m == n) ≡ same_guid xs ys
words_else xs ys m n hm hn f = elim (cases_Bool (same_guid xs ys)) [
  | inl y ↦ absurd (f (hm ∙ ap (λ (zs : List ℕ). from_le_bytes w64 zs) (same_guid-true xs ys y) ∙ sym hn))
  | inr y ↦ elim (cases_Bool (m == n)) [
    | inl e ↦ absurd (f (is_same m n e))
    | inr e ↦ e ∙ sym y
  ]
]
