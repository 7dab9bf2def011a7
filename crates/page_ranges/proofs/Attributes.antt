-- The RUNTIME bit, on or off for all pages alike.
use Rattle.std.proofs.Common.{◌≡◌, ℕ, ◌+◌, ◌-◌, ◌*◌, ◌/◌, ◌%◌, ◌^◌, ◌<◌, lit<, not, true, false, cond, ◌||◌, eqb, bit_and, bit_or, inl, inr, sym, ap, ◌∙◌, arith}
use Rattle.std.proofs.lemmas.Bool.{ne_eqb, eq-eqb, eqb-true, cases_eq, not-false, or_from, cond-false}
use Rattle.std.proofs.lemmas.Nat.{or_disjoint, and_block, and_mask}
use Rattle.page_ranges.specs.MemoryTypes.{runtime, has_runtime, attributes_as, conventional}

pub lacks_runtime : (a : ℕ) → has_runtime a ≡ false → bit_and a runtime ≡ 0
lacks_runtime a h = eqb-true (bit_and a runtime) 0 (not-false _ h)

same_with_runtime : (a b : ℕ) → bit_and a runtime ≡ 0 → bit_and b runtime ≡ 0 → eqb (bit_or a runtime) (bit_or b runtime) ≡ eqb a b
same_with_runtime a b h k = elim (cases_eq a b) [
  | inl e ↦ eq-eqb _ _ (ap (λ n. bit_or n runtime) e) ∙ sym (eq-eqb a b e)
  | inr n ↦ ne_eqb _ _ (λ q. n (omega (arith, or_disjoint a runtime h, or_disjoint b runtime k, q))) ∙ sym (ne_eqb a b n)
]

-- Attributes that lack RUNTIME are equal after a change of type just where they were before.
pub same_attributes : (t a b : ℕ) → has_runtime a ≡ false → has_runtime b ≡ false → eqb (attributes_as t a) (attributes_as t b) ≡ eqb a b
same_attributes t a b h k =
    let u = lacks_runtime a h in
    let v = lacks_runtime b k in
    let a_off : a - bit_and a runtime ≡ a = omega arith in
    let b_off : b - bit_and b runtime ≡ b = omega arith in
    elim (eqb t 5 || eqb t 6) as (λ c. eqb (cond c (bit_or a runtime) (a - bit_and a runtime)) (cond c (bit_or b runtime) (b - bit_and b runtime)) ≡ eqb a b) [
      | true ↦ same_with_runtime a b u v
      | false ↦ rw (a_off, b_off)
    ]

-- ---- RUNTIME taken off is off

bit_of_parts : (q r : ℕ) → r < 2 ^ 63 → bit_and (q * 2 ^ 63 + r) runtime ≡ q % 2 * 2 ^ 63
bit_of_parts q r h = omega (arith, and_block 63 q 1 r 0 h (lit< tt), and_mask q 1, and_mask r 0)

pub runtime_off : (a : ℕ) → has_runtime (a - bit_and a runtime) ≡ false
runtime_off a =
    let q = a / 2 ^ 63 in
    let r = a % 2 ^ 63 in
    let low : r < 2 ^ 63 = omega arith in
    let parts : a ≡ q * 2 ^ 63 + r = omega arith in
    let bit : bit_and a runtime ≡ q % 2 * 2 ^ 63 = ap (λ n. bit_and n runtime) parts ∙ bit_of_parts q r low in
    let rest : a - bit_and a runtime ≡ (q - q % 2) * 2 ^ 63 + r = omega arith in
    let even : (q - q % 2) % 2 * 2 ^ 63 ≡ 0 = omega arith in
    ap (λ b. not b) (eq-eqb (bit_and (a - bit_and a runtime) runtime) 0 (ap (λ n. bit_and n runtime) rest ∙ bit_of_parts (q - q % 2) r low ∙ even))

pub conventional_lacks_runtime : (t a : ℕ) → t ≡ conventional → has_runtime (attributes_as t a) ≡ false
conventional_lacks_runtime t a e =
    let five : eqb t 5 ≡ false = ne_eqb t 5 (omega arith) in
    let six : eqb t 6 ≡ false = ne_eqb t 6 (omega arith) in
    ap has_runtime (cond-false (eqb t 5 || eqb t 6) (bit_or a runtime) (a - bit_and a runtime) (or_from _ _ five six)) ∙ runtime_off a
