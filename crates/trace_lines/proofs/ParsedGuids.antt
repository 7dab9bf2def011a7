-- What texts parse to as GUIDs.
use Rattle.std.proofs.Common.{◌≡◌, ℕ, zero, suc, ◌+◌, ◌*◌, ◌<◌, Bool, true, false, cond, ◌&&◌, ◌==◌, List, [], ◌∷◌, ◌++◌, length, slice_index, Option, Some, None, refl, sym, ◌∙◌, subst, arith, drop, take}
use Rattle.std.proofs.lemmas.Bool.{and_parts, eqb-true}
use Rattle.std.proofs.lemmas.Bool.Decides.{nat_tests}
use Rattle.std.proofs.lemmas.List.Folds.{list_all_at}
use Rattle.std.specs.List.{AllByRecursion, list_all}
use Rattle.uuid.specs.Text.{by_index, is_hex_digit, value_of, byte_of_digits, digits_of, has_hyphens, has_urn_prefix, open_brace, close_brace, parsed_simple, parsed_hyphenated, parsed_braced, parsed_urn, parsed}
use Rattle.uuid.proofs.TextLemmas.{by_index_length}
use Rattle.trace_lines.specs.Laws.{IsGuid}

pub none_of : {X : Type 0} (o : Option X) → ((x : X) × (o ≡ Some x) → ⊥) → o ≡ None
none_of None h = refl
none_of (Some x) h = absurd (h (x, refl))

-- ---- digits

value_fits : (c : ℕ) → is_hex_digit c ≡ true → value_of c < 16
value_fits c h = grind (arith, nat_tests)

true_or_false : (b : Bool) → (b ≡ false → ⊥) → b ≡ true
true_or_false true h = refl
true_or_false false h = absurd (h refl)

digit_fits : (hex : List ℕ) (k : ℕ) → list_all is_hex_digit hex ≡ true → k < length hex → value_of (slice_index hex k) < 16
digit_fits hex k h inside =
    value_fits (slice_index hex k) (true_or_false (is_hex_digit (slice_index hex k)) (λ f. let none : true ≡ false = sym h ∙ list_all_at is_hex_digit hex k 0 inside f in cc))

two_digits : (high low : ℕ) → high < 16 → low < 16 → high * 16 + low < 256
two_digits high low h l = omega arith

byte_fits : (hex : List ℕ) (k : ℕ) → list_all is_hex_digit hex ≡ true → length hex ≡ 32 → k < 16 → byte_of_digits hex k < 256
byte_fits hex k h long inside = two_digits (value_of (slice_index hex (2 * k))) (value_of (slice_index hex (2 * k + 1))) (digit_fits hex (2 * k) h (omega arith)) (digit_fits hex (2 * k + 1) h (omega arith))

all_last : (P : ℕ → Type 0) (xs : List ℕ) (x : ℕ) → AllByRecursion P xs → P x → AllByRecursion P (xs ++ x ∷ [])
all_last P [] x h last = (last, tt)
all_last P (y ∷ xs) x h last = (h.0, all_last P xs x h.1 last)

all_below : (n m : ℕ) (f : ℕ → ℕ) → ((k : ℕ) → k < n → f k < m) → AllByRecursion (λ b. b < m) (by_index n f)
unfolding by_index
all_below zero m f h = tt
all_below (suc n) m f h = all_last (λ b. b < m) (by_index n f) (f n) (all_below n m f (λ k inside. h k (omega arith))) (h n (omega arith))

-- ---- forms

some_if : (b : Bool) (x y : List ℕ) → cond b (Some x) None ≡ Some y → (b ≡ true) × (x ≡ y)
some_if true x y e = (refl, cc)
some_if false x y e = absurd (cc)

there_if : (b : Bool) (o : Option (List ℕ)) (y : List ℕ) → cond b o None ≡ Some y → o ≡ Some y
there_if true o y e = e
there_if false o y e = absurd (cc)

either : (b : Bool) (o p : Option (List ℕ)) (y : List ℕ) (P : Type 0) → (o ≡ Some y → P) → (p ≡ Some y → P) → cond b o p ≡ Some y → P
either true o p y P f g e = f e
either false o p y P f g e = g e

of_simple : (hex guid : List ℕ) → parsed_simple hex ≡ Some guid → IsGuid guid
of_simple hex guid e =
    let (tests, same) = some_if ((length hex == 32) && list_all is_hex_digit hex) (by_index 16 (byte_of_digits hex)) guid e in
    let (long, digits) = and_parts (length hex == 32) (list_all is_hex_digit hex) tests in
    subst IsGuid same (by_index_length 16 (byte_of_digits hex), all_below 16 256 (byte_of_digits hex) (λ k inside. byte_fits hex k digits (eqb-true (length hex) 32 long) inside))

of_hyphenated : (s guid : List ℕ) → parsed_hyphenated s ≡ Some guid → IsGuid guid
of_hyphenated s guid e = of_simple (digits_of s) guid (there_if ((length s == 36) && has_hyphens s) (parsed_simple (digits_of s)) guid e)

of_braced : (s guid : List ℕ) → parsed_braced s ≡ Some guid → IsGuid guid
of_braced s guid e =
    of_hyphenated (take 36 (drop 1 s)) guid (there_if ((length s == 38) && (slice_index s 0 == open_brace) && (slice_index s 37 == close_brace)) (parsed_hyphenated (take 36 (drop 1 s))) guid e)

of_urn : (s guid : List ℕ) → parsed_urn s ≡ Some guid → IsGuid guid
of_urn s guid e = of_hyphenated (drop 9 s) guid (there_if ((length s == 45) && has_urn_prefix s) (parsed_hyphenated (drop 9 s)) guid e)

of_none : (guid : List ℕ) → None ≡ Some guid → IsGuid guid
of_none guid e = absurd (cc)

-- what a text parses to has 16 bytes
pub parsed_guid : (s guid : List ℕ) → parsed s ≡ Some guid → IsGuid guid
parsed_guid s guid e =
    either (length s == 32) (parsed_simple s) _ guid (IsGuid guid) (of_simple s guid)
    (either (length s == 36) (parsed_hyphenated s) _ guid (IsGuid guid) (of_hyphenated s guid)
    (either (length s == 38) (parsed_braced s) _ guid (IsGuid guid) (of_braced s guid)
    (either (length s == 45) (parsed_urn s) None guid (IsGuid guid) (of_urn s guid) (of_none guid)))) e
