-- A list of runs in an array, where others take the place of some: they are written in place; or room is made after all, the rest moved, the others written, the end cut off.
use Rattle.std.proofs.Common.{◌≡◌, ℕ, ◌+◌, ◌-◌, ◌≤◌, List, ◌++◌, length, take, drop, ap, ap₂, sym, Result, Ok, Err, OnOk, IsOk, ◌∙◌, append_assoc, append-nil, arith}
use Rattle.std.proofs.lemmas.Bool.{false≢true}
use Rattle.std.proofs.Math.Seq.{take_at, drop_at, length_paste_head, paste}
use Rattle.std.proofs.lemmas.List.{take-append-le, take-append-drop, drop-append-le, drop-drop, drop_all, length-append, length-drop, length-take-le, take-take}

pub of_ok : {T E P : Type 0} (r : Result T E) → IsOk r → OnOk r P → P
of_ok (Ok x) is p = p
of_ok (Err e) is p = absurd (false≢true is)

-- what is written over a part of a list
abbrev pub written : {X : Type 0} → List X → ℕ → ℕ → List X → List X
written all low end put = take low all ++ (put ++ drop (end - low) (drop low all))

-- the list keeps its length
pub written_length : {X : Type 0} (all : List X) (low end : ℕ) (put : List X) → low + length put ≡ end → end ≤ length all → length (written all low end put) ≡ length all
written_length all low end put e b = omega (arith, length-append (take low all) (put ++ drop (end - low) (drop low all)), length-append put (drop (end - low) (drop low all)), length-take-le low all (omega arith), length-drop (end - low) (drop low all), length-drop low all)

pub written_is : {X : Type 0} (all : List X) (low end : ℕ) (put : List X) → low ≤ end → written all low end put ≡ take low all ++ (put ++ drop end all)
written_is all low end put h =
    let e : low + (end - low) ≡ end = omega arith in
    ap (λ ys. take low all ++ (put ++ ys)) (drop-drop (end - low) low all ∙ ap (λ k. drop k all) e)

-- the last ones give way to more
pub at_end : {X : Type 0} (old : List X) (low high : ℕ) (parts : List X) → low ≤ high → high ≡ length old → written old low high (take (high - low) parts) ++ drop (high - low) parts ≡ take low old ++ (parts ++ drop high old)
at_end old low high parts h e =
    let none = drop_all high old (omega arith) in
    let front = take (high - low) parts in
    let back = drop (high - low) parts in
    ap (λ xs. xs ++ back) (written_is old low high front h ∙ ap (λ ys. take low old ++ (front ++ ys)) none ∙ ap (λ ys. take low old ++ ys) (append-nil front))
    ∙ append_assoc (take low old) front back
    ∙ ap (λ ys. take low old ++ ys) (take-append-drop (high - low) parts ∙ sym (append-nil parts) ∙ ap (λ ys. parts ++ ys) (sym none))

module _ {X : Type 0} (old room parts : List X) (low high n : ℕ) (a : low ≤ high) (b : high ≤ length old) (f : low + length parts ≤ high + length room) (e : n ≡ low + length parts + (length old - high)) where
  -- what is after the runs that go, where it lies once there is room
  abbrev pub behind : List X
  behind = take (length old - high) (drop high (old ++ room))

  behind_is : behind ≡ drop high old
  behind_is = ap (take (length old - high)) (drop-append-le high old room b) ∙ take_at (drop high old) room (length old - high) (length-drop high old)

  head_is : length (take (low + length parts) (old ++ room) ++ behind) ≡ low + length parts + (length old - high)
  head_is = length_paste_head (old ++ room) (low + length parts) (drop high (old ++ room)) (length old - high) (omega (arith, length-append old room)) (omega (arith, length-append old room, length-drop high (old ++ room)))

  end_is : length (take (low + length parts) (old ++ room)) ≡ low + length parts
  end_is = length-take-le (low + length parts) (old ++ room) (omega (arith, length-append old room))

  abbrev pub moved : List X
  moved = paste (old ++ room) (low + length parts) (drop high (old ++ room)) (length old - high)

  abbrev pub rest : List X
  rest = drop (low + length parts + (length old - high)) (old ++ room)

  moved_is : moved ≡ take (low + length parts) (old ++ room) ++ (behind ++ rest)
  moved_is = append_assoc (take (low + length parts) (old ++ room)) behind rest

  front : take low moved ≡ take low old
  front =
      ap (take low) moved_is ∙ take-append-le low (take (low + length parts) (old ++ room)) (behind ++ rest) (omega (arith, end_is))
      ∙ take-take low (low + length parts) (old ++ room) (omega arith) ∙ take-append-le low old room (omega arith)

  back : drop (low + length parts) moved ≡ behind ++ rest
  back = ap (drop (low + length parts)) moved_is ∙ drop_at (take (low + length parts) (old ++ room)) (behind ++ rest) (low + length parts) end_is

  behind_length : length behind ≡ length old - high
  behind_length = ap length behind_is ∙ length-drop high old

  here : take n (take low moved ++ (parts ++ drop (low + length parts) moved)) ≡ take low old ++ (parts ++ drop high old)
  here =
      ap₂ (λ xs ys. take n (xs ++ (parts ++ ys))) front back
      ∙ ap (take n) (ap (λ ys. take low old ++ ys) (sym (append_assoc parts behind rest)) ∙ sym (append_assoc (take low old) (parts ++ behind) rest))
      ∙ take_at (take low old ++ (parts ++ behind)) rest n (omega (arith, length-append (take low old) (parts ++ behind), length-append parts behind, length-take-le low old (omega arith), behind_length))
      ∙ ap (λ ys. take low old ++ (parts ++ ys)) behind_is

  pub replaced : (all new put : List X) → all ≡ old ++ room → new ≡ paste all (low + length parts) (drop high all) (length old - high) → put ≡ parts → take n (written new low (low + length parts) put) ≡ take low old ++ (parts ++ drop high old)
  replaced all new put p q r =
      let is : new ≡ moved = q ∙ ap (λ xs. paste xs (low + length parts) (drop high xs) (length old - high)) p in
      ap (take n) (ap₂ (λ xs ys. written xs low (low + length parts) ys) is r ∙ written_is moved low (low + length parts) parts (omega arith)) ∙ here
