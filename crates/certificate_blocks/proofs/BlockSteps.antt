-- Reading a part of a certificate block after another.
use Rattle.std.proofs.Common.{◌≡◌, IfSome, IsTrue, ℕ, suc, ◌+◌, ◌-◌, ◌<◌, ◌≤◌, Bool, true, false, ◌||◌, nat_lt, List, [], ◌∷◌, ◌++◌, length, Option, Some, None, Result, Ok, Err, IsErr, IsErrAnd, refl, sym, ap, ◌∙◌, inl, inr, arith, lt-ltb, le-ltb, append_assoc, append-nil}
use Rattle.certificate_blocks.specs.declared.faults.BlockFault.{BlockFault}
use Rattle.certificate_blocks.specs.declared.faults.BlockFault.TheVariants as fault
use Rattle.text_lines.specs.Lines.{lines_of, first_line, after_line, TakesByte, IsFirstLine, TakesLine}
use Rattle.text_lines.specs.Lines.{longest_line}
use Rattle.certificate_blocks.specs.Blocks.{LinesLeft, Reading, ◌>>=◌, and_then, value, times, next_line, line_from, no_line, most_block_lines}
use Rattle.certificate_blocks.specs.BlockReads.{lines_left, IsReadFault, Reads}
use Rattle.text_lines.proofs.LineBytes.{lines_of-none, lines_of-some}

-- ---- one reading after another

-- an error that a `?` hands on
pub handed_on : {X : Type 0} (result : Result X BlockFault) (e : BlockFault) → IsErr result × IsErrAnd result (λ f. f ≡ e) → result ≡ Err e
handed_on (Ok x) e h = absurd h.1
handed_on (Err f) e h = ap Err h.1

pub memory_failed : (can_fail : Bool) {X A : Type 0} (view : X → A) (reading : Reading A) (old new : Option LinesLeft) → Reads can_fail view reading old (Err fault.OutOfMemory) new
memory_failed can_fail view reading None new = tt
memory_failed can_fail view reading (Some left) new = tt

fault_kept : (can_fail : Bool) {A B : Type 0} (next : A → Reading B) (given : Result (A × LinesLeft) ℕ) (e : BlockFault) → IsReadFault can_fail given e → IsReadFault can_fail (and_then next given) e
fault_kept can_fail next given fault.Read f = f
fault_kept can_fail next given fault.OutOfMemory f = tt
fault_kept can_fail next given fault.Write f = absurd f
fault_kept can_fail next given (fault.Line number) f = rw f refl

pub failed : (can_fail : Bool) {X Y A B : Type 0} (view : X → A) (shown : Y → B) (first : Reading A) (next : A → Reading B) (old mid new : Option LinesLeft) (e : BlockFault) → Reads can_fail view first old (Err e) mid → Reads can_fail shown (first >>= next) old (Err e) new
failed can_fail view shown first next None mid new e f = tt
failed can_fail view shown first next (Some left) mid new e f = fault_kept can_fail next (first left) e f

with_rest : (can_fail : Bool) {Y B : Type 0} (shown : Y → B) (one two : Result (B × LinesLeft) ℕ) (result : Result Y BlockFault) (new : Option LinesLeft) → one ≡ two → Reads can_fail shown (λ left. two) (Some (record { number = 0; lines = [] })) result new → Reads can_fail shown (λ left. one) (Some (record { number = 0; lines = [] })) result new
with_rest can_fail shown one two result new e r = rw e r

pub went_on : (can_fail : Bool) {X Y A B : Type 0} (view : X → A) (shown : Y → B) (first : Reading A) (next : A → Reading B) (old mid new : Option LinesLeft) (x : X) (result : Result Y BlockFault) → Reads can_fail view first old (Ok x) mid → Reads can_fail shown (next (view x)) mid result new → Reads can_fail shown (first >>= next) old result new
went_on can_fail view shown first next None mid new x result f r = tt
went_on can_fail view shown first next (Some left) mid new x result (rest, e, f) r =
    let r2 = rw e at r in
    with_rest can_fail shown (and_then next (first left)) (next (view x) rest) result new (ap (and_then next) f) r2

-- ---- a line

or_true : (a b : Bool) → b ≡ true → (a || b) ≡ true
or_true true b e = refl
or_true false b e = e

at_end : (number : ℕ) (bytes : List ℕ) → bytes ≡ [] → line_from number (lines_of bytes) ≡ Err number
at_end number bytes e = rw (e, lines_of-none) refl

module _ (can_fail : Bool) (number : ℕ) (line : List ℕ) where
  abbrev numbered : ℕ → ℕ × List ℕ
  numbered n = (n, line)

  pub line_unread : (old : Option (List ℕ)) → IsTrue can_fail → Reads can_fail numbered next_line (lines_left old number) (Err fault.Read) None
  line_unread None fails = tt
  line_unread (Some bytes) fails = fails

  pub line_missing : (old next : Option (List ℕ)) → TakesLine old false line next → Reads can_fail numbered next_line (lines_left old number) (Err (fault.Line number)) None
  line_missing None next t = tt
  line_missing (Some bytes) next t = at_end number bytes t

  long : (bytes : List ℕ) (next : Option (List ℕ)) → longest_line < length line → IsFirstLine bytes line next → longest_line < length (first_line bytes)
  long bytes next l (some, inl (e, left)) = rw e at l
  long bytes next l (some, inr (a, b)) = b

  pub line_too_long : (old next : Option (List ℕ)) → longest_line < length line → TakesLine old true line next → Reads can_fail numbered next_line (lines_left old number) (Err (fault.Line number)) None
  line_too_long None next l t = tt
  line_too_long (Some bytes) next l t =
      let first = long bytes next l t in
      rw (lines_of-some bytes t.0, or_true (nat_lt most_block_lines number) (nat_lt longest_line (length (first_line bytes))) (lt-ltb longest_line (length (first_line bytes)) first)) refl

  whole : (bytes : List ℕ) (next : Option (List ℕ)) → length line ≤ longest_line → IsFirstLine bytes line next → (line ≡ first_line bytes) × (next ≡ Some (after_line bytes))
  whole bytes next l (some, inl h) = h
  whole bytes next l (some, inr (a, b)) = absurd (omega arith)

  pub line_taken : (old next : Option (List ℕ)) → number ≤ most_block_lines → length line ≤ longest_line → TakesLine old true line next → Reads can_fail numbered next_line (lines_left old number) (Ok number) (lines_left next (number + 1))
  line_taken None next n l t = tt
  line_taken (Some bytes) next n l t =
      let (same, rest) = whole bytes next l t in
      let short : length (first_line bytes) ≤ longest_line = rw (← same) l in (
        record { number = number + 1; lines = lines_of (after_line bytes) },
        rw rest refl,
        rw (lines_of-some bytes t.0, le-ltb most_block_lines number n, le-ltb longest_line (length (first_line bytes)) short, same) refl,
      )

-- ---- the end

pub end_reached : (can_fail : Bool) (number : ℕ) (old next : Option (List ℕ)) → TakesByte old None next → Reads can_fail (λ (done : Unit {0}). done) no_line (lines_left old number) (Ok tt) (lines_left next number)
end_reached can_fail number None next t = tt
end_reached can_fail number (Some bytes) next (e, n) =
    let now : lines_left next number ≡ Some (record { number = number; lines = [] }) = rw (n, lines_of-none) refl in
    (record { number = number; lines = [] }, now, rw (e, lines_of-none) refl)

pub end_missing : (can_fail : Bool) (number byte : ℕ) (old next : Option (List ℕ)) → TakesByte old (Some byte) next → Reads can_fail (λ (done : Unit {0}). done) no_line (lines_left old number) (Err (fault.Line number)) None
end_missing can_fail number byte None next t = tt
end_missing can_fail number byte (Some bytes) next (rest, e, n) =
    let some : 0 < length (byte ∷ rest) = omega arith in
    rw (e, lines_of-some (byte ∷ rest) some) refl

-- ---- a number of one kind

-- the values, and then others
abbrev pub prepended : {A : Type 0} → List A → Result (List A × LinesLeft) ℕ → Result (List A × LinesLeft) ℕ
prepended xs (Ok (ys, left)) = Ok (xs ++ ys, left)
prepended xs (Err number) = Err number

-- Of count values these have been read; the others are still to be read from what is left now.
abbrev pub HasRead : {A : Type 0} → ℕ → Reading A → Option LinesLeft → ℕ → List A → Option LinesLeft → Type 0
HasRead count reading old done items now = IfSome old (λ left. (rest : LinesLeft) × (now ≡ Some rest) × (times count reading left ≡ prepended items (times (count - done) reading rest)))

module _ (can_fail : Bool) {A : Type 0} (count : ℕ) (reading : Reading A) where
  prepend_none : (given : Result (List A × LinesLeft) ℕ) → given ≡ prepended [] given
  prepend_none (Ok (ys, left)) = refl
  prepend_none (Err number) = refl

  pub none_read : (old : Option LinesLeft) → HasRead count reading old 0 [] old
  none_read None = tt
  none_read (Some left) =
      let all : count ≡ count - 0 = omega arith in
      (left, refl, prepend_none (times count reading left) ∙ ap (λ (n : ℕ). prepended [] (times n reading left)) all)

  prepend_more : (items : List A) (x : A) (given : Result (List A × LinesLeft) ℕ) → prepended items (and_then (λ xs. value (x ∷ xs)) given) ≡ prepended (items ++ x ∷ []) given
  prepend_more items x (Ok (ys, left)) = ap (λ (xs : List A). Ok (xs, left)) (sym (append_assoc items (x ∷ []) ys))
  prepend_more items x (Err number) = refl

  one_more : (n : ℕ) (left rest : LinesLeft) (x : A) → reading left ≡ Ok (x, rest) → times (suc n) reading left ≡ and_then (λ xs. value (x ∷ xs)) (times n reading rest)
  unfolding times
  one_more n left rest x e = rw e refl

  none_more : (n : ℕ) (left : LinesLeft) (number : ℕ) → reading left ≡ Err number → times (suc n) reading left ≡ Err number
  unfolding times
  none_more n left number e = rw e refl

  no_times : (left : LinesLeft) → times 0 reading left ≡ Ok ([], left)
  unfolding times
  no_times left = refl

  module _ (done : ℕ) (items : List A) where
    pub more_read : (old now new : Option LinesLeft) (x : A) → done < count → HasRead count reading old done items now → Reads can_fail (λ (y : A). y) reading now (Ok x) new → HasRead count reading old (done + 1) (items ++ x ∷ []) new
    more_read None now new x l h r = tt
    more_read (Some left) now new x l (rest, n, e) r =
        let (rest2, n2, e2) = rw n at r in
        let k : count - done ≡ suc (count - (done + 1)) = omega arith in (
          rest2,
          n2,
          e ∙ ap (λ (m : ℕ). prepended items (times m reading rest)) k ∙ ap (prepended items) (one_more (count - (done + 1)) rest rest2 x e2) ∙ prepend_more items x (times (count - (done + 1)) reading rest2),
        )

    stopped : (given : Result (List A × LinesLeft) ℕ) (left rest : LinesLeft) (e : BlockFault) → done < count → given ≡ prepended items (times (count - done) reading rest) → IsReadFault can_fail (reading rest) e → IsReadFault can_fail given e
    stopped given left rest fault.Read l h f = f
    stopped given left rest fault.OutOfMemory l h f = tt
    stopped given left rest fault.Write l h f = absurd f
    stopped given left rest (fault.Line number) l h f =
        let k : count - done ≡ suc (count - (done + 1)) = omega arith in
        h ∙ ap (λ (m : ℕ). prepended items (times m reading rest)) k ∙ ap (prepended items) (none_more (count - (done + 1)) rest number f)

    pub one_failed : {X : Type 0} (view : X → List A) (old now new : Option LinesLeft) (e : BlockFault) → done < count → HasRead count reading old done items now → Reads can_fail (λ (y : A). y) reading now (Err e) new → Reads can_fail view (times count reading) old (Err e) None
    one_failed view None now new e l h r = tt
    one_failed view (Some left) now new e l (rest, n, h) r = let f = rw n at r in stopped (times count reading left) left rest e l h f

    pub all_read : {X : Type 0} (view : X → List A) (old now : Option LinesLeft) (x : X) → view x ≡ items → count ≤ done → HasRead count reading old done items now → Reads can_fail view (times count reading) old (Ok x) now
    all_read view None now x v l h = tt
    all_read view (Some left) now x v l (rest, n, e) =
        let k : count - done ≡ 0 = omega arith in
        (rest, n, e ∙ ap (λ (m : ℕ). prepended items (times m reading rest)) k ∙ ap (prepended items) (no_times rest) ∙ ap (λ (xs : List A). Ok (xs, rest)) (append-nil items ∙ sym v))
