-- Traces, line after line.
use Rattle.std.proofs.Common.{◌≡◌, ℕ, ◌+◌, ◌<◌, ◌≤◌, List, [], ◌∷◌, ◌++◌, length, take, Option, Some, None, Result, Ok, Err, IfSome, refl, sym, ap, subst, ◌∙◌, inl, inr, arith, Bool, cond, ◌==◌, true, false, add-zero, add-one, append_assoc, append-nil, length-append, take_all, lt-ltb}
use Rattle.std.proofs.lemmas.List.{take-append-le}
use Rattle.std.specs.Io.KnownBytes.{Appends, prepend_known}
use Rattle.std.specs.Io.Buffered.{reader_remaining, reader_inner, reader_buffer, reader_capacity}
use Rattle.std.specs.declared.io.buffered.BufReader.{BufReader}
use Rattle.driver_connect.specs.Drivers.{Meaning}
use Rattle.boot_core.specs.Machines.{State}
use Rattle.trace_lines.specs.declared.lines.TraceCall.{TraceCall}
use Rattle.trace_lines.specs.declared.run_faults.RunFault.{RunFault}
use Rattle.trace_lines.specs.declared.run_faults.RunFault.TheVariants as fault
use Rattle.trace_lines.specs.declared.faults.TraceFault.{TraceFault}
use Rattle.trace_lines.specs.declared.faults.TraceFault.TheVariants as trace_fault
use Rattle.text_lines.specs.Lines.{lines_of, first_line, after_line, TakesByte, IsFirstLine, TakesLine}
use Rattle.text_lines.specs.Lines.{longest_line}
use Rattle.trace_lines.specs.TraceLine.{line_of}
use Rattle.boot_trace.specs.TraceRuns.{Prints, PrintsAll, AsksForCall, MakesCall, StopsAt, Wrote, HasLine, Ends, most_lines}
use Rattle.text_lines.proofs.LineBytes.{lines_of-none, lines_of-some}
use Rattle.text_lines.proofs.Written.{appends_none, appends_more}

prints_more : (A : Type 0) (ds : List Meaning) (certify : Bool) (number : ℕ) (lines : List (List ℕ)) (line : List ℕ) (old mid new : State) (text more : List ℕ) → PrintsAll A ds certify number lines old text mid → Prints A ds certify (number + length lines) (line_of line) mid more new → PrintsAll A ds certify number (lines ++ line ∷ []) old (text ++ more) new
prints_more A ds certify number [] line old mid new text more (e, s) p =
    let here : Prints A ds certify number (line_of line) old more new = subst (λ (m : State). Prints A ds certify number (line_of line) m more new) s (subst (λ (n : ℕ). Prints A ds certify n (line_of line) mid more new) (add-zero number) p) in
    (new, more, [], here, (refl, refl), ap (λ (t : List ℕ). t ++ more) e ∙ sym (append-nil more))
prints_more A ds certify number (l ∷ lines) line old mid new text more h p =
    let next : number + length (l ∷ lines) ≡ number + 1 + length lines = omega arith in
    let rest = prints_more A ds certify (number + 1) lines line h.0 mid new h.2 more h.4 (subst (λ (n : ℕ). Prints A ds certify n (line_of line) mid more new) next p) in
    (h.0, h.1, h.2 ++ more, h.3, rest, ap (λ (t : List ℕ). t ++ more) h.5 ∙ append_assoc h.1 h.2 more)

-- This number of lines is read, and their text is written; these bytes are left.
pub record AtLine (A : Type 0) (ds : List Meaning) (certify : Bool) (bytes : List ℕ) (count : ℕ) (old new : State) (before after left : Option (List ℕ)) : Type 0 where
  pub rest : List ℕ
  pub left_is : left ≡ Some rest
  pub lines : List (List ℕ)
  pub counted : length lines ≡ count
  pub split : lines_of bytes ≡ lines ++ lines_of rest
  pub text : List ℕ
  pub prints : PrintsAll A ds certify 1 lines old text new
  pub written : Appends before after text

module _ (A : Type 0) (ds : List Meaning) (certify : Bool) (bytes : List ℕ) (old : State) (before : Option (List ℕ)) where
  pub at_start : (left : Option (List ℕ)) → left ≡ Some bytes → AtLine A ds certify bytes 0 old old before before left
  at_start left e = record { rest = bytes; left_is = e; lines = []; counted = refl; split = refl; text = []; prints = (refl, refl); written = appends_none before }

  wrote : (count : ℕ) (new : State) (after left : Option (List ℕ)) → AtLine A ds certify bytes count old new before after left → Wrote A ds certify bytes count old new before after
  wrote count new after left a =
      let taken : take count (lines_of bytes) ≡ a.lines = rw (a.split, ← a.counted) (take-append-le (length a.lines) a.lines (lines_of a.rest) (omega arith) ∙ take_all (length a.lines) a.lines (omega arith)) in
      record { text = a.text; prints = rw taken a.prints; written = a.written }

  long_line : (line : List ℕ) → longest_line < length line → line_of {A = A} line ≡ Err trace_fault.Long
  long_line line h = rw (lt-ltb longest_line (length line) h) refl

  same_line : (rest line : List ℕ) (left : Option (List ℕ)) → IsFirstLine rest line left → line_of {A = A} line ≡ line_of (first_line rest)
  same_line rest line left (some, inl h) = ap line_of h.0
  same_line rest line left (some, inr h) = long_line line h.0 ∙ sym (long_line (first_line rest) h.1)

  here : (count : ℕ) (new : State) (after left : Option (List ℕ)) (a : AtLine A ds certify bytes count old new before after left) → 0 < length a.rest → HasLine bytes count (first_line a.rest)
  here count new after left a some = record { front = a.lines; rest = lines_of (after_line a.rest); whole = a.split ∙ ap (λ (ls : List (List ℕ)). a.lines ++ ls) (lines_of-some a.rest some); counted = a.counted }

  -- no line is left
  pub at_end : (count : ℕ) (new : State) (after left : Option (List ℕ)) → count ≤ most_lines → (a : AtLine A ds certify bytes count old new before after left) → a.rest ≡ [] → Ends A ds certify bytes old new before after (Ok tt)
  at_end count new after left most a e =
      let whole : lines_of bytes ≡ a.lines = a.split ∙ ap (λ (xs : List ℕ). a.lines ++ lines_of xs) e ∙ ap (λ (ls : List (List ℕ)). a.lines ++ ls) lines_of-none ∙ append-nil a.lines in
      let all : length (lines_of bytes) ≡ count = ap length whole ∙ a.counted in
      (omega (arith, most, all), rw all (wrote count new after left a))

  -- a read failed
  pub read_failed : (count : ℕ) (new : State) (after left : Option (List ℕ)) → count ≤ most_lines → AtLine A ds certify bytes count old new before after left → Ends A ds certify bytes old new before after (Err fault.Read)
  read_failed count new after left most a = (count, most, wrote count new after left a)

  -- the next line was taken, and stops the run
  pub stopped : (e : RunFault) (count : ℕ) (mid new : State) (after left : Option (List ℕ)) (line : List ℕ) (next : Option (List ℕ)) → count < most_lines → (a : AtLine A ds certify bytes count old mid before after left) → IsFirstLine a.rest line next → StopsAt A ds certify e (count + 1) (line_of line) mid new → Ends A ds certify bytes old new before after (Err e)
  stopped (fault.Line n f) count mid new after left line next below a first (p, q, r) =
      (count, below, p, (first_line a.rest, here count mid after left a first.0, sym (same_line a.rest line next first) ∙ q), subst (λ (s : State). Wrote A ds certify bytes count old s before after) (sym r) (wrote count mid after left a))
  stopped fault.NoCallsLeft count mid new after left line next below a first (asked, p, r) = (
    count,
    below,
    (first_line a.rest, here count mid after left a first.0, subst (AsksForCall A) (same_line a.rest line next first) asked),
    ap (λ (s : State). s.calls_left) r ∙ p,
    subst (λ (s : State). Wrote A ds certify bytes count old s before after) (sym r) (wrote count mid after left a),
  )
  stopped fault.OutOfMemory count mid new after left line next below a first (inl r) =
      (count, below, record { mid = mid; whole = wrote count mid after left a; next = inl r })
  stopped fault.OutOfMemory count mid new after left line next below a first (inr made) = (
    count,
    below,
    record {
      mid = mid;
      whole = wrote count mid after left a;
      next = inr (first_line a.rest, here count mid after left a first.0, subst (λ (asks : Result (Option (TraceCall A)) TraceFault). MakesCall A ds asks mid new) (same_line a.rest line next first) made);
    },
  )
  stopped fault.Read count mid new after left line next below a first s = absurd s
  stopped fault.Write count mid new after left line next below a first s = absurd s
  stopped fault.TooManyLines count mid new after left line next below a first s = absurd s

  -- the next line's text was not written whole
  pub write_failed : (count : ℕ) (mid new : State) (middle after left : Option (List ℕ)) (line : List ℕ) (next : Option (List ℕ)) (text : List ℕ) (taken : ℕ) → count < most_lines → (a : AtLine A ds certify bytes count old mid before middle left) → IsFirstLine a.rest line next → Prints A ds certify (count + 1) (line_of line) mid text new → Appends middle after (take taken text) → Ends A ds certify bytes old new before after (Err fault.Write)
  write_failed count mid new middle after left line next text taken below a first p w = (
    count,
    below,
    record {
      mid = mid;
      middle = middle;
      whole = wrote count mid middle left a;
      line = first_line a.rest;
      here = here count mid middle left a first.0;
      text = text;
      prints = subst (λ (asks : Result (Option (TraceCall A)) TraceFault). Prints A ds certify (count + 1) asks mid text new) (same_line a.rest line next first) p;
      taken = taken;
      written = w;
    },
  )

  -- the next line's text was written
  pub next_line : (count : ℕ) (mid new : State) (middle after left : Option (List ℕ)) (line : List ℕ) (next : Option (List ℕ)) (text : List ℕ) (a : AtLine A ds certify bytes count old mid before middle left) → IsFirstLine a.rest line next → Prints A ds certify (count + 1) (line_of line) mid text new → Appends middle after text → AtLine A ds certify bytes (count + 1) old new before after next
  next_line count mid new middle after left line next text a (some, inl (e, l)) p w =
      let first = first_line a.rest in
      let number : count + 1 ≡ 1 + length a.lines = omega (arith, a.counted) in
      let printed : Prints A ds certify (1 + length a.lines) (line_of first) mid text new = subst (λ (n : ℕ). Prints A ds certify n (line_of first) mid text new) number (subst (λ (bs : List ℕ). Prints A ds certify (count + 1) (line_of bs) mid text new) e p) in
      record {
        rest = after_line a.rest;
        left_is = l;
        lines = a.lines ++ first ∷ [];
        counted = length-append a.lines (first ∷ []) ∙ ap (λ (n : ℕ). n + 1) a.counted;
        split = a.split ∙ ap (λ (ls : List (List ℕ)). a.lines ++ ls) (lines_of-some a.rest some) ∙ sym (append_assoc a.lines (first ∷ []) (lines_of (after_line a.rest)));
        text = a.text ++ text;
        prints = prints_more A ds certify 1 a.lines first old mid new a.text text a.prints printed;
        written = appends_more before middle after a.text text a.written w;
      }
  next_line count mid new middle after left line next text a (some, inr (long, more)) p w =
      absurd (subst (λ (asks : Result (Option (TraceCall A)) TraceFault). Prints A ds certify (count + 1) asks mid text new) (long_line line long) p)

  -- there is a line after the last that may be
  pub too_many : (count : ℕ) → count ≡ most_lines → (new : State) (after left : Option (List ℕ)) (b : ℕ) (more : List ℕ) (a : AtLine A ds certify bytes count old new before after left) → a.rest ≡ b ∷ more → Ends A ds certify bytes old new before after (Err fault.TooManyLines)
  too_many count m new after left b more a e =
      let some : 0 < length a.rest = rw e (omega arith) in
      let whole : length (lines_of bytes) ≡ length a.lines + length (lines_of a.rest) = ap length a.split ∙ length-append a.lines (lines_of a.rest) in
      let rest : length (lines_of a.rest) ≡ length (lines_of (after_line a.rest)) + 1 = ap length (lines_of-some a.rest some) ∙ sym (add-one (length (lines_of (after_line a.rest)))) in
      (omega (arith, whole, rest, a.counted, m), subst (λ (n : ℕ). Wrote A ds certify bytes n old new before after) m (wrote count new after left a))

  -- there was no memory for the next line
  pub memory_failed : (count : ℕ) (new : State) (after left : Option (List ℕ)) → count < most_lines → AtLine A ds certify bytes count old new before after left → Ends A ds certify bytes old new before after (Err fault.OutOfMemory)
  memory_failed count new after left below a = (count, below, record { mid = new; whole = wrote count new after left a; next = inl refl })

pub line_taken : (rest line : List ℕ) (left next : Option (List ℕ)) → left ≡ Some rest → TakesLine left true line next → IsFirstLine rest line next
line_taken rest line left next e t = rw e at t

pub none_taken : (rest line : List ℕ) (left next : Option (List ℕ)) → left ≡ Some rest → TakesLine left false line next → rest ≡ []
none_taken rest line left next e t = rw e at t

pub no_byte : (rest : List ℕ) (left next : Option (List ℕ)) → left ≡ Some rest → TakesByte left None next → rest ≡ []
no_byte rest left next e t = let h = rw e at t in h.0

pub one_byte : (rest : List ℕ) (left next : Option (List ℕ)) (b : ℕ) → left ≡ Some rest → TakesByte left (Some b) next → (more : List ℕ) × (rest ≡ b ∷ more)
one_byte rest left next b e t = let h = rw e at t in (h.0, h.1)

-- ---- where the trace's bytes are known

module _ (A : Type 0) (ds : List Meaning) (certify : Bool) (o : Option (List ℕ)) (old : State) (before : Option (List ℕ)) where
  -- a number of lines have been read, if the bytes are known
  abbrev pub AtLineIf : ℕ → State → Option (List ℕ) → Option (List ℕ) → Type 0
  AtLineIf count new after left = IfSome o (λ bytes. AtLine A ds certify bytes count old new before after left)

  abbrev pub EndsIf : State → Option (List ℕ) → Result (Unit {0}) RunFault → Type 0
  EndsIf new after result = IfSome o (λ bytes. Ends A ds certify bytes old new before after result)

pub start_if : (A : Type 0) (ds : List Meaning) (certify : Bool) (o : Option (List ℕ)) (old : State) (before left : Option (List ℕ)) → left ≡ o → AtLineIf A ds certify o old before 0 old before left
start_if A ds certify None old before left e = tt
start_if A ds certify (Some bytes) old before left e = at_start A ds certify bytes old before left e

module _ (A : Type 0) (ds : List Meaning) (certify : Bool) (old : State) (before : Option (List ℕ)) (count : ℕ) (mid : State) (middle left : Option (List ℕ)) where
  pub ended_if : (o : Option (List ℕ)) (line : List ℕ) (next : Option (List ℕ)) → AtLineIf A ds certify o old before count mid middle left → count ≤ most_lines → TakesLine left false line next → EndsIf A ds certify o old before mid middle (Ok tt)
  ended_if None line next a most t = tt
  ended_if (Some bytes) line next a most t = at_end A ds certify bytes old before count mid middle left most a (none_taken a.rest line left next a.left_is t)

  pub read_failed_if : (o : Option (List ℕ)) → AtLineIf A ds certify o old before count mid middle left → count ≤ most_lines → EndsIf A ds certify o old before mid middle (Err fault.Read)
  read_failed_if None a most = tt
  read_failed_if (Some bytes) a most = read_failed A ds certify bytes old before count mid middle left most a

  pub memory_failed_if : (o : Option (List ℕ)) → AtLineIf A ds certify o old before count mid middle left → count < most_lines → EndsIf A ds certify o old before mid middle (Err fault.OutOfMemory)
  memory_failed_if None a below = tt
  memory_failed_if (Some bytes) a below = memory_failed A ds certify bytes old before count mid middle left below a

  pub stopped_if : (o : Option (List ℕ)) (e : RunFault) (new : State) (line : List ℕ) (next : Option (List ℕ)) → AtLineIf A ds certify o old before count mid middle left → count < most_lines → TakesLine left true line next → StopsAt A ds certify e (count + 1) (line_of line) mid new → EndsIf A ds certify o old before new middle (Err e)
  stopped_if None e new line next a below t s = tt
  stopped_if (Some bytes) e new line next a below t s = stopped A ds certify bytes old before e count mid new middle left line next below a (line_taken a.rest line left next a.left_is t) s

  pub write_failed_if : (o : Option (List ℕ)) (new : State) (after : Option (List ℕ)) (line : List ℕ) (next : Option (List ℕ)) (text : List ℕ) → AtLineIf A ds certify o old before count mid middle left → count < most_lines → TakesLine left true line next → Prints A ds certify (count + 1) (line_of line) mid text new → ((taken : ℕ) × Appends middle after (take taken text)) → EndsIf A ds certify o old before new after (Err fault.Write)
  write_failed_if None new after line next text a below t p w = tt
  write_failed_if (Some bytes) new after line next text a below t p (taken, w) = write_failed A ds certify bytes old before count mid new middle after left line next text taken below a (line_taken a.rest line left next a.left_is t) p w

  pub next_if : (o : Option (List ℕ)) (new : State) (after : Option (List ℕ)) (line : List ℕ) (next : Option (List ℕ)) (text : List ℕ) → AtLineIf A ds certify o old before count mid middle left → TakesLine left true line next → Prints A ds certify (count + 1) (line_of line) mid text new → Appends middle after text → AtLineIf A ds certify o old before (count + 1) new after next
  next_if None new after line next text a t p w = tt
  next_if (Some bytes) new after line next text a t p w = next_line A ds certify bytes old before count mid new middle after left line next text a (line_taken a.rest line left next a.left_is t) p w

  pub no_more_if : (o : Option (List ℕ)) (next : Option (List ℕ)) → AtLineIf A ds certify o old before count mid middle left → count ≤ most_lines → TakesByte left None next → EndsIf A ds certify o old before mid middle (Ok tt)
  no_more_if None next a most t = tt
  no_more_if (Some bytes) next a most t = at_end A ds certify bytes old before count mid middle left most a (no_byte a.rest left next a.left_is t)

  pub too_many_if : (o : Option (List ℕ)) (next : Option (List ℕ)) (b : ℕ) → AtLineIf A ds certify o old before count mid middle left → count ≡ most_lines → TakesByte left (Some b) next → EndsIf A ds certify o old before mid middle (Err fault.TooManyLines)
  too_many_if None next b a e t = tt
  too_many_if (Some bytes) next b a e t =
      let (more, h) = one_byte a.rest left next b a.left_is t in
      too_many A ds certify bytes old before count e mid middle left b more a h

-- ---- a reader with an empty buffer

abbrev buffered : {T : Type 0} → (T → Option (List ℕ)) → ℕ → List ℕ → T → Option (List ℕ)
buffered remaining capacity buffer inner = cond (capacity == 0) None (prepend_known buffer (remaining inner))

prepend_none : (o : Option (List ℕ)) → prepend_known [] o ≡ o
prepend_none None = refl
prepend_none (Some bytes) = refl

pub fresh : {T Z : Type 0} (remaining : T → Option (List ℕ)) (r : BufReader T Z) (inner : T) → reader_inner r ≡ inner → reader_buffer r ≡ [] → reader_capacity r ≡ 8192 → reader_remaining remaining r ≡ remaining inner
fresh remaining r inner i b c =
    ap (λ (n : ℕ). buffered remaining n (reader_buffer r) (reader_inner r)) c
    ∙ ap (λ (bs : List ℕ). prepend_known bs (remaining (reader_inner r))) b
    ∙ prepend_none (remaining (reader_inner r))
    ∙ ap remaining i
