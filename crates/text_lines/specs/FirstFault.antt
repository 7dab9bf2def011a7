-- Readings in steps, the first fault of which ends them.
use Rattle.std.specs.Prelude.{Option, Some, None, Result, Ok, Err}

-- the first fault, or the last value
infixl 10 ◌>>=◌
abbrev pub ◌>>=◌ : {A B E : Type 0} → Result A E → (A → Result B E) → Result B E
(Ok x) >>= f = f x
(Err e) >>= f = Err e

-- what there is, or else the fault
abbrev pub or_fault : {A E : Type 0} → E → Option A → Result A E
or_fault e None = Err e
or_fault e (Some x) = Ok x
