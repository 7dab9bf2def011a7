-- Two small machines.
use Rattle.std.proofs.Common.{ℕ, List, [], ◌∷◌, refl, arith}
use Rattle.page_ranges.specs.declared.ranges.Owner.TheVariants.{Given}
use Rattle.page_ranges.specs.declared.ranges.Run.{Run}
use Rattle.page_ranges.specs.Memory.{IsProperMemory}
use Rattle.page_ranges.specs.Runs.{pages_of}
use Rattle.page_ranges.proofs.RunLists.{proper_pages}

abbrev pub run : ℕ → ℕ → ℕ → ℕ → Run
run first pages t a = record { range = record { first = first; pages = pages }; mtype = t; attributes = a; owner = Given }

-- free pages with a hole, and runtime data in the upper part
abbrev pub runs_a : List Run
runs_a = run 0 160 7 0xf ∷ run 256 768 7 0xf ∷ run 1024 16 6 0x800000000000000f ∷ run 1040 1008 7 0xf ∷ []

-- sixteen free pages with two sets of attributes
abbrev pub runs_b : List Run
runs_b = run 0 8 7 0xf ∷ run 8 8 7 0x7 ∷ []

pub proper_a : IsProperMemory (pages_of runs_a)
proper_a = proper_pages runs_a (omega arith) (
  record { within = omega arith; given = λ e. refl; no_runtime = λ e. refl },
  (
    record { within = omega arith; given = λ e. refl; no_runtime = λ e. refl },
    (record { within = omega arith; given = λ e. refl; no_runtime = λ e. absurd (omega (arith, e)) }, (record { within = omega arith; given = λ e. refl; no_runtime = λ e. refl }, tt)),
  ),
)

pub proper_b : IsProperMemory (pages_of runs_b)
proper_b = proper_pages runs_b (omega arith) (record { within = omega arith; given = λ e. refl; no_runtime = λ e. refl }, (record { within = omega arith; given = λ e. refl; no_runtime = λ e. refl }, tt))
