-- The values of an object's keys, and the members of a list.
use Rattle.std.specs.Prelude.{ℕ, ◌+◌, Bool, nat_le, List, [], ◌∷◌, Option, Some, None, option_and_then, Result, Ok, if◌then◌else◌}
use Rattle.std.specs.Option.{option_map}
use Rattle.serde_json.specs.Data.{Data, Items, no_items, item}
use Rattle.serde_json.specs.Find.{get, as_array, as_number, as_str, as_u64}
use Rattle.machine_files.specs.declared.faults.MachineFault.{MachineFault}
use Rattle.text_lines.specs.FirstFault.{◌>>=◌}
use Rattle.text_lines.specs.Numbers.{hexadecimal_of}

-- the number, if the test passes
abbrev pub if_passes : (ℕ → Bool) → ℕ → Option ℕ
if_passes test n = if test n then Some n else None

-- the number at a key
abbrev pub number_at : List ℕ → Data → Option ℕ
number_at key d = option_and_then as_u64 (option_and_then as_number (get key d))

-- the number of `0x` and digits that is the text at a key
abbrev pub hexadecimal_at : List ℕ → Data → Option ℕ
hexadecimal_at key d = option_and_then hexadecimal_of (option_and_then as_str (get key d))

-- how many members a list has
abbrev pub item_count : Items → ℕ
item_count no_items = 0
item_count (item d ds) = item_count ds + 1

-- what each member is read as, unless one of them can't be read
abbrev pub each_of : {X : Type 0} → (Data → Option X) → Items → Option (List X)
each_of read no_items = Some []
each_of read (item d ds) =
    option_and_then (λ x. option_map (λ xs. x ∷ xs) (each_of read ds)) (read d)

-- what each member is read as, the first of which is the nth, or the first fault
abbrev pub each_from : {X : Type 0} → (ℕ → Data → Result X MachineFault) → ℕ → Items
    → Result (List X) MachineFault
each_from read n no_items = Ok []
each_from read n (item d ds) = do
  x ← read n d
  xs ← each_from read (n + 1) ds
  Ok (x ∷ xs)

-- what each member of a list of limited length is read as
abbrev pub each_up_to : {X : Type 0} → ℕ → (Data → Option X) → Data → Option (List X)
each_up_to most read d =
    option_and_then (λ ds. if nat_le (item_count ds) most then each_of read ds else None)
    (as_array d)
