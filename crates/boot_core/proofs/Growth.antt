-- How long the memory map can be after calls.
use Rattle.std.proofs.Common.{ℕ, ◌+◌, ◌*◌, ◌≤◌, Bool, List, [], ◌∷◌, length, ap, arith}
use Rattle.page_ranges.specs.MemoryMap.{memory_map}
use Rattle.page_ranges.proofs.RunMaps.{entries_at_most}
use Rattle.page_services.proofs.Choices.{Permits}
use Rattle.boot_calls.specs.declared.calls.Call.{Call}
use Rattle.boot_replies.specs.declared.replies.Reply.{Reply}
use Rattle.boot_machines.specs.Machines.{IsMachine, MachineValue}
use Rattle.boot_core.specs.Machines.{State, AreSound, prepared_state}
use Rattle.boot_core.specs.Steps.{Setting, CallRunBy}
use Rattle.boot_calls.specs.CallNumbers.{NamesTypes}
use Rattle.boot_core.proofs.Outcomes.{outcome, map_grows}
use Rattle.boot_core.proofs.Soundness.{prepared_sound, stays_sound}

module _ (S : Setting) (permits : Permits S.chosen) where
  grows : {A : Type 0} (old : State) (calls : List (Call A)) (replies : List (Reply A)) (new : State) → AreSound old.parts → CallRunBy S old calls replies new → length (memory_map new.parts.book.memory) ≤ length (memory_map old.parts.book.memory) + 2 * length calls
  grows old [] [] new sound run = omega (arith, ap (λ (s : State). length (memory_map s.parts.book.memory)) run)
  grows old (c ∷ calls) (r ∷ replies) new sound (next, step, run) =
      let o = outcome S permits old.exited old.parts c r next.parts sound step.answers in
      let still = stays_sound S permits old.exited old.parts c r next.parts sound step.answers in
      omega (arith, map_grows (NamesTypes c) old.parts.book next.parts.book o, grows next calls replies new still run)
  grows old [] (r ∷ replies) new sound run = absurd run
  grows old (c ∷ calls) [] new sound run = absurd run

  pub grown_map : {A : Type 0} (placements : ℕ) (certifies : Bool) (machine : MachineValue) (calls : List (Call A)) (replies : List (Reply A)) (new : State) → IsMachine machine → CallRunBy S (prepared_state placements certifies machine) calls replies new → length (memory_map new.parts.book.memory) ≤ length machine.runs + 2 * length calls
  grown_map placements certifies machine calls replies new valid run = omega (arith, entries_at_most machine.runs valid.runs.runs, grows (prepared_state placements certifies machine) calls replies new (prepared_sound placements certifies machine valid) run)
