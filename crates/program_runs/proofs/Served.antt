-- What is read of a machine file, and how the program ends on it.
use Rattle.std.proofs.Common.{◌≡◌, ◌⊎◌, ℕ, ◌+◌, ◌<◌, Bool, List, [], ◌∷◌, ◌++◌, length, map, Option, Some, None, Result, Ok, Err, IfSome, refl, sym, ap, ◌∙◌, inl, inr, arith, append-nil, length-append, lt-ltb, subst}
use Rattle.driver_connect.specs.declared.table.TableDriver.{TableDriver}
use Rattle.driver_connect.specs.Drivers.{Meaning}
use Rattle.machine_files.specs.declared.faults.MachineFault.{MachineFault}
use Rattle.machine_files.specs.declared.faults.MachineFault.TheVariants as machine_fault
use Rattle.machine_files.specs.DriverText.{listed, listed_meaning}
use Rattle.machine_files.specs.MachineText.{ListedMachine, longest_file, root_of, machine_of}
use Rattle.std.specs.declared.alloc.Global.{Global}
use Rattle.boot_core.specs.Machines.{State, prepared_placements, prepared_state}
use Rattle.trace_lines.specs.declared.run_faults.RunFault.{RunFault}
use Rattle.boot_trace.specs.TraceRuns.{Ends}
use Rattle.program_runs.specs.Serving.{IsRead, RunsTrace}

-- a file that is too long is none of a machine
too_long : (bytes : List ℕ) → longest_file < length bytes → machine_of bytes ≡ Err machine_fault.TooLong
unfolding root_of machine_of
too_long bytes h = rw (lt-ltb longest_file (length bytes) h) refl

-- what was read of the file has its meaning
pub read_means : (file bytes : List ℕ) → IsRead file bytes → machine_of file ≡ machine_of bytes
read_means file bytes (rest, whole, inl none) = ap machine_of (whole ∙ ap (λ (xs : List ℕ). bytes ++ xs) none ∙ append-nil bytes)
read_means file bytes (rest, whole, inr long) =
    let size : length file ≡ length bytes + length rest = ap length whole ∙ length-append bytes rest in
    too_long file (omega (arith, size, long)) ∙ sym (too_long bytes long)

-- each item seen at once, or by way of another
map_twice : {X Y Z : Type 0} (f : X → Z) (g : Y → Z) (h : X → Y) → ((x : X) → f x ≡ g (h x)) → (xs : List X) → map f xs ≡ map g (map h xs)
map_twice f g h e [] = refl
map_twice f g h e (x ∷ xs) = ap (λ z. z ∷ map f xs) (e x) ∙ ap (λ zs. g (h x) ∷ zs) (map_twice f g h e xs)

-- the drivers that are handed in answer as the file lists them
pub same_meanings : (meaning : TableDriver → Meaning) → ((d : TableDriver) → meaning d ≡ listed_meaning (listed d)) → (handed drivers : List TableDriver) → handed ≡ drivers → map meaning handed ≡ map listed_meaning (map listed drivers)
same_meanings meaning same handed drivers e = ap (map meaning) e ∙ map_twice meaning listed_meaning listed same drivers

-- what ran on the bytes that were read ran on the file
pub runs_file : (certify : Bool) (file trace : Option (List ℕ)) (bytes : List ℕ) (machine : ListedMachine) (ds : List Meaning) (core new : State) (before after : Option (List ℕ)) (end : Result (Unit {0}) RunFault) → IfSome file (λ f. IsRead f bytes) → machine_of bytes ≡ Ok machine
    → ds ≡ map listed_meaning machine.drivers → core ≡ prepared_state prepared_placements certify machine.machine → IfSome trace (λ t. Ends Global ds certify t core new before after end) → IfSome file (λ f. RunsTrace certify f trace before after end)
runs_file certify None trace bytes machine ds core new before after end r m d e h = tt
runs_file certify (Some f) trace bytes machine ds core new before after end r m d e h = (machine, read_means f bytes r ∙ m, ran trace h)
  where
    ran : (t : Option (List ℕ)) → IfSome t (λ lines. Ends Global ds certify lines core new before after end) → IfSome t (λ lines. (last : State) × Ends Global (map listed_meaning machine.drivers) certify lines (prepared_state prepared_placements certify machine.machine) last before after end)
    ran None k = tt
    ran (Some lines) k =
        (new, subst (λ (s : State). Ends Global (map listed_meaning machine.drivers) certify lines s new before after end) e (subst (λ (m : List Meaning). Ends Global m certify lines core new before after end) d k))

-- what is wrong with the bytes that were read is wrong with the file
pub faults_file : (file : Option (List ℕ)) (bytes : List ℕ) (e : MachineFault) (before after : Option (List ℕ)) → IfSome file (λ f. IsRead f bytes) → (e ≡ machine_fault.OutOfMemory) ⊎ (machine_of bytes ≡ Err e) → after ≡ before → IfSome file (λ f. ((e ≡ machine_fault.OutOfMemory) ⊎ (machine_of f ≡ Err e)) × (after ≡ before))
faults_file None bytes e before after r h k = tt
faults_file (Some f) bytes e before after r (inl h) k = (inl h, k)
faults_file (Some f) bytes e before after r (inr h) k = (inr (read_means f bytes r ∙ h), k)
