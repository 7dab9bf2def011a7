-- The machine that records describe.
use Rattle.std.proofs.Common.{◌≡◌, ℕ, true, List, Option, Some, None, IsSome, IfSome, ◌↔◌, IsPermutation, sym, subst}
use Rattle.std.specs.List.Sorted.{IsNonDecreasingBy}
use Rattle.std.specs.Option.{ok_or}
use Rattle.std.proofs.lemmas.List.Sorted.{IsPermutation-sym, IsPermutation-trans}
use Rattle.page_ranges.specs.declared.ranges.Run.{Run}
use Rattle.boot_machines.specs.Machines.{MachineValue, IsMachine}
use Rattle.c_machines.specs.declared.faults.MachineFault.TheVariants.{Invalid}
use Rattle.c_machines.specs.MachineRecords.{MakesMachine, IsReturned, are_records, runs_in}
use Rattle.c_machines.proofs.RunOrder.{rising, permuted, one_order}

abbrev of : ℕ → List Run → MachineValue
of granule runs = record { runs = runs; granule = granule }

module _ (size : ℕ) (bytes : List ℕ) (granule : ℕ) (runs : List Run) (records : are_records size bytes ≡ true) (same : IsPermutation (runs_in size bytes) runs) (order : IsNonDecreasingBy (λ (r : Run). r.range.first) runs) where
  returned : IsReturned size bytes granule (of granule runs)
  returned = record { records = records; runs = same; order = order; granule = λ i. granule }

  -- a machine that is described is this one
  one_machine : (m : MachineValue) → IsMachine m → IsReturned size bytes granule m → IsMachine (of granule runs)
  one_machine m is t =
      let one : runs ≡ m.runs = one_order runs m.runs (rising runs order) is.runs.runs (permuted runs m.runs (IsPermutation-trans runs (runs_in size bytes) m.runs (IsPermutation-sym (runs_in size bytes) runs same) t.runs)) in
      let path : m ≡ of granule runs = λ i. record { runs = sym one i; granule = t.granule i } in
      subst IsMachine path is

  pub made : (o : Option MachineValue) → (IsSome o ↔ IsMachine (of granule runs)) → IfSome o (λ m. m ≡ of granule runs) → MakesMachine size bytes granule (ok_or o Invalid)
  made None valid is = λ m fits t. absurd (let f = valid.1 (one_machine m fits t) in cc)
  made (Some m) valid is = subst (IsReturned size bytes granule) (sym is) returned
