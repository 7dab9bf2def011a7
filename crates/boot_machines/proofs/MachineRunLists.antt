-- Lists of the runs of machines.
use Rattle.std.proofs.Common.{◌≡◌, ℕ, ◌+◌, ◌<◌, ◌≤◌, List, [], ◌∷◌, ◌++◌, length, take, get_or, true, sym, ap, subst, ◌∙◌}
use Rattle.std.proofs.lemmas.List.{take_more, get_or_default}
use Rattle.std.specs.List.{AllByRecursion}
use Rattle.page_ranges.specs.declared.ranges.Owner.TheVariants.{Given}
use Rattle.page_ranges.specs.declared.ranges.Run.{Run}
use Rattle.page_ranges.specs.MemoryTypes.{is_machine_type}
use Rattle.page_ranges.specs.Runs.{AreRuns, IsValidMachine}
use Rattle.page_ranges.proofs.Members.{all_implied}
use Rattle.page_ranges.proofs.RunLists.{IsProperRun, proper_runs, proper_pages, run_at, ends_before, some_pages_at}
use Rattle.boot_machines.specs.MachineRuns.{IsMachineRun}

pub valid_machine : (rs : List Run) → AreRuns rs → AllByRecursion IsMachineRun rs → IsValidMachine rs
valid_machine rs a each = record {
  runs = a;
  given = all_implied IsMachineRun (λ r. r.owner ≡ Given) (λ r h. h.given) rs each;
  mtypes = all_implied IsMachineRun (λ r. is_machine_type r.mtype ≡ true) (λ r h. h.mtype) rs each;
  proper = proper_pages rs a (all_implied IsMachineRun IsProperRun (λ r h. record { within = h.within; given = λ t. h.given; no_runtime = h.no_runtime }) rs each);
}

module _ (rs : List Run) (i : ℕ) (x : Run) (inside : i < length rs) (here : x ≡ get_or rs i x) where
  pub run_of_machine : IsValidMachine rs → IsMachineRun x
  run_of_machine v =
      let proper = run_at IsProperRun rs i x (proper_runs rs v.runs v.proper) inside in
      subst IsMachineRun (sym here) (record {
        some = some_pages_at rs i x v.runs inside;
        within = proper.within;
        given = run_at (λ r. r.owner ≡ Given) rs i x v.given inside;
        mtype = run_at (λ r. is_machine_type r.mtype ≡ true) rs i x v.mtypes inside;
        no_runtime = proper.no_runtime;
      })

  pub begins_after : (j : ℕ) → j < i → IsValidMachine rs → (get_or rs j x).range.first + (get_or rs j x).range.pages ≤ x.range.first
  begins_after j l v = subst (λ (r : Run). (get_or rs j x).range.first + (get_or rs j x).range.pages ≤ r.range.first) (sym here) (ends_before rs j i x x v.runs l inside)

  pub taken : take (i + 1) rs ≡ take i rs ++ x ∷ []
  taken = take_more rs i x inside ∙ ap (λ (r : Run). take i rs ++ r ∷ []) (sym here)

  pub ends_at : (d : Run) → x.range.first + x.range.pages ≡ (get_or rs i d).range.first + (get_or rs i d).range.pages
  ends_at d = ap (λ (r : Run). r.range.first + r.range.pages) (here ∙ get_or_default rs i x d inside)
