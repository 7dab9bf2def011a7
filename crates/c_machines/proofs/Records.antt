-- Records, one behind the other.
use Rattle.std.proofs.Common.{◌≡◌, ℕ, ◌+◌, ◌/◌, ◌%◌, ◌<◌, ◌≤◌, true, false, List, [], ◌∷◌, ◌++◌, length, suc, sym, ap, ap₂, ◌∙◌, length-append, add-one, rules}
use Rattle.std.specs.List.{list_all}
use Rattle.std.specs.Simd.{first_chunks}
use Rattle.std.proofs.Math.Nat.{add-div_left, div-eq_of_lt}
use Rattle.std.proofs.Math.Seq.{take-append_seam, drop-append_seam}
use Rattle.boot_machines.specs.Machines.{most_descriptors}
use Rattle.c_machines.specs.MachineRecords.{least_size, are_records, is_aligned, records_in}

first_chunk : (chunk rest : List ℕ) (k : ℕ) → first_chunks (length chunk) (suc k) (chunk ++ rest) ≡ chunk ∷ first_chunks (length chunk) k rest
first_chunk chunk rest k = ap₂ (λ (x : List ℕ) (ys : List ℕ). x ∷ first_chunks (length chunk) k ys) (take-append_seam chunk rest) (drop-append_seam chunk rest)

-- as many bytes as a record has are the first record
pub first_record : (size : ℕ) (chunk rest : List ℕ) → 0 < size → length chunk ≡ size → records_in size (chunk ++ rest) ≡ chunk ∷ records_in size rest
first_record size chunk rest some e =
    let n : length (chunk ++ rest) / size ≡ suc (length rest / size) =
    ap (λ (k : ℕ). k / size) (length-append chunk rest ∙ ap (λ (k : ℕ). k + length rest) e) ∙ add-div_left (length rest) some ∙ add-one (length rest / size) in
    ap (λ (k : ℕ). first_chunks size k (chunk ++ rest)) n
    ∙ ap (λ (k : ℕ). first_chunks k (suc (length rest / size)) (chunk ++ rest)) (sym e)
    ∙ first_chunk chunk rest (length rest / size)
    ∙ ap (λ (k : ℕ). chunk ∷ first_chunks k (length rest / size) rest) e

-- fewer bytes are no record
pub no_record : (size : ℕ) (rest : List ℕ) → length rest < size → records_in size rest ≡ []
no_record size rest h = ap (λ (k : ℕ). first_chunks size k rest) (div-eq_of_lt h)

module _ (size : ℕ) (bytes : List ℕ) (least : least_size ≤ size) (whole : length bytes % size ≡ 0) (few : length bytes / size ≤ most_descriptors) where
  pub no_records : list_all is_aligned (records_in size bytes) ≡ false → are_records size bytes ≡ false
  no_records e = rw e (search rules)

  pub some_records : list_all is_aligned (records_in size bytes) ≡ true → are_records size bytes ≡ true
  some_records e = rw e (search rules)
