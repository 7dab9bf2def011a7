-- The machine that runs in any order make.
use Rattle.std.proofs.Common.{◌≡◌, ℕ, suc, ◌<◌, ◌≤◌, Bool, true, false, cond, ◌||◌, ◌==◌, List, [], ◌∷◌, length, get_or, Contains, Option, Some, None, option_and_then, option_map, Ok, Err, ◌⊎◌, inl, inr, subst, IsSome, IfSome, ◌↔◌, refl, sym, ap, ◌∙◌, arith, nat_lt, codes, IsPermutation}
use Rattle.std.proofs.lemmas.Bool.{ltb-false, eqb-true}
use Rattle.std.specs.List.{AllByRecursion}
use Rattle.std.specs.List.Sorted.{IsNonDecreasingBy}
use Rattle.std.proofs.lemmas.List.Sorted.{IsPermutation-sym, Contains-permutation, length_permutation}
use Rattle.page_ranges.specs.declared.ranges.Run.{Run}
use Rattle.page_ranges.specs.Granules.{IsGranule}
use Rattle.page_ranges.specs.Runs.{AreRuns, IsValidMachine}
use Rattle.page_ranges.proofs.Members.{member_first, member_later, member_all, all_implied}
use Rattle.boot_machines.specs.MachineRuns.{HasRecordNumbers, IsMachineRun}
use Rattle.boot_machines.specs.Machines.{most_descriptors, most_drivers, MachineValue, IsMachine}
use Rattle.boot_machines.proofs.MachineRunLists.{valid_machine}
use Rattle.serde_json.specs.Data.{Data, Items}
use Rattle.serde_json.specs.Find.{get, as_array, as_number, as_u64}
use Rattle.machine_files.specs.declared.faults.MachineFault.TheVariants.{NoDriverList, TooManyDrivers, Overlap, Granule}
use Rattle.text_lines.specs.FirstFault.{◌>>=◌, or_fault}
use Rattle.text_lines.proofs.FirstFaults.{bind_ok}
use Rattle.machine_files.specs.DriverText.{ListedDriver, or_driver, member_driver, drivers_from, drivers_if, root_drivers}
use Rattle.machine_files.specs.MachineText.{ListedMachine, overlap, in_order, granule_if, root_granule, root_of, root_runs, machine_with, machine_of}
use Rattle.machine_files.specs.Fields.{item_count}
use Rattle.machine_files.proofs.EachMember.{count_read}
use Rattle.machine_files.proofs.FileRuns.{passed, IsListed, listed_in_root, few_in_root}
use Rattle.machine_files.proofs.InOrder.{AreRising, in_order-permutes, in_order-rising, one_order, overlap-permuted, overlap-in_order, apart_in_order}

all_from_members : (P : Run → Type 0) (rs : List Run) → ((x : Run) → Contains rs x → P x) → AllByRecursion P rs
all_from_members P [] f = tt
all_from_members P (r ∷ rs) f = (f r (member_first r rs), all_from_members P rs (λ x m. f x (member_later r rs x m)))

all_permuted : (P : Run → Type 0) (xs ys : List Run) → IsPermutation xs ys → AllByRecursion P xs → AllByRecursion P ys
all_permuted P xs ys h a = all_from_members P ys (λ x m. member_all P xs x a (Contains-permutation ys xs x (IsPermutation-sym xs ys h) m))

all_from_places : (P : Run → Type 0) (rs : List Run) → ((i : ℕ) (d : Run) → i < length rs → P (get_or rs i d)) → AllByRecursion P rs
all_from_places P [] f = tt
all_from_places P (r ∷ rs) f = (f 0 r (omega arith), all_from_places P rs (λ i d l. f (suc i) d (omega arith)))

pub rising : (rs : List Run) → IsNonDecreasingBy (λ (r : Run). r.range.first) rs → AreRising rs
rising [] h = tt
rising (r ∷ rs) h = (all_from_places (λ s. r.range.first ≤ s.range.first) rs (λ i d l. h 0 (suc i) d (omega arith) (omega arith)), rising rs (λ i j d l m. h (suc i) (suc j) d (omega arith) (omega arith)))

abbrev of : ℕ → List Run → MachineValue
of granule rs = record { runs = rs; granule = granule }

module _ (xs ys : List Run) (each : AllByRecursion IsMachineRun xs) (same : IsPermutation xs ys) (up : AreRising ys) where
  each_again : AllByRecursion IsMachineRun ys
  each_again = all_permuted IsMachineRun xs ys same each

  valid_overlap : IsValidMachine ys → overlap xs ≡ false
  valid_overlap v = sym (overlap-permuted xs ys same) ∙ overlap-in_order ys v.runs

  runs_apart : overlap xs ≡ false → AreRuns ys
  runs_apart e = apart_in_order ys (all_implied IsMachineRun (λ r. 0 < r.range.pages) (λ r h. h.some) ys each_again) up (overlap-permuted xs ys same ∙ e)

  order_apart : overlap xs ≡ false → AreRuns (in_order xs)
  order_apart e =
      apart_in_order (in_order xs)
      (all_implied IsMachineRun (λ r. 0 < r.range.pages) (λ r h. h.some) (in_order xs) (all_permuted IsMachineRun xs (in_order xs) (in_order-permutes xs) each))
      (in_order-rising xs) (overlap-permuted xs (in_order xs) (in_order-permutes xs) ∙ e)

  one_machine : overlap xs ≡ false → ys ≡ in_order xs
  one_machine e =
      one_order ys (in_order xs) (runs_apart e) (order_apart e)
      (λ x m. Contains-permutation xs (in_order xs) x (in_order-permutes xs) (Contains-permutation ys xs x (IsPermutation-sym xs ys same) m))
      (λ x m. Contains-permutation xs ys x same (Contains-permutation (in_order xs) xs x (IsPermutation-sym xs (in_order xs) (in_order-permutes xs)) m))

  valid_apart : overlap xs ≡ false → IsValidMachine ys
  valid_apart e = valid_machine ys (runs_apart e) each_again

  judged_by : (granule : ℕ) → IsGranule granule → (b : Bool) (o : Option MachineValue) → overlap xs ≡ b → (IsSome o ↔ IsMachine (of granule ys)) → IfSome o (λ m. m ≡ of granule ys) → o ≡ cond b None (Some (of granule (in_order xs)))
  judged_by granule fits true None e valid is = refl
  judged_by granule fits true (Some m) e valid is = absurd (let f = valid_overlap (valid.0 refl).runs in cc)
  judged_by granule fits false None e valid is = absurd (let f = valid.1 (record { runs = valid_apart e; granule = fits }) in cc)
  judged_by granule fits false (Some m) e valid is = ap Some (is ∙ ap (of granule) (one_machine e))

  pub judged : (granule : ℕ) → IsGranule granule → (o : Option MachineValue) → (IsSome o ↔ IsMachine (of granule ys)) → IfSome o (λ m. m ≡ of granule ys) → o ≡ cond (overlap xs) None (Some (of granule (in_order xs)))
  judged granule fits o = judged_by granule fits (overlap xs) o refl

-- runs without a page in common, in their order, are a valid machine
pub ordered_machine : (xs : List Run) → AllByRecursion IsMachineRun xs → overlap xs ≡ false → IsValidMachine (in_order xs)
ordered_machine xs each apart = valid_apart xs (in_order xs) each (in_order-permutes xs) (in_order-rising xs) apart

-- a machine of these runs, with a granule that was found
abbrev IsOf : List Run → Option ℕ → MachineValue → Type 0
IsOf rs granule m = (n : ℕ) × (granule ≡ Some n) × (of n rs ≡ m)

without_overlap : (b : Bool) (granule : Option ℕ) (rs : List Run) (m : MachineValue) →
    cond b (Err Overlap) (or_fault Granule (option_map (λ n. of n rs) granule)) ≡ Ok m → (b ≡ false) × IsOf rs granule m
without_overlap true granule rs m e = absurd (cc)
without_overlap false None rs m e = absurd (cc)
without_overlap false (Some n) rs m e = (refl, (n, refl, cc))

either : (a b : Bool) → (a || b) ≡ true → (a ≡ true) ⊎ (b ≡ true)
either true b e = inl refl
either false b e = inr e

granule_fits : (o : Option Data) (n : ℕ) → granule_if o ≡ Some n → IsGranule n
granule_fits None n e = let same : 1 ≡ n = cc in inl (sym same)
granule_fits (Some d) n e = elim (either (n == 1) (n == 16) (passed (λ k. (k == 1) || (k == 16)) (option_and_then as_u64 (as_number d)) n e)) [
  | inl h ↦ inl (eqb-true n 1 h)
  | inr h ↦ inr (eqb-true n 16 h)
]

few_if : (b : Bool) (list : Items) (drivers : List ListedDriver) → nat_lt most_drivers (item_count list) ≡ b → cond b (Err TooManyDrivers) (drivers_from 0 list) ≡ Ok drivers → length drivers ≤ most_drivers
few_if true list drivers t e = absurd (cc)
few_if false list drivers t e = omega (arith, count_read (λ n d. or_driver n (member_driver d)) list 0 drivers e, ltb-false most_drivers (item_count list) t)

few_drivers : (o : Option Data) (drivers : List ListedDriver) → drivers_if o ≡ Ok drivers → length drivers ≤ most_drivers
few_drivers None drivers e = let same : [] ≡ drivers = cc in omega (arith, ap length same)
few_drivers (Some d) drivers e =
    let (list, le, e1) = bind_ok (or_fault NoDriverList (as_array d)) (λ list. cond (nat_lt most_drivers (item_count list)) (Err TooManyDrivers) (drivers_from 0 list)) drivers e in
    few_if (nat_lt most_drivers (item_count list)) list drivers refl e1

-- runs that a root lists, in their order, and drivers
abbrev IsOrdered : ListedMachine → Type 0
IsOrdered machine = IsMachine machine.machine × AllByRecursion HasRecordNumbers machine.machine.runs × (length machine.machine.runs ≤ most_descriptors) × (length machine.drivers ≤ most_drivers)

ordered_root : (root : Data) (listed : List Run) (granule : ℕ) → root_runs root ≡ Ok listed → overlap listed ≡ false → IsGranule granule → (drivers : List ListedDriver) → length drivers ≤ most_drivers →
    IsOrdered (record { machine = of granule (in_order listed); drivers = drivers })
ordered_root root listed granule e apart fits drivers few =
    let each = listed_in_root root listed e in
    let machine_runs = all_implied IsListed IsMachineRun (λ r h. h.0) listed each in
    let numbers = all_implied IsListed HasRecordNumbers (λ r h. h.1) listed each in
    (record { runs = ordered_machine listed machine_runs apart; granule = fits }, all_permuted HasRecordNumbers listed (in_order listed) (in_order-permutes listed) numbers, omega (arith, few_in_root root listed e, length_permutation listed (in_order listed) (in_order-permutes listed)), few)

pub machine_in : (bytes : List ℕ) (machine : ListedMachine) → machine_of bytes ≡ Ok machine → IsOrdered machine
unfolding machine_of
machine_in bytes machine e =
    let (root, re, e1) = bind_ok (root_of bytes) (λ root. root_runs root >>= λ runs. root_drivers root >>= λ drivers. machine_with runs (root_granule root) >>= λ m. Ok (record { machine = m; drivers = drivers })) machine e in
    let (listed, le, e2) = bind_ok (root_runs root) (λ runs. root_drivers root >>= λ drivers. machine_with runs (root_granule root) >>= λ m. Ok (record { machine = m; drivers = drivers })) machine e1 in
    let (drivers, de, e3) = bind_ok (root_drivers root) (λ drivers. machine_with listed (root_granule root) >>= λ m. Ok (record { machine = m; drivers = drivers })) machine e2 in
    let (m, me, e4) = bind_ok (machine_with listed (root_granule root)) (λ m. Ok (record { machine = m; drivers = drivers })) machine e3 in
    let (apart, (n, found, is)) = without_overlap (overlap listed) (root_granule root) (in_order listed) m me in
    let whole : ListedMachine = record { machine = of n (in_order listed); drivers = drivers } in
    let same : whole ≡ machine = ap (λ (x : MachineValue). record { machine = x; drivers = drivers }) is ∙ cc in
    subst IsOrdered {x = whole} same (ordered_root root listed n le apart (granule_fits (get (codes "granule") root) n found) drivers (few_drivers (get (codes "drivers") root) drivers de))
