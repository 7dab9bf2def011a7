-- The runs that a memory list lists.
use Rattle.std.proofs.Common.{◌≡◌, ℕ, zero, suc, ◌+◌, ◌<◌, ◌≤◌, ◌^◌, Bool, true, false, cond, ◌&&◌, ◌==◌, not, nat_lt, nat_le, List, [], ◌∷◌, length, drop, Option, Some, None, option_and_then, Result, Ok, Err, refl, ap, subst, arith, leb-true, eq-eqb, codes}
use Rattle.std.specs.List.{AllByRecursion}
use Rattle.std.proofs.lemmas.Bool.{ltb-true, ltb-false}
use Rattle.serde_json.specs.Data.{Data, Items, no_items, item}
use Rattle.serde_json.specs.Find.{get, as_array, as_str}
use Rattle.page_ranges.specs.declared.ranges.Owner.TheVariants.{Given}
use Rattle.page_ranges.specs.declared.ranges.Run.{Run}
use Rattle.page_ranges.specs.MemoryTypes.{page_count, conventional, has_runtime, is_machine_type}
use Rattle.page_ranges.proofs.Members.{all_implied}
use Rattle.text_lines.specs.FirstFault.{◌>>=◌, or_fault}
use Rattle.text_lines.specs.Numbers.{value_of_digits, within_64_bits, hexadecimal_of}
use Rattle.text_lines.proofs.FirstFaults.{bind_ok, found, chosen_right}
use Rattle.boot_machines.specs.MachineRuns.{HasRecordNumbers, IsMachineRun}
use Rattle.boot_machines.specs.Machines.{most_descriptors}
use Rattle.machine_files.specs.declared.faults.MachineFault.TheVariants as fault
use Rattle.machine_files.specs.declared.faults.MemberField.{MemberField}
use Rattle.machine_files.specs.declared.faults.MemberField.TheVariants as field
use Rattle.machine_files.specs.FaultText.{field_name}
use Rattle.machine_files.specs.Fields.{if_passes, number_at, hexadecimal_at, item_count}
use Rattle.machine_files.proofs.EachMember.{count_read}
use Rattle.machine_files.specs.MachineText.{member_type, first_page_of, page_count_of, attributes_of, member_run, or_descriptor, runs_from, root_runs}

-- ---- steps that went well

pub passed : (test : ℕ → Bool) (o : Option ℕ) (n : ℕ) → option_and_then (if_passes test) o ≡ Some n → test n ≡ true
passed test None n e = absurd (cc)
passed test (Some m) n e = passes (test m) refl e
  where
    passes : (b : Bool) → test m ≡ b → cond b (Some m) None ≡ Some n → test n ≡ true
    passes true h k = let same : m ≡ n = cc in subst (λ (x : ℕ). test x ≡ true) same h
    passes false h k = absurd (cc)

-- what passed is what there was
passed_from : (test : ℕ → Bool) (o : Option ℕ) (n : ℕ) → option_and_then (if_passes test) o ≡ Some n → o ≡ Some n
passed_from test None n e = absurd (cc)
passed_from test (Some m) n e = passes (test m) e
  where
    passes : (b : Bool) → cond b (Some m) None ≡ Some n → Some m ≡ Some n
    passes true k = k
    passes false k = absurd (cc)

-- ---- a member

both : (a b : Bool) → (a && b) ≡ true → (a ≡ true) × (b ≡ true)
both true b e = (refl, e)
both false b e = absurd (cc)

not_zero : (n : ℕ) → not (n == 0) ≡ true → 0 < n
not_zero zero e = absurd (cc)
not_zero (suc n) e = omega arith

second_not : (a b : Bool) → not (a && b) ≡ true → a ≡ true → b ≡ false
second_not true true e h = absurd (cc)
second_not true false e h = refl
second_not false b e h = absurd (cc)

-- the run of what the fields give
abbrev made : ℕ → ℕ → ℕ → ℕ → Run
made t first pages attributes = record { range = record { first = first; pages = pages }; mtype = t; attributes = attributes; owner = Given }

abbrev from_pages : Data → ℕ → ℕ → ℕ → Result Run MemberField
from_pages d t first pages = or_fault field.Attributes (attributes_of t d) >>= λ attributes. Ok (made t first pages attributes)

abbrev from_first : Data → ℕ → ℕ → Result Run MemberField
from_first d t first = or_fault field.Pages (page_count_of first d) >>= from_pages d t first

abbrev from_type : Data → ℕ → Result Run MemberField
from_type d t = or_fault field.Start (first_page_of d) >>= from_first d t

-- a number of the 0x form has 64 bits
hexadecimal_below : (b : Bool) (o : Option ℕ) (n : ℕ) → cond b (option_and_then within_64_bits o) None ≡ Some n → n < 2 ^ 64
hexadecimal_below true o n e = ltb-true n (2 ^ 64) (passed (λ m. nat_lt m (2 ^ 64)) o n e)
hexadecimal_below false o n e = absurd (cc)

hexadecimal_fits : (o : Option (List ℕ)) (n : ℕ) → option_and_then hexadecimal_of o ≡ Some n → n < 2 ^ 64
hexadecimal_fits None n e = absurd (cc)
hexadecimal_fits (Some word) n e = hexadecimal_below _ (value_of_digits 16 (drop 2 word)) n e

type_fits : (d : Data) (t : ℕ) → member_type d ≡ Some t → t < 2 ^ 32
type_fits d t e = ltb-true t (2 ^ 32) (both (nat_lt t (2 ^ 32)) (is_machine_type t) (passed (λ t. nat_lt t (2 ^ 32) && is_machine_type t) (number_at (field_name field.Type) d) t e)).0

attributes_fit : (d : Data) (t attributes : ℕ) → attributes_of t d ≡ Some attributes → attributes < 2 ^ 64
attributes_fit d t attributes e =
    hexadecimal_fits (option_and_then as_str (get (field_name field.Attributes) d)) attributes
    (passed_from (λ attributes. not ((t == conventional) && has_runtime attributes)) (hexadecimal_at (field_name field.Attributes) d) attributes e)

type_found : (d : Data) (t : ℕ) → member_type d ≡ Some t → is_machine_type t ≡ true
type_found d t e = (both (nat_lt t (2 ^ 32)) (is_machine_type t) (passed (λ t. nat_lt t (2 ^ 32) && is_machine_type t) (number_at (field_name field.Type) d) t e)).1

count_found : (d : Data) (first pages : ℕ) → page_count_of first d ≡ Some pages → (0 < pages) × (first + pages ≤ page_count)
count_found d first pages e =
    let h = both (not (pages == 0)) (nat_le (first + pages) page_count) (passed (λ pages. not (pages == 0) && nat_le (first + pages) page_count) (number_at (field_name field.Pages) d) pages e) in
    (not_zero pages h.0, leb-true (first + pages) page_count h.1)

attributes_found : (d : Data) (t attributes : ℕ) → attributes_of t d ≡ Some attributes → t ≡ conventional → has_runtime attributes ≡ false
attributes_found d t attributes e h =
    second_not (t == conventional) (has_runtime attributes) (passed (λ attributes. not ((t == conventional) && has_runtime attributes)) (hexadecimal_at (field_name field.Attributes) d) attributes e) (eq-eqb t conventional h)

-- a run of a machine, whose numbers fit a record
abbrev pub IsListed : Run → Type 0
IsListed r = IsMachineRun r × HasRecordNumbers r

listed_made : (d : Data) (t first pages attributes : ℕ) → member_type d ≡ Some t → page_count_of first d ≡ Some pages → attributes_of t d ≡ Some attributes → IsListed (made t first pages attributes)
listed_made d t first pages attributes te pe ae =
    let count = count_found d first pages pe in
    (record { some = count.0; within = count.1; given = refl; mtype = type_found d t te; no_runtime = attributes_found d t attributes ae }, record { mtype = type_fits d t te; attributes = attributes_fit d t attributes ae })

last_step : (d : Data) (t first pages : ℕ) (r : Run) → member_type d ≡ Some t → page_count_of first d ≡ Some pages → from_pages d t first pages ≡ Ok r → IsListed r
last_step d t first pages r te pe e =
    let (attributes, ae, e1) = bind_ok (or_fault field.Attributes (attributes_of t d)) (λ attributes. Ok (made t first pages attributes)) r e in
    let same : made t first pages attributes ≡ r = cc in
    subst IsListed same (listed_made d t first pages attributes te pe (found field.Attributes (attributes_of t d) attributes ae))

pub listed_run : (d : Data) (r : Run) → member_run d ≡ Ok r → IsListed r
unfolding member_run
listed_run d r e =
    let (t, te, e1) = bind_ok (or_fault field.Type (member_type d)) (from_type d) r e in
    let (first, fe, e2) = bind_ok (or_fault field.Start (first_page_of d)) (from_first d t) r e1 in
    let (pages, pe, e3) = bind_ok (or_fault field.Pages (page_count_of first d)) (from_pages d t first) r e2 in
    last_step d t first pages r (found field.Type (member_type d) t te) (found field.Pages (page_count_of first d) pages pe) e3

of_member : (n : ℕ) (result : Result Run MemberField) (r : Run) → or_descriptor n result ≡ Ok r → result ≡ Ok r
of_member n (Ok run) r e = let same : run ≡ r = cc in ap Ok same
of_member n (Err f) r e = absurd (cc)

pub listed_runs : (ds : Items) (n : ℕ) (runs : List Run) → runs_from n ds ≡ Ok runs → AllByRecursion IsListed runs
listed_runs no_items n runs e = let same : [] ≡ runs = cc in subst (AllByRecursion IsListed) same tt
listed_runs (item d ds) n runs e =
    let (run, re, e1) = bind_ok (or_descriptor n (member_run d)) (λ run. runs_from (n + 1) ds >>= λ more. Ok (run ∷ more)) runs e in
    let (more, me, e2) = bind_ok (runs_from (n + 1) ds) (λ more. Ok (run ∷ more)) runs e1 in
    let same : run ∷ more ≡ runs = cc in
    subst (AllByRecursion IsListed) same (listed_run d run (of_member n (member_run d) run re), listed_runs ds (n + 1) more me)

pub listed_in_root : (root : Data) (runs : List Run) → root_runs root ≡ Ok runs → AllByRecursion IsListed runs
listed_in_root root runs e =
    let (list, le, e1) = bind_ok (or_fault fault.NoMemoryList (option_and_then as_array (get (codes "memory") root))) (λ list. cond (nat_lt most_descriptors (item_count list)) (Err fault.TooManyDescriptors) (runs_from 0 list)) runs e in
    listed_runs list 0 runs (chosen_right (nat_lt most_descriptors (item_count list)) fault.TooManyDescriptors (runs_from 0 list) runs e1)

pub root_runs_are_listed : (root : Data) (runs : List Run) → root_runs root ≡ Ok runs → AllByRecursion IsMachineRun runs
root_runs_are_listed root runs e = all_implied IsListed IsMachineRun (λ r h. h.0) runs (listed_in_root root runs e)

-- ---- how many runs there are

few_chosen : (b : Bool) (list : Items) (runs : List Run) → nat_lt most_descriptors (item_count list) ≡ b → cond b (Err fault.TooManyDescriptors) (runs_from 0 list) ≡ Ok runs → length runs ≤ most_descriptors
few_chosen true list runs t e = absurd (cc)
few_chosen false list runs t e = omega (arith, count_read (λ n d. or_descriptor n (member_run d)) list 0 runs e, ltb-false most_descriptors (item_count list) t)

pub few_in_root : (root : Data) (runs : List Run) → root_runs root ≡ Ok runs → length runs ≤ most_descriptors
few_in_root root runs e =
    let (list, le, e1) = bind_ok (or_fault fault.NoMemoryList (option_and_then as_array (get (codes "memory") root))) (λ list. cond (nat_lt most_descriptors (item_count list)) (Err fault.TooManyDescriptors) (runs_from 0 list)) runs e in
    few_chosen (nat_lt most_descriptors (item_count list)) list runs refl e1
