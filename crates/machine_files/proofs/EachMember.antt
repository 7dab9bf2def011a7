-- Members, read one after another.
use Rattle.std.proofs.Common.{◌≡◌, ℕ, ◌+◌, ◌<◌, ◌≤◌, List, [], ◌∷◌, ◌++◌, length, drop, get_or, Option, Some, None, option_and_then, Result, Ok, Err, refl, sym, ap, ◌∙◌, add-one, append_assoc, append-nil, arith}
use Rattle.std.specs.Option.{option_map}
use Rattle.std.proofs.Math.ListN.{drop_of_length-le}
use Rattle.std.proofs.Math.Seq.{drop-cons}
use Rattle.serde_json.specs.declared.value.Value.{Value}
use Rattle.serde_json.specs.Data.{Data, Items, no_items, item}
use Rattle.serde_json.specs.View.{view, items_view}
use Rattle.text_lines.specs.FirstFault.{◌>>=◌}
use Rattle.text_lines.proofs.FirstFaults.{bind_ok}
use Rattle.machine_files.specs.declared.faults.MachineFault.{MachineFault}
use Rattle.machine_files.specs.Fields.{item_count, each_of, each_from}

pub count_of_items : (xs : List Value) → item_count (items_view xs) ≡ length xs
count_of_items [] = refl
count_of_items (x ∷ xs) = ap (λ n. n + 1) (count_of_items xs) ∙ add-one (length xs)

-- ---- up to the first fault

-- those so far, and then those that are read
abbrev pub with_front : {X : Type 0} → List X → Result (List X) MachineFault → Result (List X) MachineFault
with_front front (Ok xs) = Ok (front ++ xs)
with_front front (Err e) = Err e

pub with_front-none : {X : Type 0} (r : Result (List X) MachineFault) → with_front [] r ≡ r
with_front-none (Ok xs) = refl
with_front-none (Err e) = refl

with_front-more : {X : Type 0} (front : List X) (x : X) (r : Result (List X) MachineFault) → with_front front (r >>= λ xs. Ok (x ∷ xs)) ≡ with_front (front ++ x ∷ []) r
with_front-more front x (Ok xs) = ap Ok (sym (append_assoc front (x ∷ []) xs))
with_front-more front x (Err e) = refl

module _ {X : Type 0} (read : ℕ → Data → Result X MachineFault) (members : List Value) where
  module _ (i : ℕ) (v : Value) (inside : i < length members) (here : v ≡ get_or members i v) where
    opened : each_from read i (items_view (drop i members)) ≡ (read i (view v) >>= λ x. each_from read (i + 1) (items_view (drop (i + 1) members)) >>= λ xs. Ok (x ∷ xs))
    opened = let a = drop-cons members i v inside in rw a (rw (← here, add-one) refl)

    pub member-read : (front : List X) (x : X) → read i (view v) ≡ Ok x → with_front front (each_from read i (items_view (drop i members))) ≡ with_front (front ++ x ∷ []) (each_from read (i + 1) (items_view (drop (i + 1) members)))
    member-read front x e = ap (with_front front) (opened ∙ rw e refl) ∙ with_front-more front x (each_from read (i + 1) (items_view (drop (i + 1) members)))

    pub member-refused : (front : List X) (f : MachineFault) → read i (view v) ≡ Err f → with_front front (each_from read i (items_view (drop i members))) ≡ Err f
    member-refused front f e = rw (opened, e) refl

  pub all-read : (i : ℕ) (front : List X) → length members ≤ i → with_front front (each_from read i (items_view (drop i members))) ≡ Ok front
  all-read i front h = rw (drop_of_length-le members h, append-nil) refl

-- as many are read as there are members
pub count_read : {X : Type 0} (read : ℕ → Data → Result X MachineFault) (ds : Items) (n : ℕ) (xs : List X) → each_from read n ds ≡ Ok xs → length xs ≡ item_count ds
count_read read no_items n xs e = let same : [] ≡ xs = cc in ap length (sym same)
count_read read (item d ds) n xs e =
    let (x, xe, e1) = bind_ok (read n d) (λ x. each_from read (n + 1) ds >>= λ more. Ok (x ∷ more)) xs e in
    let (more, me, e2) = bind_ok (each_from read (n + 1) ds) (λ more. Ok (x ∷ more)) xs e1 in
    let same : x ∷ more ≡ xs = cc in
    omega (arith, ap length same, count_read read ds (n + 1) more me)

-- ---- each or none

-- those so far, and then those that are read, if they can be read
abbrev pub after : {X : Type 0} → List X → Option (List X) → Option (List X)
after front = option_map (λ xs. front ++ xs)

pub after-none : {X : Type 0} (o : Option (List X)) → after [] o ≡ o
after-none (Some xs) = refl
after-none None = refl

after-more : {X : Type 0} (front : List X) (x : X) (o : Option (List X)) → after front (option_map (λ xs. x ∷ xs) o) ≡ after (front ++ x ∷ []) o
after-more front x (Some xs) = ap Some (sym (append_assoc front (x ∷ []) xs))
after-more front x None = refl

module _ {X : Type 0} (read : Data → Option X) (members : List Value) where
  module _ (i : ℕ) (v : Value) (inside : i < length members) (here : v ≡ get_or members i v) where
    next : each_of read (items_view (drop i members)) ≡ option_and_then (λ x. option_map (λ xs. x ∷ xs) (each_of read (items_view (drop (i + 1) members)))) (read (view v))
    next = let a = drop-cons members i v inside in rw a (rw (← here, add-one) refl)

    pub next-read : (front : List X) (x : X) → read (view v) ≡ Some x → after front (each_of read (items_view (drop i members))) ≡ after (front ++ x ∷ []) (each_of read (items_view (drop (i + 1) members)))
    next-read front x e = ap (after front) (next ∙ rw e refl) ∙ after-more front x (each_of read (items_view (drop (i + 1) members)))

    pub next-refused : (front : List X) → read (view v) ≡ None → after front (each_of read (items_view (drop i members))) ≡ None
    next-refused front e = rw (next, e) refl

  pub each-read : (i : ℕ) (front : List X) → length members ≤ i → after front (each_of read (items_view (drop i members))) ≡ Some front
  each-read i front h = rw (drop_of_length-le members h, append-nil) refl
