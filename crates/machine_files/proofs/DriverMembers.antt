-- What a driver's fields are read as.
use Rattle.std.proofs.Common.{◌≡◌, ◌<◌, ◌≤◌, false, true, List, [], ◌∷◌, length, Option, Some, None, Result, Ok, Err, IsOk, IfOk, ◌↔◌, refl, sym, arith}
use Rattle.std.specs.Result.{result_ok}
use Rattle.serde_json.specs.declared.value.Value.{Value}
use Rattle.serde_json.specs.View.{items_view}
use Rattle.machine_files.specs.DriverText.{pair_in}

-- ---- GUIDs

nothing : {X : Type 0} (o : Option X) → ((x : X) × (o ≡ Some x) → ⊥) → o ≡ None
nothing None h = refl
nothing (Some x) h = absurd (h (x, refl))

-- a text is read where there is what it says
pub read_if_said : {X E : Type 0} (r : Result X E) (said : Option X) → (IsOk r ↔ ((x : X) × (said ≡ Some x))) → IfOk r (λ x. Some x ≡ said) → result_ok r ≡ said
read_if_said (Ok x) said ok is = is
read_if_said (Err e) said ok is = sym (nothing said (λ x. let bad : false ≡ true = ok.1 x in cc))

-- ---- pairs

pub few_members : (members : List Value) → length members < 2 → pair_in (items_view members) ≡ None
few_members [] h = refl
few_members (x ∷ []) h = refl
few_members (x ∷ y ∷ members) h = absurd (omega arith)

pub many_members : (members : List Value) → 3 ≤ length members → pair_in (items_view members) ≡ None
many_members [] h = absurd (omega arith)
many_members (x ∷ []) h = absurd (omega arith)
many_members (x ∷ y ∷ []) h = absurd (omega arith)
many_members (x ∷ y ∷ z ∷ members) h = refl
