-- UninstallMultipleProtocolInterfaces of more interfaces than are uninstalled at once: it is refused, whatever they are.
use Rattle.std.proofs.Common.{◌≡◌, ℕ, ◌<◌, nat_le, List, length, take, map, Bool, true, false, refl, subst, arith, inl, inr, leb-true, leb-false}
use Rattle.std.proofs.lemmas.List.{length-map, length-take-le, take_all}
use Rattle.boot_core.proofs.UninstallRuns.{long_step}
use Rattle.c_machines.specs.declared.guids.Interface.{Interface}
use Rattle.c_machines.specs.Guids.{interface_in}
use Rattle.c_interface.specs.EfiCores.{EfiCoreValue, meanings}
use Rattle.c_interface.specs.Removals.{AnswersUninstalls}
use Rattle.c_interface.specs.Served.{too_many}

removes_more : {A : Type 0} (old new : EfiCoreValue A) (handle : ℕ) (ps qs : List (List ℕ × ℕ)) (status : ℕ) → 16 < length ps → 16 < length qs → AnswersUninstalls old handle ps status new → AnswersUninstalls old handle qs status new
removes_more old new handle ps qs status p q (inr spent) = inr spent
removes_more old new handle ps qs status p q (inl (result, s, left, e)) = inl (result, long_step (meanings old) old.core.state new.core.state handle ps qs result p q s, left, e)

-- What a call with the first interfaces of a list does, one with the whole list does.
pub first_removed : {A : Type 0} (old new : EfiCoreValue A) (handle : ℕ) (xs : List Interface) (status : ℕ) → AnswersUninstalls old handle (map interface_in (take too_many xs)) status new → AnswersUninstalls old handle (map interface_in xs) status new
first_removed old new handle xs status a =
    let by : (b : Bool) → nat_le (length xs) too_many ≡ b → AnswersUninstalls old handle (map interface_in xs) status new =
    λ b. elim b as (λ b. nat_le (length xs) too_many ≡ b → AnswersUninstalls old handle (map interface_in xs) status new) [
      | true ↦ λ h. subst (λ (ys : List Interface). AnswersUninstalls old handle (map interface_in ys) status new) (take_all too_many xs (leb-true (length xs) too_many h)) a
      | false ↦ λ h.
          let long : too_many < length xs = omega (arith, leb-false (length xs) too_many h) in
          let taken : length (take too_many xs) ≡ too_many = length-take-le too_many xs (omega (arith, long)) in
          removes_more old new handle (map interface_in (take too_many xs)) (map interface_in xs) status (rw (length-map (take too_many xs) interface_in, taken) (omega arith)) (rw (length-map xs interface_in) (omega (arith, long))) a
    ] in
    by _ refl
