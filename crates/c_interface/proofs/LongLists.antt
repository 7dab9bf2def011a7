-- InstallMultipleProtocolInterfaces of more interfaces than may be installed at once: it is refused, whatever they are.
use Rattle.std.proofs.Common.{◌≡◌, ℕ, ◌<◌, nat_le, List, length, take, map, Bool, true, false, refl, subst, arith, inl, inr, leb-true, leb-false}
use Rattle.std.proofs.lemmas.List.{length-map, length-take-le, take_all}
use Rattle.page_ranges.specs.declared.ranges.Descriptor.{Descriptor}
use Rattle.boot_calls.specs.declared.calls.Call.TheVariants as call
use Rattle.boot_replies.specs.Certified.{map_before}
use Rattle.boot_core.proofs.LongLists.{step_for_more}
use Rattle.c_machines.specs.declared.guids.Interface.{Interface}
use Rattle.c_machines.specs.Guids.{interface_in}
use Rattle.c_interface.specs.EfiCores.{EfiCoreValue, meanings}
use Rattle.c_interface.specs.Served.{AnswersNumber, too_many}

-- ---- the call through C

no_map : (A : Type 0) (certifies : Bool) (granule : ℕ) (entries : List Descriptor) (handle : ℕ) (ps qs : List (List ℕ × ℕ)) →
    map_before {A = A} certifies granule entries (call.InstallMultipleProtocolInterfaces handle ps) ≡ map_before {A = A} certifies granule entries (call.InstallMultipleProtocolInterfaces handle qs)
no_map A true granule entries handle ps qs = refl
no_map A false granule entries handle ps qs = refl

answers_for_more : {A : Type 0} (old new : EfiCoreValue A) (handle : ℕ) (ps qs : List (List ℕ × ℕ)) (before status after : ℕ) → 16 < length ps → 16 < length qs →
    AnswersNumber old (call.InstallMultipleProtocolInterfaces handle ps) before status after new → AnswersNumber old (call.InstallMultipleProtocolInterfaces handle qs) before status after new
answers_for_more old new handle ps qs before status after p q (inr spent) = inr spent
answers_for_more {A = A} old new handle ps qs before status after p q (inl (answer, s, e, returned)) =
    inl (
      answer,
      record {
        step = step_for_more (meanings old) old.core.state new.core.state handle ps qs answer p q s.step;
        given = s.given;
        certifies = s.certifies;
        keeps_replies = s.keeps_replies;
        block = rw (← no_map A old.certifies _ _ handle ps qs) s.block;
        last = s.last;
      },
      e,
      returned,
    )

-- What a call with the first interfaces of a list answers, one with the whole list answers.
pub first_are_enough : {A : Type 0} (old new : EfiCoreValue A) (handle : ℕ) (xs : List Interface) (before status after : ℕ) →
    AnswersNumber old (call.InstallMultipleProtocolInterfaces handle (map interface_in (take too_many xs))) before status after new →
    AnswersNumber old (call.InstallMultipleProtocolInterfaces handle (map interface_in xs)) before status after new
first_are_enough old new handle xs before status after a =
    let by : (b : Bool) → nat_le (length xs) too_many ≡ b → AnswersNumber old (call.InstallMultipleProtocolInterfaces handle (map interface_in xs)) before status after new =
    λ b. elim b as (λ b. nat_le (length xs) too_many ≡ b → AnswersNumber old (call.InstallMultipleProtocolInterfaces handle (map interface_in xs)) before status after new) [
      | true ↦ λ h. subst (λ (ys : List Interface). AnswersNumber old (call.InstallMultipleProtocolInterfaces handle (map interface_in ys)) before status after new) (take_all too_many xs (leb-true (length xs) too_many h)) a
      | false ↦ λ h.
          let long : too_many < length xs = omega (arith, leb-false (length xs) too_many h) in
          let taken : length (take too_many xs) ≡ too_many = length-take-le too_many xs (omega (arith, long)) in
          answers_for_more old new handle (map interface_in (take too_many xs)) (map interface_in xs) before status after
          (rw (length-map (take too_many xs) interface_in, taken) (omega arith)) (rw (length-map xs interface_in) (omega (arith, long))) a
    ] in
    by _ refl
