use Rattle.std.proofs.Common.{◌≡◌, ℕ, List, IfOk, sym, ◌∙◌, subst}
use Rattle.guid_handles.specs.NumberLists.{HaveMembers}
use Rattle.guid_handles.proofs.FirstMap.{first_entries}
use Rattle.guid_handles.proofs.number_lists.NumberLists.try_copy.Goals as goal

pub of_map-requires : goal.of_map-requires
of_map-requires g c =
    let first = rw c.deref.ensures.value at c.in-Some.ensures.value in
    subst HaveMembers (sym (c.in_ok-copied_map-in-Some.ensures ∙ first_entries _ _ (sym first))) c.self.invariant

pub returns-in_ok-copied_map-in-Some : goal.returns-in_ok-copied_map-in-Some
returns-in_ok-copied_map-in-Some g c =
    let first = rw c.deref.ensures.value at c.in-Some.ensures.value in
    rw (← c.self.view_is)
    (subst (λ (es : List (ℕ × List ℕ)). IfOk c.of_map.result (λ copy. copy ≡ es)) (c.in_ok-copied_map-in-Some.ensures ∙ first_entries _ _ (sym first)) c.of_map.ensures)
