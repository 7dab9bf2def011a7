use Rattle.std.proofs.Common.{refl, ap, is_some, ◌≡◌, ◌==◌, ◌&&◌, ◌∙◌, ℕ, List, None, Some, inl, inr, sym}
use Rattle.std.proofs.lemmas.Bool.{and_parts, cases_Bool, eq-eqb}
use Rattle.guid_handles.specs.HandleTables.{same_guid}
use Rattle.guid_handles.specs.Indexes.{Group, HaveSameStamps, SetsStamp, stamp_at}
use Rattle.guid_handles.proofs.GuidOrder.{same_guid-refl, same_guid-true}
use Rattle.guid_handles.proofs.Grouped.{is_same}
use Rattle.guid_handles.proofs.Refused.{on_err}
use Rattle.guid_handles.proofs.handles.file_key.Goals as goal

-- a stamp that was added goes again
stamps_refused : (old mid new : List Group) (guid : List ℕ) (n s : ℕ) → stamp_at old guid n ≡ None → SetsStamp guid n (Some s) old mid → SetsStamp guid n None mid new → HaveSameStamps old new
stamps_refused old mid new guid n s absent added gone k m = elim (cases_Bool ((n == m) && same_guid guid k)) [
  | inl t ↦
      let parts = and_parts (n == m) (same_guid guid k) t in
      gone k m ∙ rw t (sym (rw (is_same n m parts.0, same_guid-true guid k parts.1) at absent))
  | inr f ↦ gone k m ∙ rw f (added k m ∙ rw f refl)
]

pub remove-requires : goal.remove-requires
remove-requires g c =
    ap is_some (c.in_ok-add.ensures.ok c.args.own.now.guid c.args.own.now.handle) ∙ rw (eq-eqb c.args.own.now.handle c.args.own.now.handle refl, same_guid-refl c.args.own.now.guid) refl

pub returns-in-Err-clause-groups_stay : goal.returns-in-Err-clause-groups_stay
returns-in-Err-clause-groups_stay g c = stamps_refused _ _ _ c.args.own.now.guid c.args.own.now.handle c.args.own.now.stamp c.requires.absent c.in_ok-add.ensures.ok c.remove.ensures

pub returns-in_err-add-clause-groups_stay : goal.returns-in_err-add-clause-groups_stay
returns-in_err-add-clause-groups_stay g c = on_err c.from_residual.result _ (rw c.in_err-add.ensures.err (λ k n. refl))
