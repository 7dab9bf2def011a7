use Rattle.std.proofs.Common.{◌≡◌, ◌+◌, ◌++◌, ◌∷◌, ◌∙◌, ℕ, List, [], ap, append_assoc, arith, length}
use Rattle.guid_handles.specs.HandleTables.{HandleTable}
use Rattle.guid_handles.specs.HandleChanges.{stamped, with_interfaces}
use Rattle.guid_handles.proofs.Indexed.{first_of_guid}
use Rattle.guid_handles.proofs.Stored.{back_again, newest_one, still_absent}
use Rattle.std.proofs.lemmas.Result.{IfOk-from_err}
use Rattle.guid_handles.proofs.Refused.{on_err}
use Rattle.guid_handles.proofs.handles.Handles.+install_on.Goals as goal

one_then_others : (h : ℕ) (p : List ℕ × ℕ) (ps : List (List ℕ × ℕ)) (t : HandleTable) → with_interfaces h ps (with_interfaces h (p ∷ []) t) ≡ with_interfaces h (p ∷ ps) t
one_then_others h p ps t =
    ap (λ is. record t { interfaces = is; last_stamp = t.last_stamp + 1 + length ps }) (append_assoc t.interfaces (stamped h t.last_stamp (p ∷ [])) (stamped h (t.last_stamp + 1) ps))
    ∙ ap (λ n. record t { interfaces = t.interfaces ++ stamped h t.last_stamp (p ∷ ps); last_stamp = n }) (omega arith)

pub install_on-requires : goal.install_on-requires
install_on-requires g t c κs within =
    let e : c.args.pairs.now ≡ c.in-Some.pair.now ∷ c.in-Some.others.now = c.in-Some.ensures.cases.0 in
    let shorter : length c.in-Some.others.now + 1 ≡ length c.args.pairs.now = c.in-Some.ensures.cases.1 in
    let absent = rw e at c.requires.absent in
    let first = first_of_guid c.in-Some.pair.now c.in-Some.others.now (rw e at c.requires.once) in
    rw c.in_ok-install_one.ensures.ok
    (omega (arith, shorter, c.decreases), (within, (c.requires.live, (still_absent c.args.handle c.args.self.now c.in-Some.pair.now c.in-Some.others.now first.0 absent.1, (first.1, omega (arith, shorter, c.requires.stamps))))))

pub take_back-requires-clause-newest : goal.take_back-requires-clause-newest
take_back-requires-clause-newest g t c =
    rw (c.in-Err.ensures.err, c.in_ok-install_one.ensures.ok) (newest_one c.args.handle c.in-Some.pair.now.0 c.in-Some.pair.now.1 c.args.self.now c.in_ok-install_one.ensures.below)

pub returns-in-Err-clause-err : goal.returns-in-Err-clause-err
returns-in-Err-clause-err g t c =
    let absent = rw c.in-Some.ensures.cases.0 at c.requires.absent in
    rw (c.take_back.ensures, c.in-Err.ensures.err, c.in_ok-install_one.ensures.ok) (back_again c.args.handle c.in-Some.pair.now.0 c.in-Some.pair.now.1 c.args.self.now absent.0)

pub install_one-requires-clause-live : goal.install_one-requires-clause-live
install_one-requires-clause-live g t c = c.requires.live

pub install_one-requires-clause-absent : goal.install_one-requires-clause-absent
install_one-requires-clause-absent g t c = let absent = rw c.in-Some.ensures.cases.0 at c.requires.absent in absent.0

pub install_one-requires-clause-stamps : goal.install_one-requires-clause-stamps
install_one-requires-clause-stamps g t c =
    let shorter : length c.in-Some.others.now + 1 ≡ length c.args.pairs.now = c.in-Some.ensures.cases.1 in omega (arith, shorter, c.requires.stamps)

pub returns-in_err-install_one-clause-ok : goal.returns-in_err-install_one-clause-ok
returns-in_err-install_one-clause-ok g t c = IfOk-from_err c.from_residual.result _ c.from_residual.ensures.0

pub returns-in_err-install_one-clause-err : goal.returns-in_err-install_one-clause-err
returns-in_err-install_one-clause-err g t c = on_err c.from_residual.result _ c.in_err-install_one.ensures.err

pub take_back-requires-clause-some : goal.take_back-requires-clause-some
take_back-requires-clause-some g t c = rw (c.in-Err.ensures.err, c.in_ok-install_one.ensures.ok) (omega arith)

pub returns-clause-ok : goal.returns-clause-ok
returns-clause-ok g t c =
    rw c.in-Some.ensures.cases.0 (c.in_default-install_on.ensures.ok ∙ ap (with_interfaces c.args.handle c.in-Some.others.now) c.in_ok-install_one.ensures.ok
    ∙ one_then_others c.args.handle c.in-Some.pair.now c.in-Some.others.now c.args.self.now)
