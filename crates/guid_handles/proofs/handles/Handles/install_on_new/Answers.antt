use Rattle.guid_handles.proofs.Stored.{absent_on_new, lower_numbers, new_is_live, none_is_on, unmade_again}
use Rattle.std.proofs.Common.{arith, ap, ◌∙◌}
use Rattle.std.proofs.lemmas.Result.{IfOk-from_err}
use Rattle.guid_handles.proofs.Refused.{on_err}
use Rattle.guid_handles.specs.HandleChanges.{with_interfaces}
use Rattle.guid_handles.proofs.handles.Handles.install_on_new.Goals as goal

pub install_on-requires-clause-live : goal.install_on-requires-clause-live
install_on-requires-clause-live g c = rw (c.in_ok-number.ensures.ok.1, c.in_ok-number.ensures.ok.0) (new_is_live c.args.self.now c.args.maker)

pub install_on-requires-clause-absent : goal.install_on-requires-clause-absent
install_on-requires-clause-absent g c = rw (c.in_ok-number.ensures.ok.1, c.in_ok-number.ensures.ok.0) (absent_on_new c.args.self.now c.in_ok-number.ensures.proper c.args.pairs.now)

pub unmake-requires-clause-bare : goal.unmake-requires-clause-bare
unmake-requires-clause-bare g c = rw (c.in-Err.ensures.err, c.in_ok-number.ensures.ok.1) (none_is_on c.args.self.now c.in_ok-number.ensures.proper)

pub unmake-requires-clause-lower : goal.unmake-requires-clause-lower
unmake-requires-clause-lower g c = rw (c.in-Err.ensures.err, c.in_ok-number.ensures.ok.1) (lower_numbers c.args.self.now c.args.maker c.in_ok-number.ensures.proper)

pub returns-in-Err-clause-err : goal.returns-in-Err-clause-err
returns-in-Err-clause-err g c = rw (c.unmake.ensures, c.in-Err.ensures.err, c.in_ok-number.ensures.ok.1) (unmade_again c.args.self.now c.args.maker c.in_ok-number.ensures.proper)

pub make_bare-requires-clause-room : goal.make_bare-requires-clause-room
make_bare-requires-clause-room g c = c.requires.room

pub make_bare-requires-clause-numbers : goal.make_bare-requires-clause-numbers
make_bare-requires-clause-numbers g c = c.requires.numbers

pub returns-in_err-number-clause-ok : goal.returns-in_err-number-clause-ok
returns-in_err-number-clause-ok g c = IfOk-from_err c.from_residual.result _ c.from_residual.ensures.0

pub returns-in_err-number-clause-err : goal.returns-in_err-number-clause-err
returns-in_err-number-clause-err g c = on_err c.from_residual.result _ c.in_err-number.ensures.err

pub install_on-requires-clause-once : goal.install_on-requires-clause-once
install_on-requires-clause-once g c = c.requires.once

pub unmake-requires-clause-some : goal.unmake-requires-clause-some
unmake-requires-clause-some g c = rw (c.in-Err.ensures.err, c.in_ok-number.ensures.ok.1) (omega arith)

pub returns-clause-ok : goal.returns-clause-ok
returns-clause-ok g c =
    (c.in_ok-number.ensures.ok.0, c.in_default.ensures.ok ∙ ap (with_interfaces c.in_ok-number.number c.args.pairs.now) c.in_ok-number.ensures.ok.1)
