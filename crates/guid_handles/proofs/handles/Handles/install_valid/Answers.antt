use Rattle.std.proofs.lemmas.Bool.{ne_eqb, cases_Bool}
use Rattle.guid_handles.proofs.Stored.{absent_from}
use Rattle.std.proofs.Common.{refl, arith, ℕ, ◌≡◌, ◌==◌, true, false, inl, inr}
use Rattle.guid_handles.specs.HandleTables.{HandleTable, is_live}
use Rattle.guid_handles.specs.HandleChanges.{is_dead}
use Rattle.guid_handles.proofs.handles.Handles.install_valid.Goals as goal

live_or_dead : (h : ℕ) (t : HandleTable) → (h == 0) ≡ false → is_dead t h ≡ false → is_live t h ≡ true
live_or_dead h t e d = elim (cases_Bool (is_live t h)) [
  | inl y ↦ y
  | inr n ↦ let w : true ≡ false = rw (e, n) at d in absurd cc
]

pub install_on-requires-clause-absent : goal.install_on-requires-clause-absent
install_on-requires-clause-absent g c = absent_from c.args.self.now c.args.handle c.args.pairs.now (ne_eqb c.args.handle 0 c.if-handle-ne0.true) c.requires.absent

pub install_on-requires-clause-once : goal.install_on-requires-clause-once
install_on-requires-clause-once g c = c.requires.once

pub install_on_new-requires-clause-once : goal.install_on_new-requires-clause-once
install_on_new-requires-clause-once g c = c.requires.once

pub install_on_new-requires-clause-numbers : goal.install_on_new-requires-clause-numbers
install_on_new-requires-clause-numbers g c = c.requires.numbers

pub install_on_new-requires-clause-stamps : goal.install_on_new-requires-clause-stamps
install_on_new-requires-clause-stamps g c = c.requires.stamps

pub returns-in-Err-clause-installs : goal.returns-in-Err-clause-installs
returns-in-Err-clause-installs g c = (refl, c.in-Err.ensures.err)

pub returns-in-Err-clause-numbers : goal.returns-in-Err-clause-numbers
returns-in-Err-clause-numbers g c = rw c.in-Err.ensures.err (omega arith)

pub returns-in-Err-clause-stamps : goal.returns-in-Err-clause-stamps
returns-in-Err-clause-stamps g c = rw c.in-Err.ensures.err (omega arith)

pub returns-in-Ok-clause-numbers : goal.returns-in-Ok-clause-numbers
returns-in-Ok-clause-numbers g c = rw c.in-Ok.ensures.ok (omega arith)

pub returns-in-Ok-clause-stamps : goal.returns-in-Ok-clause-stamps
returns-in-Ok-clause-stamps g c = rw c.in-Ok.ensures.ok (omega arith)

pub install_on-requires-clause-live : goal.install_on-requires-clause-live
install_on-requires-clause-live g c = live_or_dead c.args.handle c.args.self.now (ne_eqb c.args.handle 0 c.if-handle-ne0.true) c.requires.live
