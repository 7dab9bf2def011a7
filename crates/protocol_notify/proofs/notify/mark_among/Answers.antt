use Rattle.std.proofs.Common.{◌-◌, arith, inl, inr}
use Rattle.protocol_notify.proofs.Keyed.{marked_none, marked_place}
use Rattle.protocol_notify.proofs.notify.mark_among.Goals as goal
use Rattle.protocol_notify.proofs.notify.mark_among.Goals.{then-key-eq0-via-then-key-eq0, then-key-eq0-via-else-key-eq0+then-key-len}

pub returns-then-key-eq0 : goal.returns-then-key-eq0
returns-then-key-eq0 g c = elim c.then-key-eq0.branch [
  | then-key-eq0-via-then-key-eq0 w ↦ marked_none _ c.args.key c.args.stamp c.requires (inl w.if-key-eq0.true)
  | then-key-eq0-via-else-key-eq0+then-key-len w ↦ marked_none _ c.args.key c.args.stamp c.requires (inr (omega (arith, w.if-key-len.true, w.len.ensures)))
]

pub returns : goal.returns
returns g c =
    marked_place c.args.registrations.now.items c.args.key c.args.stamp (c.args.key - 1) c.index.result.now c.requires (omega (arith, c.if-key-eq0.false))
    (omega (arith, c.if-key-eq0.false, c.if-key-len.false, c.len.ensures)) c.index.ensures
