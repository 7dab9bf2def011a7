use Rattle.std.proofs.Common.{sym, ◌∙◌}
use Rattle.protocol_notify.proofs.Keyed.{taken_marked}
use Rattle.protocol_notify.proofs.notify.Notify.take.Goals as goal

pub returns : goal.returns
returns g c = c.mark.ensures ∙ taken_marked c.args.handles.now c.args.key c.args.self.now _ c.next_turn.ensures.keyed (sym (c.next_turn.ensures.turn) ∙ c.in-Some.is)
