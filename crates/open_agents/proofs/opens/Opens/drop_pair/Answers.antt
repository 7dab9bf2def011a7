use Rattle.std.proofs.Common.{◌==◌}
use Rattle.std.proofs.lemmas.Bool.{ne_eqb}
use Rattle.open_agents.proofs.Asked.{controller_near, second_part}
use Rattle.open_agents.proofs.opens.Opens.drop_pair.Goals as goal

pub drop_passing-requires : goal.drop_passing-requires
drop_passing-requires g c = λ o h.
    controller_near c.args.controller o (ne_eqb c.args.controller 0 c.if-controller-eq0.false) (second_part (o.agent == c.args.agent) (o.controller == c.args.controller) h)
