use Rattle.std.proofs.Common.{refl, sym, ◌∙◌}
use Rattle.protocol_services.proofs.Carried.{valued_live}
use Rattle.protocol_services.proofs.removing.removal_refusal.Goals as goal

pub returns-then-has_value : goal.returns-then-has_value
returns-then-has_value g c =
    let valued = sym c.has_value.ensures ∙ c.if-has_value.true in
    rw (valued_live c.args.handles.now c.all-numbers.ensures.proper c.args.handle c.args.guid c.args.value valued, valued) refl
