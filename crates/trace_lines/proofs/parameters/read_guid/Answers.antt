use Rattle.std.proofs.Common.{◌≡◌, true, false, refl, rules}
use Rattle.uuid.specs.Text.{parsed}
use Rattle.trace_lines.specs.Parameters.{guid_of}
use Rattle.trace_lines.proofs.ParsedGuids.{none_of}
use Rattle.trace_lines.proofs.parameters.read_guid.Goals as goal

pub returns-in-Err : goal.returns-in-Err
unfolding guid_of
returns-in-Err c =
    let none = none_of (parsed c.args.word.now) (λ u. let bad : false ≡ true = c.in-Err.ensures.ok.1 u in cc) in
    rw none refl

pub returns-in-Ok : goal.returns-in-Ok
unfolding guid_of
returns-in-Ok c = search rules
