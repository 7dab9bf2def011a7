use Rattle.std.proofs.Common.{option_map, sym, ap, ◌∙◌}
use Rattle.guid_handles.specs.Indexes.{Row}
use Rattle.guid_handles.proofs.Numbered.{find_lives, no_live}
use Rattle.guid_handles.proofs.rows.Rows.find.Goals as goal

pub returns-in-Some : goal.returns-in-Some
returns-in-Some g c = rw c.live.ensures (sym (find_lives c.args.number _ ∙ ap (option_map (λ (r : Row). r.live)) (sym c.in-Some.ensures)))

pub returns-in-None : goal.returns-in-None
returns-in-None g c = no_live _ c.args.number (sym c.in-None.ensures)
