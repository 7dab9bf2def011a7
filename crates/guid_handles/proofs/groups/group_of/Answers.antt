use Rattle.std.proofs.Common.{◌∙◌}
use Rattle.guid_handles.proofs.Grouped.{found_group}
use Rattle.guid_handles.proofs.groups.group_of.Goals as goal

pub returns : goal.returns
returns g c = c.group_if.ensures ∙ found_group _ c.args.guid _ c.requires c.count_before.ensures.place
