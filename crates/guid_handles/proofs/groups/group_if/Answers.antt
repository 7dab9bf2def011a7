use Rattle.std.proofs.Common.{sym, ◌∙◌}
use Rattle.guid_handles.specs.Indexes.{is_group_of}
use Rattle.guid_handles.proofs.Grouped.{kept_here, lost_here, none_here}
use Rattle.guid_handles.proofs.groups.group_if.Goals as goal

pub returns-in_err-group : goal.returns-in_err-group
returns-in_err-group g c = rw c.from_residual.ensures (none_here (is_group_of c.args.guid) c.args.groups.now c.args.at c.in_err-group.ensures.lookup.3)

pub returns-then-is_same_guid : goal.returns-then-is_same_guid
returns-then-is_same_guid g c =
    kept_here (is_group_of c.args.guid) c.args.groups.now c.args.at c.in_ok-group.group.now c.in_ok-group.ensures.lookup.3.0 c.in_ok-group.ensures.lookup.1
    (rw c.guid.ensures at (sym c.is_same_guid.ensures ∙ c.if-is_same_guid.true))

pub returns-else-is_same_guid : goal.returns-else-is_same_guid
returns-else-is_same_guid g c =
    lost_here (is_group_of c.args.guid) c.args.groups.now c.args.at c.in_ok-group.group.now c.in_ok-group.ensures.lookup.3.0 c.in_ok-group.ensures.lookup.1
    (rw c.guid.ensures at (sym c.is_same_guid.ensures ∙ c.if-is_same_guid.false))
