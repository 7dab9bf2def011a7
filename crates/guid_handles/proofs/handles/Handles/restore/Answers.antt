use Rattle.std.proofs.Common.{◌∙◌, subst, sym}
use Rattle.guid_handles.specs.Stores.{IsTable}
use Rattle.guid_handles.proofs.Stored.{as_before, still_carried}
use Rattle.guid_handles.proofs.handles.Handles.restore.Goals as goal

pub rewrite-requires-clause-there : goal.rewrite-requires-clause-there
rewrite-requires-clause-there g c = still_carried _ _ c.args.own _ _ _ c.requires.1

pub rewrite-requires-clause-table : goal.rewrite-requires-clause-table
rewrite-requires-clause-table g c = subst IsTable (sym (as_before _ _ c.args.own _ _ _ c.requires.1)) c.requires.1.table

pub returns : goal.returns
returns g c = λ before r. c.rewrite.ensures ∙ as_before _ _ c.args.own _ _ _ r
