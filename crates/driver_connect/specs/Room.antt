-- Room for the handles and stamps of a connect.
use Rattle.std.specs.Prelude.{◌≡◌, ◌+◌, ◌*◌, ◌<◌, ◌≤◌, ◌^◌, length}
use Rattle.guid_handles.specs.HandleTables.{HandleTable}
use Rattle.guid_handles.specs.HandleChanges.{max_handles}

-- Each handle that may still be made can have a number, and stamps for four interfaces.
pub record HasRoom (t : HandleTable) : Type 0 where
  pub numbers : t.last_number + max_handles < 2 ^ 62 + length t.handles
  pub stamps : t.last_stamp + 4 * max_handles < 2 ^ 62 + 4 * length t.handles

-- A table has further handles, each with a number of its own and at most four stamps.
pub record Grows (old new : HandleTable) : Type 0 where
  pub handles : length old.handles ≤ length new.handles
  pub numbers : new.last_number + length old.handles ≡ old.last_number + length new.handles
  pub stamps : new.last_stamp + 4 * length old.handles ≤ old.last_stamp + 4 * length new.handles
