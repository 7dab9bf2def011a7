use Rattle.map_keys.proofs.RecordLists.{read_back}
use Rattle.map_keys.proofs.records.read_back_law.Goals as goal

pub returns : goal.returns
returns c = read_back
