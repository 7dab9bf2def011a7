-- What calls of `next` give of items at places.
use Rattle.std.proofs.Common.{List, length, ap}
use Rattle.std.specs.Iterator.{YieldsFirstRef}
use Rattle.std.specs.Iterator.Runs.{YieldsRefsInOrder}
use Rattle.std.proofs.iter.runs.Sources.{from_front}
use Rattle.open_agents.specs.declared.items.OpenRecord.{OpenRecord}

pub items_run : YieldsRefsInOrder {S = List OpenRecord} (YieldsFirstRef (λ left. left)) (λ left. left)
items_run p s = from_front (YieldsFirstRef (λ left. left)) (λ x. x.now) (λ left. left) (λ s t h. ap length h.0) (λ s x t h. h) p s
