-- The steps of OpenProtocol: what an open does with and without a stop.
use Rattle.std.specs.Prelude.{◌≡◌, ℕ, true, List, [], Option, Result}
use Rattle.page_ranges.specs.declared.statuses.Status.{Status}
use Rattle.open_agents.specs.declared.items.Decision.{Decision}
use Rattle.open_agents.specs.declared.items.Decision.TheVariants.{Add, Count, StopFirst}
use Rattle.guid_handles.specs.declared.records.Pair.{Pair}
use Rattle.open_agents.specs.declared.items.OpenRequest.{OpenRequest}
use Rattle.open_agents.specs.OpenRequests.{is_among}
use Rattle.driver_connect.specs.Drivers.{Meaning}
use Rattle.protocol_services.specs.Lists.{Lists}
use Rattle.protocol_services.specs.Opening.{OpensAs, OpensProtocol}

-- what a call returns for which this was decided, and the lists after it
abbrev pub OpensBy : List Meaning → Decision → Lists → OpenRequest → Result (Option ℕ) Status
    → Lists
    → Type 0
OpensBy ds decision l r result new =
    OpensAs ds decision l r.handle r.guid r.agent r.controller r.attributes result new

-- What an open returns that has a new item, and the lists after it.
abbrev pub OpensAnew : Lists → OpenRequest → Result (Option ℕ) Status → Lists → Type 0
OpensAnew l r result new = OpensBy [] Add l r result new

-- What an open returns that stops a manager first, and the lists after it.
abbrev pub OpensAfterStop : List Meaning → Pair → Lists → OpenRequest → Result (Option ℕ) Status
    → Lists → Type 0
OpensAfterStop ds manager l r result new = OpensBy ds (StopFirst manager) l r result new

-- Where there is an equal item, this is what an open returns that counts it once more, and the lists
-- after it.
abbrev pub OpensAgain : Lists → OpenRequest → Result (Option ℕ) Status → Lists → Type 0
OpensAgain l r result new = is_among l.opens r ≡ true → OpensBy [] Count l r result new

-- What an open returns, and the lists after it.
abbrev pub OpensRequest : List Meaning → Lists → OpenRequest → Result (Option ℕ) Status → Lists
    → Type 0
OpensRequest ds l r result new =
    OpensProtocol ds l r.handle r.guid r.agent r.controller r.attributes result new
