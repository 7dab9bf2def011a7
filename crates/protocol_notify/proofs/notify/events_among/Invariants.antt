use Rattle.std.proofs.Common.{◌≡◌, ◌++◌, map, drop}
use Rattle.std.specs.List.{filter}
use Rattle.protocol_notify.specs.Registrations.{is_for, events_for}
use Rattle.protocol_notify.proofs.notify.events_among.Given as goal

abbrev pub invariant-loop-r : goal.invariant-loop-r
invariant-loop-r g l = l.events.items ++ map (λ r. r.event) (filter (is_for l.guid) (drop l.r-index l.registrations)) ≡ events_for l.registrations l.guid
