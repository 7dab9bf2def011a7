use Rattle.std.proofs.Common.{[]}
use Rattle.driver_connect.proofs.VersionOrder.{versions_in_order, versions_as_before}
use Rattle.driver_connect.proofs.laws.versions_law.Goals as goal

pub returns : goal.returns
returns c agents = (versions_in_order [] agents tt, λ v. versions_as_before [] agents v tt)
