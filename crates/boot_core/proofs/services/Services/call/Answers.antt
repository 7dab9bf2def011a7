use Rattle.std.proofs.Common.{map, sym, subst}
use Rattle.boot_calls.specs.declared.calls.Call.{Call}
use Rattle.boot_replies.specs.declared.replies.Reply.TheVariants as reply
use Rattle.boot_core.specs.Steps.{Step}
use Rattle.boot_core.proofs.services.Services.call.Goals as goal

pub returns-in-PoolRead-clause-step : goal.returns-in-PoolRead-clause-step
returns-in-PoolRead-clause-step g c =
    subst (λ (call : Call g.row.A.Denot). Step (map g.D.Driver.meaning c.args.self.now.given.drivers) c.args.self.now.state call c.get_pool_bytes.result c.get_pool_bytes.new.self.state) (sym c.in-PoolRead.is) c.get_pool_bytes.ensures.step

pub returns-in-LocateHandle-clause-step : goal.returns-in-LocateHandle-clause-step
returns-in-LocateHandle-clause-step g c =
    subst (λ (call : Call g.row.A.Denot). Step (map g.D.Driver.meaning c.args.self.now.given.drivers) c.args.self.now.state call (reply.LocateHandle c.locate_handle.result) c.locate_handle.new.self.state) (sym c.in-LocateHandle.is) c.locate_handle.ensures.step

pub returns-in-UninstallProtocolInterface-clause-step : goal.returns-in-UninstallProtocolInterface-clause-step
returns-in-UninstallProtocolInterface-clause-step g c =
    subst (λ (call : Call g.row.A.Denot). Step (map g.D.Driver.meaning c.args.self.now.given.drivers) c.args.self.now.state call (reply.UninstallProtocolInterface c.uninstall.result) c.uninstall.new.self.state) (sym c.in-UninstallProtocolInterface.is) c.uninstall.ensures.step

pub returns-in-ReinstallProtocolInterface-clause-step : goal.returns-in-ReinstallProtocolInterface-clause-step
returns-in-ReinstallProtocolInterface-clause-step g c =
    subst (λ (call : Call g.row.A.Denot). Step (map g.D.Driver.meaning c.args.self.now.given.drivers) c.args.self.now.state call (reply.ReinstallProtocolInterface c.reinstall.result) c.reinstall.new.self.state) (sym c.in-ReinstallProtocolInterface.is) c.reinstall.ensures.step
