use Rattle.std.proofs.Common.{◌≡◌, map, drop}
use Rattle.protocol_services.specs.RemovingMany.{all_uninstalled}
use Rattle.protocol_services.proofs.protocols.Protocols.uninstall_each.Given as goal

-- the interfaces that are left do what all do
abbrev pub invariant-loop-pair : goal.invariant-loop-pair
invariant-loop-pair g l = record {
  all : all_uninstalled (map g.D.Driver.meaning l.fn.drivers) l.handle (drop l.pair-index l.pairs) l.self
      ≡ all_uninstalled (map g.D.Driver.meaning l.fn.drivers) l.handle l.pairs l.fn.self;
  registrations : l.self.registrations ≡ l.fn.self.registrations;
}
