use Rattle.std.proofs.Common.{map, refl, sym, subst, ◌∙◌, ℕ, List, arith}
use Rattle.protocol_services.specs.RemovingMany.{UninstallsMany}
use Rattle.protocol_services.proofs.RemovedMany.{all_raised, only_one}
use Rattle.protocol_services.proofs.TwiceNamed.{twice_refused}
use Rattle.protocol_services.proofs.protocols.Protocols.uninstall_many.Goals as goal

pub returns-in-len1-clause-uninstalls : goal.returns-in-len1-clause-uninstalls
returns-in-len1-clause-uninstalls g c =
    subst (λ (ps : List (List ℕ × ℕ)). UninstallsMany (map g.D.Driver.meaning c.args.drivers.now) c.args.self.now c.args.handle ps c.uninstall_one.result c.uninstall_one.new.self)
    (only_one c.args.pairs.now c.pair-item.result c.in-len1.len_at_least c.in-len1.len_below c.pair-item.is) c.uninstall_one.ensures.uninstalls

pub returns-in-len1-clause-raised : goal.returns-in-len1-clause-raised
returns-in-len1-clause-raised g c = c.uninstall_one.ensures.raised

pub take_each_out-requires : goal.take_each_out-requires
take_each_out-requires g c = rw (sym c.has_guid_twice.ensures ∙ c.if-has_guid_twice.false) (sym c.is_each_free_to_go.ensures ∙ c.if-is_each_free_to_go.true)

pub returns-then-is_each_free_to_go-clause-uninstalls : goal.returns-then-is_each_free_to_go-clause-uninstalls
returns-then-is_each_free_to_go-clause-uninstalls g c = (omega (arith, c.if-pairs-gt-MAX_INSTALLED.false), c.take_each_out.ensures (map g.D.Driver.meaning c.args.drivers.now))

pub returns-then-is_each_free_to_go-clause-raised : goal.returns-then-is_each_free_to_go-clause-raised
returns-then-is_each_free_to_go-clause-raised g c =
    let ds = map g.D.Driver.meaning c.args.drivers.now in
    all_raised ds c.args.handle c.args.pairs.now c.args.self.now c.take_each_out.new.self (c.take_each_out.ensures ds)

pub uninstall_or_put_back-requires : goal.uninstall_or_put_back-requires
uninstall_or_put_back-requires g c = omega (arith, c.if-pairs-gt-MAX_INSTALLED.false)

pub returns-clause-uninstalls : goal.returns-clause-uninstalls
returns-clause-uninstalls g c = c.uninstall_or_put_back.ensures.uninstalls

pub returns-clause-raised : goal.returns-clause-raised
returns-clause-raised g c = c.uninstall_or_put_back.ensures.raised

pub returns-then-has_guid_twice-clause-uninstalls : goal.returns-then-has_guid_twice-clause-uninstalls
returns-then-has_guid_twice-clause-uninstalls g c =
    ((λ few. twice_refused (map g.D.Driver.meaning c.args.drivers.now) c.args.handle c.args.pairs.now c.args.self.now (sym c.has_guid_twice.ensures ∙ c.if-has_guid_twice.true)), refl)
