use Rattle.std.proofs.Common.{◌≡◌, length, vec_len, sym, arith}
use Rattle.std.proofs.lemmas.Bool.{eqb-true}
use Rattle.pool_services.proofs.GroupChanges.{begun-apart, begun-extents}
use Rattle.pool_services.proofs.extent_groups.begin.Goals as goal

pub returns : goal.returns
returns g c =
    let z : length c.args.groups.now.items ≡ 0 = omega (arith, eqb-true (vec_len c.args.groups.now) 0 (sym c.if-not-is_empty.ensures)) in
    record {
      extents = begun-extents c.args.groups.now.items c.push.new.self.items c.new.result z c.in_ok-push.ensures.items c.new.ensures;
      apart = begun-apart c.args.groups.now.items c.push.new.self.items c.new.result z c.in_ok-push.ensures.items c.new.ensures;
      some = omega (arith, c.in_ok-push.ensures.len);
    }
